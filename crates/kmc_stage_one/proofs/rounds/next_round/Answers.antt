use Rattle.std.proofs.Common.{◌≡◌, Bool, ◌+◌, ◌-◌, [], ◌++◌, OnOk, refl, subst, ◌∙◌, arith}
use Rattle.std.specs.Prelude.{Result, Ok, IsErrAnd}
use Rattle.kmc_stage_one.specs.declared.round.TheConstants.{BLOCK}
use Rattle.kmc_stage_one.specs.Fed.{AreCounts, IsFedBy, IsFilled}
use Rattle.kmc_stage_one.specs.Rounds.{HoldsPieces, reads_of_round}
use Rattle.kmc_reads.specs.declared.input_error.InputError.TheVariants.{Memory}
use Rattle.kmc_stage_one.specs.Lemmas.Fed.{counts_err, fed_by, fed_on, memory_on, taken_fed}
use Rattle.kmc_stage_one.specs.Lemmas.Stored.{stored_err}
use Rattle.kmc_stage_one.proofs.rounds.next_round.Goals as goal

-- what is passed on is no answer
no_end : {E : Type 0} (P : Type 0) (Q : E → Type 0) (r : Result Bool E) (b : Bool) → IsErrAnd r Q → r ≡ Ok b → P
no_end P Q r b is same = absurd (subst (λ x. IsErrAnd x Q) same is)

pub returns-in_err-round-clause-stored : goal.returns-in_err-round-clause-stored
returns-in_err-round-clause-stored g c = λ format first before st.
    let d = c.args.dealing.now in
    stored_err format d.settings.shape d.limit first _ before _ c.args.bins.now c.take_round.new.feeder c.from_residual.result Memory
    c.from_residual.ensures.1 [] tt

pub returns-in_err-round-clause-counts : goal.returns-in_err-round-clause-counts
returns-in_err-round-clause-counts g c =
    let r = c.args.reader.now in
    counts_err c.args.most r.reads r.reads r.failures r.failures c.from_residual.result Memory c.from_residual.ensures.1
    (refl, omega arith, c.requires.reads)

pub returns-in_err-more-clause-stored : goal.returns-in_err-more-clause-stored
returns-in_err-more-clause-stored g c = λ format first before st.
    let d = c.args.dealing.now in let k = d.settings.shape.k - 1 in let e = c.in_err-more.field-0.0 in
    let old = c.args.reader.now in let new = c.feed_round-stored.new.reader in
    let round = c.in_ok-round.round in
    let stands = c.in_ok-round.ensures.stands format st.fed.bytes st.taken st.fed.stands in
    let f = taken_fed k format _ _ before old.reads st.taken round c.args.feeder.now c.take_round.new.feeder st.fed stands in
    let more = c.feed_round-stored.ensures.fed k format st.fed.bytes (st.taken ++ round) stands in
    let fed = fed_by k format _ _ _ before old.reads new.reads [] (st.taken ++ round) c.take_round.new.feeder
    c.feed_round-stored.new.feeder c.feed_round-stored.result.1 f more in
    let to = c.from_residual-in_err-more in
    stored_err format d.settings.shape d.limit first _ before _ c.feed_round-stored.new.bins c.feed_round-stored.new.feeder to.result e
    to.ensures.1 (st.taken ++ round)
    (subst (λ r. IsFedBy k format first (g.R.Read.remaining new.inner) before new.reads [] (st.taken ++ round) c.feed_round-stored.new.feeder r)
    c.in_err-more.was fed)

pub returns-in_err-more-clause-counts : goal.returns-in_err-more-clause-counts
returns-in_err-more-clause-counts g c =
    let old = c.args.reader.now in let new = c.feed_round-stored.new.reader in let to = c.from_residual-in_err-more in
    counts_err c.args.most old.reads new.reads old.failures new.failures to.result c.in_err-more.field-0.0 to.ensures.1
    (subst (AreCounts c.args.most old.reads new.reads old.failures new.failures) c.in_err-more.was c.feed_round-stored.ensures.counts)

pub returns-in_err-stored-clause-stored : goal.returns-in_err-stored-clause-stored
returns-in_err-stored-clause-stored g c = λ format first before st.
    let d = c.args.dealing.now in let to = c.from_residual-in_err-stored in
    stored_err format d.settings.shape d.limit first _ before _ c.feed_round-stored.new.bins c.feed_round-stored.new.feeder to.result Memory
    to.ensures.1 [] tt

pub returns-in_err-stored-clause-counts : goal.returns-in_err-stored-clause-counts
returns-in_err-stored-clause-counts g c =
    let old = c.args.reader.now in let new = c.feed_round-stored.new.reader in let to = c.from_residual-in_err-stored in
    counts_err c.args.most old.reads new.reads old.failures new.failures to.result Memory to.ensures.1
    (memory_on _ _ _ _ _ c.in_ok-more.more _ _ _ (subst (AreCounts c.args.most old.reads new.reads old.failures new.failures) c.in_ok-more.was
    c.feed_round-stored.ensures.counts) (omega arith) refl refl)

pub returns-clause-stored : goal.returns-clause-stored
returns-clause-stored g c = λ format first before st.
    let d = c.args.dealing.now in let k = d.settings.shape.k - 1 in
    let old = c.args.reader.now in let new = c.feed_round-stored.new.reader in
    let round = c.in_ok-round.round in
    let stands = c.in_ok-round.ensures.stands format st.fed.bytes st.taken st.fed.stands in
    let f = taken_fed k format _ _ before old.reads st.taken round c.args.feeder.now c.take_round.new.feeder st.fed stands in
    let more = subst (λ o. IsFedBy k format (g.R.Read.remaining old.inner) (g.R.Read.remaining new.inner)
    old.reads new.reads st.fed.bytes (st.taken ++ round) c.feed_round-stored.new.feeder o) c.in_ok-more.was
    (c.feed_round-stored.ensures.fed k format st.fed.bytes (st.taken ++ round) stands) in
    record {
      taken = st.taken ++ round;
      fed = fed_on k format _ _ _ before old.reads new.reads [] (st.taken ++ round) c.take_round.new.feeder c.feed_round-stored.new.feeder f more;
      holds = subst (λ o. OnOk o (HoldsPieces d.settings.shape d.limit (st.taken ++ round) c.feed_round-stored.new.bins.bodies))
          c.in_ok-stored.was (c.feed_round-stored.ensures.holds st.taken st.holds);
    }

pub returns-clause-counts : goal.returns-clause-counts
returns-clause-counts g c =
    let old = c.args.reader.now in let new = c.feed_round-stored.new.reader in
    subst (AreCounts c.args.most old.reads new.reads old.failures new.failures) c.in_ok-more.was c.feed_round-stored.ensures.counts

pub returns-clause-at_end : goal.returns-clause-at_end
returns-clause-at_end g c = λ e. c.feed_round-stored.ensures.at_end (c.in_ok-more.was ∙ e)

pub returns-in_err-round-clause-shape : goal.returns-in_err-round-clause-shape
returns-in_err-round-clause-shape g c = c.requires.shape

pub returns-in_err-round-clause-at_end : goal.returns-in_err-round-clause-at_end
returns-in_err-round-clause-at_end g c = no_end _ _ c.from_residual.result _ c.from_residual.ensures.1

pub returns-in_err-more-clause-shape : goal.returns-in_err-more-clause-shape
returns-in_err-more-clause-shape g c = c.feed_round-stored.ensures.shape

pub returns-in_err-more-clause-at_end : goal.returns-in_err-more-clause-at_end
returns-in_err-more-clause-at_end g c = no_end _ _ c.from_residual-in_err-more.result _ c.from_residual-in_err-more.ensures.1

pub returns-in_err-stored-clause-shape : goal.returns-in_err-stored-clause-shape
returns-in_err-stored-clause-shape g c = c.feed_round-stored.ensures.shape

pub returns-in_err-stored-clause-at_end : goal.returns-in_err-stored-clause-at_end
returns-in_err-stored-clause-at_end g c = no_end _ _ c.from_residual-in_err-stored.result _ c.from_residual-in_err-stored.ensures.1

pub returns-clause-shape : goal.returns-clause-shape
returns-clause-shape g c = c.feed_round-stored.ensures.shape

pub returns-clause-held : goal.returns-clause-held
returns-clause-held g c =
    let d = c.args.dealing.now in let k = d.settings.shape.k - 1 in
    let old = c.args.reader.now in let new = c.feed_round-stored.new.reader in
    record {
      emptied = c.take_round.new.feeder;
      handed = c.in_ok-round.ensures.handed;
      filled = λ format text taken s. subst (λ o. OnOk o (IsFilled (reads_of_round d.settings.queue.writers d.settings.batch) d.symbols BLOCK k format
          (g.R.Read.remaining old.inner) (g.R.Read.remaining new.inner) text taken c.take_round.new.feeder c.feed_round-stored.new.feeder))
          c.in_ok-more.was (c.feed_round-stored.ensures.filled k format text taken s);
    }
