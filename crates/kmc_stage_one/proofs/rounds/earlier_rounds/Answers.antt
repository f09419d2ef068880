use Rattle.std.proofs.Common.{◌≡◌, ◌+◌, ◌-◌, [], Ok, ap, subst, ◌∙◌, arith}
use Rattle.kmc_stage_one.specs.Fed.{AreCountsOf}
use Rattle.kmc_base.specs.Lemmas.PassedOn.{not_ok, passed_on}
use Rattle.kmc_stage_one.specs.Lemmas.Fed.{unfaulted, risen, counts_on}
use Rattle.kmc_stage_one.specs.Lemmas.Stored.{fed_cause}
use Rattle.kmc_stage_one.proofs.rounds.earlier_rounds.Goals as goal

pub returns-in_err-more-clause-cause : goal.returns-in_err-more-clause-cause
returns-in_err-more-clause-cause g c =
    let p = c.args.dealing.now.settings in let e = c.in_err-more.field-0.0 in let to = c.from_residual in
    let old = c.args.reader.now in let new = c.fill_round.new.reader in
    let counts = subst (λ n. AreCountsOf (n + c.args.max_reads) old.reads new.reads old.failures new.failures e) c.reads.ensures
    c.in_err-more.ensures.counts in
    passed_on _ to.result e to.ensures.1 (
      counts,
      fed_cause (p.shape.k - 1) p.format c.args.max_reads _ _ old.reads new.reads old.failures new.failures []
          c.fill_round.new.feeder e (c.in_err-more.ensures.fed (p.shape.k - 1) p.format [] [] c.requires.feeder) counts,
    )

pub loop-init : goal.loop-init
loop-init g c =
    let p = c.args.dealing.now.settings in let old = c.args.reader.now in let new = c.fill_round.new.reader in
    let r = risen (c.reads.result + c.args.max_reads) old.reads new.reads old.failures new.failures c.in_ok-more.more
    c.in_ok-more.ensures.counts in
    record {
      shaped = c.requires.shape;
      kept = r.kept;
      many = omega (arith, r.least);
      some = λ e. (let k = r.some e in omega (arith, k));
      below = r.below;
      under = r.under;
      ended = λ e. c.in_ok-more.ensures.at_end (ap Ok e);
      stored = record {
        taken = [];
        fed = c.in_ok-more.ensures.fed (p.shape.k - 1) p.format [] [] c.requires.feeder;
        holds = c.requires.bins;
      };
    }

pub returns-then-not-more-clause-stored : goal.returns-then-not-more-clause-stored
returns-then-not-more-clause-stored g c =
    let inv = c.loop.invariant in let end = c.if-not-more.true in
    (inv.stored, inv.ended end, inv.kept, omega (arith, inv.many), omega (arith, inv.under end, c.reads.ensures))

pub returns-in_err-more-2-clause-cause : goal.returns-in_err-more-2-clause-cause
returns-in_err-more-2-clause-cause g c =
    let inv = c.loop.invariant in let p = c.args.dealing.now.settings in
    let e = c.in_err-more-2.field-0.0 in let to = c.from_residual-in_err-more-2 in
    let old = c.args.reader.now in let mid = c.loop.reader in let new = c.next_round.new.reader in
    let told = subst (λ n. AreCountsOf (n + c.args.max_reads) mid.reads new.reads mid.failures new.failures e) c.reads.ensures
    c.in_err-more-2.ensures.counts in
    let by = c.in_err-more-2.ensures.stored p.format _ old.reads inv.stored in
    let counts = counts_on e (old.reads + c.args.max_reads) old.reads mid.reads new.reads old.failures mid.failures new.failures
    (omega (arith, inv.many)) inv.kept told in
    passed_on _ to.result e to.ensures.1 (
      counts,
      fed_cause (p.shape.k - 1) p.format c.args.max_reads _ _ old.reads new.reads old.failures new.failures by.0
          c.next_round.new.feeder e by.1 counts,
    )

pub loop-preserved : goal.loop-preserved
loop-preserved g c =
    let inv = c.loop.invariant in
    let old = c.args.reader.now in let mid = c.loop.reader in let new = c.next_round.new.reader in
    let r = risen (c.reads.result + c.args.max_reads) mid.reads new.reads mid.failures new.failures c.in_ok-more-2.more
    c.in_ok-more-2.ensures.counts in
    let begun = inv.some c.if-not-more.false in
    record {
      shaped = c.next_round.ensures.shape;
      kept = r.kept ∙ inv.kept;
      many = omega (arith, begun, r.least);
      some = λ e. (let k = r.some e in omega (arith, k, begun));
      below = r.below;
      under = r.under;
      ended = λ e. c.in_ok-more-2.ensures.at_end (ap Ok e);
      stored = c.in_ok-more-2.ensures.stored c.args.dealing.now.settings.format _ old.reads inv.stored;
    }

pub returns-clause-cause : goal.returns-clause-cause
returns-clause-cause g c =
    let inv = c.loop.invariant in let st = inv.stored in let p = c.args.dealing.now.settings in (
      omega (arith, inv.below, inv.many, c.reads.ensures, c.loop-test.false, c.requires.most),
      (
        st.fed.bytes,
        st.fed.given,
        omega (arith, st.fed.many, inv.many, c.loop-test.false, c.requires.most),
        unfaulted (p.shape.k - 1) p.format st.fed.bytes st.taken c.loop.feeder st.fed.stands,
      ),
    )

pub returns-in_err-more-clause-shape : goal.returns-in_err-more-clause-shape
returns-in_err-more-clause-shape g c = c.requires.shape

pub returns-in_err-more-clause-stored : goal.returns-in_err-more-clause-stored
returns-in_err-more-clause-stored g c = not_ok _ _ c.from_residual.result c.from_residual.ensures.1

pub returns-then-not-more-clause-shape : goal.returns-then-not-more-clause-shape
returns-then-not-more-clause-shape g c = c.loop.invariant.shaped

pub returns-then-not-more-clause-cause : goal.returns-then-not-more-clause-cause
returns-then-not-more-clause-cause g c = tt

pub returns-in_err-more-2-clause-shape : goal.returns-in_err-more-2-clause-shape
returns-in_err-more-2-clause-shape g c = c.next_round.ensures.shape

pub returns-in_err-more-2-clause-stored : goal.returns-in_err-more-2-clause-stored
returns-in_err-more-2-clause-stored g c = not_ok _ _ c.from_residual-in_err-more-2.result c.from_residual-in_err-more-2.ensures.1
