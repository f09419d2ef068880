use Rattle.std.proofs.Common.{◌≡◌, ◌+◌, ◌-◌, [], ◌++◌, refl, sym, ap, subst, ◌∙◌, arith, Some}
use Rattle.kmc_store.specs.Bins.{BinList}
use Rattle.kmc_store.specs.Holds.{HoldsReads}
use Rattle.kmc_reads.specs.Errors.{input_error}
use Rattle.kmc_base.specs.Lemmas.PassedOn.{no_answer, not_ok, passed_on}
use Rattle.kmc_reads.specs.declared.input_error.InputError.TheVariants.{Memory}
use Rattle.kmc_stage_one.specs.Lemmas.Fed.{text_counts}
use Rattle.kmc_stage_one.specs.Lemmas.Stored.{last_input}
use Rattle.kmc_stage_one.proofs.rounds.bins_of_input.Goals as goal

pub earlier_rounds-requires-clause-shape : goal.earlier_rounds-requires-clause-shape
earlier_rounds-requires-clause-shape g c κs within =
    ap (λ (b : BinList). b.shape) c.in_ok-bins.ensures

pub earlier_rounds-requires-clause-bins : goal.earlier_rounds-requires-clause-bins
earlier_rounds-requires-clause-bins g c κs within =
    let shape = c.args.settings.now.shape in
    subst (λ (b : BinList). HoldsReads shape [] b.bodies) (sym c.in_ok-bins.ensures)
    (c.empty_bins_hold_no_reads.ensures shape)

pub earlier_rounds-requires-clause-feeder : goal.earlier_rounds-requires-clause-feeder
earlier_rounds-requires-clause-feeder g c κs within = c.new-feeder.ensures (Some (c.args.settings.now.shape.k - 1))

pub returns-in_err-bins-clause-ok : goal.returns-in_err-bins-clause-ok
returns-in_err-bins-clause-ok g c = no_answer _ _ c.from_residual.result c.from_residual.ensures.1

pub returns-in_err-bins-clause-sound : goal.returns-in_err-bins-clause-sound
returns-in_err-bins-clause-sound g c = not_ok _ _ c.from_residual.result c.from_residual.ensures.1

pub returns-in_err-earlier_rounds-clause-ok : goal.returns-in_err-earlier_rounds-clause-ok
returns-in_err-earlier_rounds-clause-ok g c = no_answer _ _ c.from_residual-in_err-earlier_rounds.result c.from_residual-in_err-earlier_rounds.ensures.1

pub returns-in_err-earlier_rounds-clause-sound : goal.returns-in_err-earlier_rounds-clause-sound
returns-in_err-earlier_rounds-clause-sound g c = not_ok _ _ c.from_residual-in_err-earlier_rounds.result c.from_residual-in_err-earlier_rounds.ensures.1

pub returns-in_err-last_round-clause-ok : goal.returns-in_err-last_round-clause-ok
returns-in_err-last_round-clause-ok g c = no_answer _ _ c.from_residual-in_err-last_round.result c.from_residual-in_err-last_round.ensures.1

pub returns-in_err-last_round-clause-sound : goal.returns-in_err-last_round-clause-sound
returns-in_err-last_round-clause-sound g c = not_ok _ _ c.from_residual-in_err-last_round.result c.from_residual-in_err-last_round.ensures.1

pub returns-in_err-bins-clause-counts : goal.returns-in_err-bins-clause-counts
returns-in_err-bins-clause-counts g c = passed_on _ c.from_residual.result Memory c.from_residual.ensures.1 (refl, omega arith, omega arith)

pub returns-in_err-bins-clause-cause : goal.returns-in_err-bins-clause-cause
returns-in_err-bins-clause-cause g c = passed_on _ c.from_residual.result Memory c.from_residual.ensures.1 tt

pub returns-in_err-earlier_rounds-clause-counts : goal.returns-in_err-earlier_rounds-clause-counts
returns-in_err-earlier_rounds-clause-counts g c =
    let to = c.from_residual-in_err-earlier_rounds in
    passed_on _ to.result c.in_err-earlier_rounds.field-0.0 to.ensures.1 c.in_err-earlier_rounds.ensures.cause.0

pub returns-in_err-earlier_rounds-clause-cause : goal.returns-in_err-earlier_rounds-clause-cause
returns-in_err-earlier_rounds-clause-cause g c =
    let to = c.from_residual-in_err-earlier_rounds in
    passed_on _ to.result c.in_err-earlier_rounds.field-0.0 to.ensures.1 c.in_err-earlier_rounds.ensures.cause.1

pub returns-in_err-last_round-clause-counts : goal.returns-in_err-last_round-clause-counts
returns-in_err-last_round-clause-counts g c =
    let st = c.in_ok-earlier_rounds.ensures.stored in let e = c.in_err-last_round.field-0.0 in let to = c.from_residual-in_err-last_round in
    let old = c.args.reader.now in let new = c.earlier_rounds.new.reader in
    passed_on _ to.result (input_error e) to.ensures.1
    (text_counts (old.reads + c.args.max_reads) old.reads new.reads old.failures new.failures e st.2 st.3 (omega (arith, st.4)))

pub returns-in_err-last_round-clause-cause : goal.returns-in_err-last_round-clause-cause
returns-in_err-last_round-clause-cause g c =
    let gave = c.in_ok-earlier_rounds.ensures.stored in let st = gave.0 in let e = c.in_err-last_round.field-0.0 in
    let to = c.from_residual-in_err-last_round in let p = c.args.settings.now in
    passed_on _ to.result (input_error e) to.ensures.1
    (last_input (p.shape.k - 1) p.format c.args.max_reads _ _ c.args.reader.now.reads c.earlier_rounds.new.reader.reads st.taken
    c.earlier_rounds.new.feeder e st.fed gave.1 (c.in_err-last_round.ensures.cause p.format st.fed.bytes st.taken st.fed.stands))

pub returns-clause-ok : goal.returns-clause-ok
returns-clause-ok g c =
    let gave = c.in_ok-earlier_rounds.ensures.stored in let st = gave.0 in let p = c.args.settings.now in
    let last = c.in_ok-last_round.ensures.holds p.format st.fed.bytes st.taken st.taken st.fed.stands st.holds in
    record {
      bytes = st.fed.bytes;
      given = (st.fed.given, gave.1);
      reads = last.0;
      are_reads = last.2;
      cuts = st.taken ++ last.1;
      cut = last.3;
      shaped = c.in_ok-last_round.ensures.shape;
      holds = last.4;
    }

pub returns-clause-sound : goal.returns-clause-sound
returns-clause-sound g c =
    let st = c.in_ok-earlier_rounds.ensures.stored in (st.2, st.3, st.4)
