-- `clap` says which words a command without rules between arguments refuses, and what it finds.
use Rattle.std.proofs.Common.{◌≡◌, ◌∙◌, List, inl, inr, map, subst, sym}
use Rattle.std.specs.Prelude.{string_bytes}
use Rattle.clap.specs.Simple.{app_of}
use Rattle.clap.specs.Matches.{found_of}
use Rattle.clap.specs.Walk.{rows_of}
use Rattle.kmc_options.specs.Parsed.{FailsAs}
use Rattle.kmc_options.specs.declared.error.ParamsError.{ParamsError}
use Rattle.kmc_options.specs.declared.error.ParamsError.TheVariants.{Memory}
use Rattle.kmc_options.proofs.Judging.{accepts, finds, judged, plain, refuses}
use Rattle.kmc_options.proofs.command.parse.Goals as goal
use Rattle.kmc_options.specs.Words.{Word}
use Rattle.kmc_options.specs.declared.program.Program.{Program}

for_memory : (p : Program) (words : List Word) (e : ParamsError) → e ≡ Memory → FailsAs p words e
for_memory p words e is = subst (FailsAs p words) (sym is) tt

pub returns-in-Ok-try_get_matches_from : goal.returns-in-Ok-try_get_matches_from
returns-in-Ok-try_get_matches_from c =
    let app = app_of c.in-Ok.command in
    let words = map string_bytes c.args.words.now in
    let is = c.in-Ok.ensures in (
      accepts c.args.program app words is (c.in-Ok-try_get_matches_from.ensures.kinds (judged c.args.program app is)),
      finds c.args.program app words (rows_of (found_of c.in-Ok-try_get_matches_from.matches)) is (c.in-Ok-try_get_matches_from.ensures.matches (plain c.args.program app is)).0,
    )

pub returns-in-Err : goal.returns-in-Err
returns-in-Err c =
    let app = app_of c.in-Ok.command in
    let words = map string_bytes c.args.words.now in
    let is = c.in-Ok.ensures in
    let memory = for_memory c.args.program words c.fault.result in
    elim c.fault.ensures.usage [
      | inl kind ↦ memory (c.fault.ensures.memory kind)
      | inr usage ↦ elim (c.in-Err.ensures.kinds (judged c.args.program app is)) [
        | inl kind ↦ memory (c.fault.ensures.memory (c.kind.ensures ∙ kind))
        | inr among ↦ subst (FailsAs c.args.program words) (sym usage) (refuses c.args.program app words _ is among)
      ]
    ]
