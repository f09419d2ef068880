use Rattle.std.proofs.Common.{inl, inr, map}
use Rattle.std.specs.Prelude.{string_bytes}
use Rattle.kmc_options.specs.Glued.{long_forms}
use Rattle.kmc_tool.proofs.arguments.program.Goals as goal

pub returns-in-Ok-Some-clause-done : goal.returns-in-Ok-Some-clause-done
returns-in-Ok-Some-clause-done g c = λ zero. (long_forms (map string_bytes c.in-Ok-Some.argv.items), c.program_of.ensures.done zero)

pub returns-in-Ok-Some-clause-failed : goal.returns-in-Ok-Some-clause-failed
returns-in-Ok-Some-clause-failed g c = λ one.
    elim (c.program_of.ensures.failed one) [
      | inl silent ↦ inl silent
      | inr front ↦ inr (long_forms (map string_bytes c.in-Ok-Some.argv.items), front)
    ]

pub returns-in-Ok-Some-clause-misused : goal.returns-in-Ok-Some-clause-misused
returns-in-Ok-Some-clause-misused g c = λ two. let told = c.program_of.ensures.misused two in (told.1, told.2)
