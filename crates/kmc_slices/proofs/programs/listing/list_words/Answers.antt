use Rattle.std.proofs.Common.{map, string_bytes, Err, inl, inr, refl, sym, ap, ◌∙◌}
use Rattle.kmc_options.specs.Status.{status_of}
use Rattle.kmc_slices.specs.ListProgram.{is_misuse}
use Rattle.kmc_slices.proofs.Statuses.{asks_for_nothing}
use Rattle.kmc_slices.proofs.programs.listing.list_words.Goals as goal

pub returns-in-Ok-clause-done : goal.returns-in-Ok-clause-done
returns-in-Ok-clause-done g c = λ status _.
    let done = c.list_files.ensures.done status in
    (c.in-Ok.request, c.in-Ok.ensures.asked, done.0, done.1)

pub returns-in-Ok-clause-failed : goal.returns-in-Ok-clause-failed
returns-in-Ok-clause-failed g c = λ status _.
    let why = c.list_files.ensures.failed status in
    inr (c.in-Ok.request, c.in-Ok.ensures.asked, why.0, why.1)

pub returns-in-Err-clause-failed : goal.returns-in-Err-clause-failed
returns-in-Err-clause-failed g c = λ status _. inl refl

pub returns-in-Err-clause-misused : goal.returns-in-Err-clause-misused
returns-in-Err-clause-misused g c = λ status. (
  asks_for_nothing (map string_bytes c.args.words.items) c.in-Err.error (λ is. c.in-Err.ensures.usage (ap Err is))
      (λ s is. (c.in-Err.ensures.range s (ap Err is)).1) (ap (λ f. status_of (is_misuse f)) (sym c.unnamed.ensures) ∙ sym c.ended.ensures.status ∙ status),
  refl,
)
