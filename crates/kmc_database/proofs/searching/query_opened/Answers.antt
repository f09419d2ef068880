use Rattle.std.proofs.Common.{◌≡◌, ◌⊎◌, inl, inr, ap, ◌∙◌}
use Rattle.kmc_join.specs.Asking.{length_of}
use Rattle.kmc_sum.specs.Lemmas.Causes.{handed_on}
use Rattle.kmc_database.proofs.Searches.{asked_agree, left_searching}
use Rattle.kmc_database.proofs.searching.query_opened.Goals as goal
use Rattle.kmc_database.proofs.searching.query_opened.Goals.{else-length-ne0-via-then-length-ne0+else-length-database, else-length-ne0-via-else-length-ne0}

pub returns-in_err-put_found-clause-cause : goal.returns-in_err-put_found-clause-cause
returns-in_err-put_found-clause-cause g c =
    let e = c.in_err-put_found.field-0.0 in
    let o = c.args.database.now in
    let words = c.in-Ok.asked.items in
    let long : c.length_of-length.result ≡ length_of words = c.length_of-length.ensures.is ∙ ap length_of c.deref.ensures.value in
    let agrees : (c.length_of-length.result ≡ 0) ⊎ (c.length_of-length.result ≡ o.header.layout.k) = elim c.else-length-ne0.branch [
      | else-length-ne0-via-then-length-ne0+else-length-database w ↦ inr w.if-length-database.false
      | else-length-ne0-via-else-length-ne0 w ↦ inl w.if-length-ne0.false
    ] in
    handed_on c.from_residual.result e _ c.from_residual.ensures.1
    (left_searching o _ _ c.deref-2.result.now words c.deref-2.ensures.value (record {
      asked = c.in-Ok.ensures.gave;
      each = asked_agree o.header.layout.k c.length_of-length.result words long agrees c.in-Ok.ensures.each;
      kept = c.in-Ok.ensures.kept;
    }) c.in_err-put_found.ensures.begun e c.in_err-put_found.ensures.cause)
