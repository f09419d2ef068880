use Rattle.std.proofs.Common.{◌≡◌, ◌∙◌, sym, ap, arith, ℕ, zero, suc, ◌<◌, true, false}
use Rattle.std.specs.Prelude.{◌==◌, Some}
use Rattle.kmc_partqueue.specs.Lemmas.Sums.{get_at}
use Rattle.test_support.proofs.queue.gathered.Goals as goal

some_left : (n : ℕ) → (n == 0) ≡ false → 0 < n
some_left zero e = let no : true ≡ false = e in cc
some_left (suc n) e = omega arith

pub gather-requires-clause-finished : goal.gather-requires-clause-finished
gather-requires-clause-finished g c =
    let long = c.args.readers.ok.0 in
    let some = some_left c.args.readers.len (sym c.is_empty.ensures ∙ c.if-is_empty.false) in
    let first = c.index.result.now in (
      first,
      (0, get_at c.args.readers.items 0 first (omega arith) ∙ ap Some (sym c.index.ensures)),
      c.finished.ensures.0 c.if-not-finished.false,
    )
