use Rattle.std.proofs.Common.{◌≡◌, ◌-◌, length, inr, ap, arith}
use Rattle.std.proofs.lemmas.Grind.{common_steps}
use Rattle.std.proofs.lemmas.List.{length-drop}
use Rattle.kmc_join.proofs.Asked.{are_tabled}
use Rattle.kmc_join.proofs.arguments.table_files.Goals as goal

pub returns-clause-done : goal.returns-clause-done
returns-clause-done g c = λ is.
    let done = c.table_readers.ensures.done is in
    let two : length c.as_mut_slice.result.now ≡ 2 = first_of (
      omega (
        arith,
        ap length c.as_mut_slice.ensures.value,
        c.in-Ok.ensures,
        length-drop (length c.args.words.now - 2) c.args.words.now,
        c.requires.long,
      ),
      grind (arith, common_steps),
    ) in
    (record { read = are_tabled _ _ _ c.as_mut_slice.result.now _ c.requires.asks two; written = done.0 }, done.2)

pub returns-clause-failed : goal.returns-clause-failed
returns-clause-failed g c = λ is.
    let left = c.table_readers.ensures.failed is in
    let two : length c.as_mut_slice.result.now ≡ 2 = first_of (
      omega (
        arith,
        ap length c.as_mut_slice.ensures.value,
        c.in-Ok.ensures,
        length-drop (length c.args.words.now - 2) c.args.words.now,
        c.requires.long,
      ),
      grind (arith, common_steps),
    ) in
    inr (record { read = are_tabled _ _ _ c.as_mut_slice.result.now _ c.requires.asks two; olds = _; news = _; error = left.0; cause = left.1 })
