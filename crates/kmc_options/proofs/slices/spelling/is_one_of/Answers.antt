use Rattle.std.proofs.Common.{◌∙◌, [], Bor}
use Rattle.kmc_options.specs.Words.{Word}
use Rattle.std.specs.Str.{bytes_eq}
use Rattle.kmc_options.proofs.Found.{found_kept, found_next}
use Rattle.kmc_options.proofs.slices.spelling.is_one_of.Goals as goal
use Rattle.kmc_options.proofs.slices.spelling.is_one_of.Goals.{then-found, else-found}

pub loop-one-preserved : goal.loop-one-preserved
loop-one-preserved c =
    let test = bytes_eq c.args.word.now in
    let all = c.args.all.now in
    let i = c.loop-one.one-index in
    elim c.if-found.branch [
      | then-found w ↦ w.found-is ∙ found_kept (λ (a : Bor Word). a.now) test all i (record { ref_ptr = (0, 0); now = [] }) _ c.loop-one-test.true w.if-found.true c.loop-one.invariant
      | else-found w ↦
          w.found-is ∙ w.eq-found.ensures ∙ found_next (λ (a : Bor Word). a.now) test all i (record { ref_ptr = (0, 0); now = [] }) _ c.loop-one-test.true w.if-found.false c.loop-one.invariant
    ]
