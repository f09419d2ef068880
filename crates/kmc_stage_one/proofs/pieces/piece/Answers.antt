use Rattle.std.proofs.Common.{◌≡◌, ◌+◌, ◌-◌, ◌*◌, ◌<◌, length, drop, ap, arith}
use Rattle.std.proofs.lemmas.List.{length-take-le, length-drop}
use Rattle.std.proofs.lemmas.Grind.{common_steps, rows}
use Rattle.kmc_base.specs.Pieces.{step_of}
use Rattle.kmc_stage_one.proofs.OnePiece.{begins}
use Rattle.kmc_stage_one.proofs.pieces.piece.Goals as goal

pub returns-else-rest-l-clause-least : goal.returns-else-rest-l-clause-least
returns-else-rest-l-clause-least c =
    let xs = c.args.read.now in
    let k = c.args.k in
    let at = c.args.c * (c.args.l - k + 1) in
    let d : step_of k c.args.l ≡ c.args.l - k + 1 = omega arith in
    let begin : c.args.c * step_of k c.args.l < length xs + 1 - k = begins c.args.c (length xs + 1 - k) (step_of k c.args.l) (omega arith) c.requires.inside in
    let same : c.args.c * step_of k c.args.l ≡ at = ap (λ n. c.args.c * n) d in
    let whole = length-take-le (length xs - at) (drop at xs) (omega (arith, length-drop at xs)) in
    omega (arith, whole, begin, same)

pub overflow_mul-rest : goal.overflow_mul-rest
overflow_mul-rest c = grind (arith, common_steps)

pub slice_bounds-rest-count : goal.slice_bounds-rest-count
slice_bounds-rest-count c = grind (arith, common_steps, rows)

pub slice_bounds-rest-start : goal.slice_bounds-rest-start
slice_bounds-rest-start c = grind (arith, common_steps, rows)

pub returns-then-rest-l-clause-is : goal.returns-then-rest-l-clause-is
returns-then-rest-l-clause-is c = grind (arith, common_steps)

pub returns-else-rest-l-clause-is : goal.returns-else-rest-l-clause-is
returns-else-rest-l-clause-is c = grind (arith, common_steps)
