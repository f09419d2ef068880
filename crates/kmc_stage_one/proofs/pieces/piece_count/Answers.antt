use Rattle.std.proofs.Common.{◌≡◌, ℕ, ◌+◌, ◌-◌, ◌*◌, ◌/◌, ◌<◌, ◌≤◌, sym, arith}
use Rattle.std.proofs.Math.Nat.{div-eq_of_lt-le}
use Rattle.std.proofs.lemmas.Grind.{common_steps}
use Rattle.kmc_base.specs.Pieces.{piece_count, step_of}
use Rattle.kmc_stage_one.proofs.pieces.piece_count.Goals as goal

-- the pieces behind the first begin a step further each
first_and_more : (k l n : ℕ) → 1 ≤ k → k ≤ l → k ≤ n → (n - k) / (l - k + 1) + 1 ≡ piece_count k l n
first_and_more k l n some most long = grind (arith, common_steps)

pub returns-then-symbols-l : goal.returns-then-symbols-l
returns-then-symbols-l c =
    let step = step_of c.args.k c.args.l in let places = c.args.symbols + 1 - c.args.k + (step - 1) in
    let least : 1 * step ≤ places = omega arith in
    let most : places < (1 + 1) * step = omega arith in
    sym (div-eq_of_lt-le {k = 1} step least most)

pub returns-else-symbols-l : goal.returns-else-symbols-l
returns-else-symbols-l c = first_and_more c.args.k c.args.l c.args.symbols c.requires.some c.requires.most (omega arith)
