use Rattle.std.proofs.Common.{◌≡◌, ℕ, ◌-◌, ◌*◌, ◌%◌, ◌^◌, ◌<◌, List, ◌++◌, take, replicate, ap, ◌∙◌, arith}
use Rattle.std.proofs.Math.Seq.{take-nil}
use Rattle.std.proofs.lemmas.Nat.{one_shl}
use Rattle.kmc_base.specs.Lemmas.Powers.{pow_quad}
use Rattle.kmc_count.proofs.adding.make_table.Goals as goal

pub returns : goal.returns
returns c =
    let k = c.args.k in
    let n = 1 * 2 ^ (2 * k) % 2 ^ 64 in
    let less : 2 * k < 64 = omega (arith, c.requires) in
    let wide : n ≡ 4 ^ k = omega (arith, one_shl (2 * k) 64 less, pow_quad k) in
    let left = n - c.clear.new.self.len in
    let all : left ≡ 4 ^ k = omega (arith, wide, c.clear.ensures.len) in
    c.in_ok-resize.ensures.items
    ∙ ap (λ (t : List ℕ). take n t ++ replicate left 0) c.clear.ensures.items
    ∙ ap (λ (t : List ℕ). t ++ replicate left 0) (take-nil n)
    ∙ ap (λ m. replicate m 0) all
