use Rattle.std.proofs.Common.{◌≡◌, ◌*◌, ◌%◌, ◌^◌, ◌≤◌, max, ap, ◌∙◌, arith}
use Rattle.std.proofs.Math.Nat.{pow-le-pow_right}
use Rattle.kmc_base.specs.Lemmas.Powers.{pow_quad}
use Rattle.kmc_count.proofs.adding.most_items.Goals as goal

pub returns : goal.returns
returns c =
    let k = c.args.k in
    let most : 2 * k ≤ 24 = omega (arith, c.requires) in
    let few : 2 ^ (2 * k) ≤ 2 ^ 24 = pow-le-pow_right (omega arith) most in
    let kept : 2 * 2 ^ (2 * k) % 2 ^ 64 ≡ 2 * 4 ^ k = omega (arith, few, pow_quad k) in
    c.max.ensures ∙ ap (max (2 ^ 14)) kept
