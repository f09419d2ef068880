use Rattle.std.proofs.Common.{◌≡◌, ◌*◌, ◌^◌, ◌%◌, arith}
use Rattle.std.proofs.lemmas.Nat.{one_shl}
use Rattle.kmc_base.specs.Lemmas.Powers.{pow_quad}
use Rattle.kmc_split.proofs.marking.none_of.Goals as goal

pub returns : goal.returns
returns c =
    let m = c.args.m in
    let shifted : 1 * 2 ^ (2 * m) % 2 ^ 32 ≡ 2 ^ (2 * m) = one_shl (2 * m) 32 (omega (arith, c.requires)) in
    omega (arith, shifted, pow_quad m)
