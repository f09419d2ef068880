use Rattle.std.proofs.Common.{◌≡◌, ℕ, ◌-◌, ◌%◌, ◌^◌, ◌<◌, bit_and, ◌∙◌, arith}
use Rattle.std.specs.Int.{trailing_zeros, w64}
use Rattle.std.proofs.lemmas.Nat.{and_mask, one_shl}
use Rattle.std.proofs.lemmas.Nat.Bits.{bit_at-trailing_zeros}
use Rattle.kmc_split.proofs.remainders.remainder.Goals as goal

-- the lowest bits of a number are its remainder by a power of two
lowest_bits : (number n j : ℕ) → n ≡ 2 ^ j → bit_and number (n - 1) ≡ number % n
lowest_bits number n j e = rw e (and_mask number j)

pub returns-then-n-power : goal.returns-then-n-power
returns-then-n-power c =
    let n = c.args.n in
    let power : trailing_zeros w64 n < 64 = (bit_at-trailing_zeros w64 n (omega arith) (omega arith)).0 in
    lowest_bits c.args.number n (trailing_zeros w64 n) (c.if-n-power.true ∙ one_shl (trailing_zeros w64 n) 64 power)
