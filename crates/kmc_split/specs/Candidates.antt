-- The candidates for a signature, and how the test on m-mers lies in bits.
use Rattle.std.specs.Prelude.{◌≡◌, ℕ, ◌+◌, ◌-◌, ◌*◌, ◌^◌, ◌<◌, ◌≤◌, cond, nat_eq, List, length, slice_index}
use Rattle.std.proofs.Common.{zero, suc}
use Rattle.kmc_base.specs.Words.{canonical, window}
use Rattle.kmc_base.specs.Packed.{pack, unpack}
use Rattle.kmc_split.specs.Signature.{is_allowed}

-- the value of a canonical form where that is allowed, else another number
abbrev pub value_or : ℕ → List ℕ → ℕ
value_or other v = cond (is_allowed v) (pack v) other

-- the value of the canonical form where that is allowed, else the mark 4 ^ m - 1, which is the value of no canonical form of one code
-- or more: so m codes hold it
abbrev pub candidate : ℕ → List ℕ → ℕ
candidate m v = value_or (4 ^ m - 1) (canonical v)

-- the same of a packed canonical form
abbrev pub packed_candidate : ℕ → ℕ → ℕ
packed_candidate m p = cond (is_allowed (unpack m p)) p (4 ^ m - 1)

-- the values begin with the candidates of all m-mers of the codes
pub record AreCandidates (m : ℕ) (codes values : List ℕ) : Type 0 where
  pub each : (i : ℕ) → i + m ≤ length codes → slice_index values i ≡ candidate m (window m codes i)
  pub fit : (i : ℕ) → i + m ≤ length codes → slice_index values i < 4 ^ m

-- the signature that the least of some candidates is: 4 ^ m in place of the mark
abbrev pub unmarked : ℕ → ℕ → ℕ
unmarked m least = cond (nat_eq least (4 ^ m - 1)) (4 ^ m) least

-- 1 in each of n pairs of bits
abbrev pub pair_marks : ℕ → ℕ
pair_marks zero = 0
pair_marks (suc n) = pair_marks n * 4 + 1
