use Rattle.std.proofs.Common.{ℕ, ◌+◌, ◌<◌, map, slice_index}
use Rattle.kmc_base.specs.Words.{window}
use Rattle.kmc_base.specs.Lemmas.Rolling.{IsRolling}
use Rattle.kmc_split.proofs.Rolled.{Holds}
use Rattle.kmc_split.proofs.rolling.canonical_values.Given as goal

-- over the first m - 1 codes
abbrev pub invariant-loop-i : goal.invariant-loop-i
invariant-loop-i g l = IsRolling l.m l.codes l.i l.forward l.back

-- and one more for each place
abbrev pub invariant-loop-j : goal.invariant-loop-j
invariant-loop-j g l = IsRolling l.m l.codes (l.j + l.before) l.forward l.back
    × ((i : ℕ) → i < l.j → Holds l.m (window l.m l.codes i) (slice_index (map g.V.Mmer.number l.out) i))
