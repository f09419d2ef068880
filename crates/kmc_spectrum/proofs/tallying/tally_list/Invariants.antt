use Rattle.std.proofs.Common.{◌≡◌, ℕ, ◌+◌, take}
use Rattle.std.specs.Ordering.{nat_cmp}
use Rattle.kmc_join.specs.Rows.{HasNoZero}
use Rattle.kmc_join.specs.Tally.{seen}
use Rattle.kmc_spectrum.specs.Tallied.{packed_with}
use Rattle.kmc_spectrum.proofs.tallying.tally_list.Given as goal

-- the counts of the pairs so far were seen once more each
abbrev pub invariant-loop-i : goal.invariant-loop-i
invariant-loop-i g l = record {
  sound : HasNoZero nat_cmp l.great;
  counts : (n : ℕ) → seen l.small.items l.great n ≡ seen l.initial.small.items l.initial.great n + packed_with (take l.i l.list.packed) n;
}
