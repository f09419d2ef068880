use Rattle.std.proofs.Common.{◌≡◌, ℕ, ◌<◌, ◌^◌, length, take}
use Rattle.std.specs.Ordering.{nat_cmp}
use Rattle.kmc_lists.specs.Ordered.{joined, packs}
use Rattle.kmc_join.specs.Rows.{HasNoZero}
use Rattle.kmc_join.specs.Tally.{seen}
use Rattle.kmc_spectrum.specs.Tallied.{packed_with}
use Rattle.kmc_spectrum.proofs.tallying.tally_lists.Given as goal

-- the pairs of the lists so far are tallied
abbrev pub invariant-loop-list : goal.invariant-loop-list
invariant-loop-list g l = record {
  many : l.before ≡ length (joined (packs (take l.list-index l.lists)));
  fits : l.before < 2 ^ 64;
  sound : HasNoZero nat_cmp l.tally;
  counts : (n : ℕ) → seen l.small.items l.tally n ≡ packed_with (joined (packs (take l.list-index l.lists))) n;
}
