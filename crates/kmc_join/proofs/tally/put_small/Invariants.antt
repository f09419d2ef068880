use Rattle.std.proofs.Common.{◌≡◌, ℕ, ◌<◌, ◌≤◌}
use Rattle.std.specs.Ordering.{nat_cmp}
use Rattle.kmc_join.specs.Rows.{HasNoZero, number_of}
use Rattle.kmc_join.specs.Tally.{seen}
use Rattle.kmc_join.proofs.tally.put_small.Given as goal

-- the counts so far are put there, and the others are as they were
abbrev pub invariant-loop-i : goal.invariant-loop-i
invariant-loop-i l = record {
  sound : HasNoZero nat_cmp l.tally;
  below : (n : ℕ) → n < l.i → number_of nat_cmp l.tally n ≡ seen l.small l.initial.tally n;
  above : (n : ℕ) → l.i ≤ n → number_of nat_cmp l.tally n ≡ number_of nat_cmp l.initial.tally n;
}
