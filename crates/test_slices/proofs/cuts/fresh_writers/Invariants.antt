use Rattle.std.proofs.Common.{◌≡◌, ℕ, length, map, get_or}
use Rattle.test_slices.proofs.cuts.fresh_writers.Given as goal

abbrev pub invariant-loop : goal.invariant-loop
invariant-loop l = record {
  many : length l.writers.items ≡ l.counter;
  fresh : (i : ℕ) → get_or (map (λ w. w.failures) l.writers.items) i 0 ≡ 0;
}
