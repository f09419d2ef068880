use Rattle.std.proofs.Common.{◌≡◌, ℕ, length, map, get_or}
use Rattle.test_slices.proofs.devices.writers_of.Given as goal

abbrev pub invariant-loop-s : goal.invariant-loop-s
invariant-loop-s l = record {
  many : length l.writers.items ≡ l.s;
  fresh : (i : ℕ) → get_or (map (λ w. w.failures) l.writers.items) i 0 ≡ 0;
}
