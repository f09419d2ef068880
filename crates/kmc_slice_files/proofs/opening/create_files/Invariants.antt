use Rattle.std.proofs.Common.{◌≡◌, ℕ, length, map, get_or}
use Rattle.kmc_slice_files.proofs.opening.create_files.Given as goal

abbrev pub invariant-loop-s : goal.invariant-loop-s
invariant-loop-s g l = record {
  many : length l.writers.items ≡ l.s-counter;
  fresh : (i : ℕ) → get_or (map (λ w. w.failures) l.writers.items) i 0 ≡ 0;
}
