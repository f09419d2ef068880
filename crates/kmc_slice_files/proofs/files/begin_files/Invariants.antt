use Rattle.std.proofs.Common.{◌≡◌, ◌<◌, ℕ, length, map, get_or}
use Rattle.kmc_slice_files.specs.Files.{header_bytes}
use Rattle.kmc_slice_files.proofs.Each.{GotBelow}
use Rattle.kmc_slice_files.proofs.files.begin_files.Given as goal

abbrev pub invariant-loop-s : goal.invariant-loop-s
invariant-loop-s g l = record {
  wide : length l.writers ≡ length l.initial.writers;
  counted : length l.counts ≡ length l.initial.writers;
  same : map (λ w. w.failures) l.writers ≡ map (λ w. w.failures) l.initial.writers;
  none : (t : ℕ) → t < l.s → get_or l.counts t 0 ≡ 0;
  got : GotBelow (header_bytes l.shape (length l.initial.writers)) l.s (map (λ w. g.W.Write.contents w.inner) l.initial.writers)
      (map (λ w. g.W.Write.contents w.inner) l.writers);
}
