use Rattle.std.proofs.Common.{◌≡◌, length, map, get_or}
use Rattle.kmc_slice_files.specs.Frames.{end_bytes}
use Rattle.kmc_slice_files.proofs.Each.{GotBelow}
use Rattle.kmc_slice_files.proofs.files.end_files.Given as goal

abbrev pub invariant-loop-s : goal.invariant-loop-s
invariant-loop-s g l = record {
  wide : length l.writers ≡ length l.initial.writers;
  same : map (λ w. w.failures) l.writers ≡ map (λ w. w.failures) l.initial.writers;
  got : GotBelow (λ s. end_bytes (get_or l.fn.counts s 0)) l.s (map (λ w. g.W.Write.contents w.inner) l.initial.writers)
      (map (λ w. g.W.Write.contents w.inner) l.writers);
}
