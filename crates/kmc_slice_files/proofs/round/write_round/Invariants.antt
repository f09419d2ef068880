use Rattle.std.proofs.Common.{◌≡◌, length, map}
use Rattle.kmc_slice_files.specs.Writes.{AreFramed}
use Rattle.kmc_slice_files.proofs.round.write_round.Given as goal

-- the bins below are out
abbrev pub invariant-loop-b : goal.invariant-loop-b
invariant-loop-b g l = record {
  wide : length l.writers ≡ length l.initial.writers;
  counted : length l.counts ≡ length l.initial.writers;
  same : map (λ w. w.failures) l.writers ≡ map (λ w. w.failures) l.initial.writers;
  framed : AreFramed (length l.bodies) (length l.initial.writers) l.b (map (λ b. b.items) l.bodies)
      (map (λ w. g.W.Write.contents w.inner) l.initial.writers)
      (map (λ w. g.W.Write.contents w.inner) l.writers) l.initial.counts l.counts;
}
