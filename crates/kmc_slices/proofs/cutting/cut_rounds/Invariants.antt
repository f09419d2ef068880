use Rattle.std.proofs.Common.{◌≡◌, ◌<◌, ◌≤◌, ◌+◌, true, false, length, map}
use Rattle.std.specs.Io.KnownBytes.{IsAtEnd}
use Rattle.kmc_slices.proofs.Told.{AreUnderWay}
use Rattle.kmc_slices.proofs.cutting.cut_rounds.Given as goal

abbrev pub invariant-loop : goal.invariant-loop
invariant-loop g l = record {
  kept : l.reader.failures ≡ l.fn.reader.failures;
  many : l.fn.reader.reads + l.counter ≤ l.reader.reads;
  some : l.more ≡ true → l.fn.reader.reads + l.counter < l.reader.reads;
  below : l.reader.reads ≤ l.most;
  under : l.more ≡ false → l.reader.reads < l.most;
  ended : l.more ≡ false → IsAtEnd (g.R.Read.remaining l.reader.inner);
  shaped : l.bins.shape ≡ l.dealing.settings.shape;
  wide : length l.writers ≡ length l.fn.writers;
  counted : length l.counts ≡ length l.fn.counts;
  same : map (λ w. w.failures) l.writers ≡ map (λ w. w.failures) l.fn.writers;
  way : AreUnderWay l.dealing.settings.format l.dealing.settings.shape l.dealing.limit (length l.fn.writers) (g.R.Read.remaining l.fn.reader.inner)
      (g.R.Read.remaining l.reader.inner) l.fn.reader.reads l.reader.reads l.feeder (map (λ w. g.W.Write.contents w.inner) l.fn.writers)
      (map (λ w. g.W.Write.contents w.inner) l.writers) l.fn.counts l.counts;
}
