use Rattle.std.proofs.Common.{◌≡◌, ◌<◌, ◌≤◌, ◌+◌, true, false}
use Rattle.std.specs.Io.KnownBytes.{IsAtEnd}
use Rattle.kmc_stage_one.specs.Lemmas.Stored.{AreStored}
use Rattle.kmc_stage_one.proofs.rounds.earlier_rounds.Given as goal

abbrev pub invariant-loop : goal.invariant-loop
invariant-loop g l = record {
  shaped : l.bins.shape ≡ l.dealing.settings.shape;
  kept : l.reader.failures ≡ l.fn.reader.failures;
  many : l.fn.reader.reads + l.counter ≤ l.reader.reads;
  some : l.more ≡ true → l.fn.reader.reads + l.counter < l.reader.reads;
  below : l.reader.reads ≤ l.most;
  under : l.more ≡ false → l.reader.reads < l.most;
  ended : l.more ≡ false → IsAtEnd (g.R.Read.remaining l.reader.inner);
  stored : AreStored l.dealing.settings.format l.dealing.settings.shape l.dealing.limit (g.R.Read.remaining l.fn.reader.inner)
      (g.R.Read.remaining l.reader.inner) l.fn.reader.reads l.reader.reads l.bins l.feeder;
}
