use Rattle.std.proofs.Common.{◌≡◌, ◌⊎◌, ◌≤◌}
use Rattle.kmc_stage_one.specs.Fed.{HasRoomForReads}
use Rattle.kmc_stage_one.specs.Lemmas.Fed.{IsUnderWay}
use Rattle.kmc_stage_one.proofs.round.fill_round.Given as goal

abbrev pub invariant-loop : goal.invariant-loop
invariant-loop g l = record {
  most : l.reader.reads ≤ l.most;
  room : (l.feeder ≡ l.initial.feeder) ⊎ HasRoomForReads l.reads l.symbols l.feeder;
  way : IsUnderWay (g.R.Read.remaining l.initial.reader.inner)
      (g.R.Read.remaining l.reader.inner) l.initial.reader.reads l.reader.reads l.initial.reader.failures l.reader.failures l.counter l.initial.feeder l.feeder;
}
