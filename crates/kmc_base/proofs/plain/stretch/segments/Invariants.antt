use Rattle.std.proofs.Common.{◌≡◌, ◌≤◌, ◌<◌, ◌-◌, ◌++◌, length, drop, map}
use Rattle.std.specs.List.{All}
use Rattle.kmc_base.specs.Segments.{stretch}
use Rattle.kmc_base.specs.Stretches.{stretches_from, segments_of}
use Rattle.kmc_base.specs.Lemmas.Stretching.{joined, long_enough}
use Rattle.kmc_base.proofs.plain.stretch.segments.Given as goal

-- the segments so far, and those of the open stretch and what follows it
abbrev pub invariant-loop-b : goal.invariant-loop-b
invariant-loop-b l = (l.place ≡ l.b-index) × All (λ c. c < 4) l.open.items × (length l.open.items ≤ l.b-index)
    × (map stretch l.segments.items ++ long_enough l.k (joined (l.b-index - length l.open.items) l.open.items
    (stretches_from l.b-index (drop l.b-index l.read))) ≡ segments_of l.k l.read)
