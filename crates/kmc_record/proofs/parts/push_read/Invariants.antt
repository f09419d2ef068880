use Rattle.std.proofs.Common.{◌≡◌, ◌+◌, ◌-◌, ◌++◌, List, length, drop}
use Rattle.kmc_base.specs.Stretches.{Stretch, stretches_from, segments_of}
use Rattle.kmc_base.specs.Lemmas.Stretching.{long_enough}
use Rattle.kmc_record.specs.GrowingParts.{HaveTaken}
use Rattle.kmc_record.proofs.parts.push_read.Given as goal

-- the segments so far, and those of the rest
abbrev pub invariant-loop-place : goal.invariant-loop-place
invariant-loop-place l = (ss : List Stretch) × (ss ++ long_enough l.shape.k (stretches_from l.place (drop l.place l.read)) ≡ segments_of l.shape.k l.read)
    × HaveTaken l.shape ss l.initial.parts.items l.parts.items

abbrev pub decreases-loop-place : goal.decreases-loop-place
decreases-loop-place l = length l.read + 1 - l.place
