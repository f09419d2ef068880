use Rattle.std.proofs.Common.{◌≡◌, ◌++◌, take, map}
use Rattle.std.specs.List.{flat_map}
use Rattle.kmc_base.specs.Packed.{pack}
use Rattle.kmc_base.specs.Segments.{stretch}
use Rattle.kmc_base.specs.Strands.{keys}
use Rattle.kmc_count.proofs.plain.direct.push_read.Given as goal

-- the keys of the segments so far are there
abbrev pub invariant-loop-segment : goal.invariant-loop-segment
invariant-loop-segment g l = map g.W.PackedKmer.number l.words.items
    ≡ map g.W.PackedKmer.number l.initial.words.items ++ map pack (flat_map (λ s. keys l.rule.strands l.rule.k s.codes)
    (take l.segment-index (map stretch l.segment-items)))
