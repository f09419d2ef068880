use Rattle.std.proofs.Common.{◌≡◌, map, take}
use Rattle.kmc_record.proofs.plain.chunk.parts_of.Given as goal

-- a slice for each read so far
abbrev pub invariant-loop-read : goal.invariant-loop-read
invariant-loop-read l = map (λ s. s.now) l.reads.items ≡ map (λ r. r.items) (take l.read-index l.read-items)
