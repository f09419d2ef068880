use Rattle.std.proofs.Common.{◌≡◌, map, take}
use Rattle.kmc_reads.proofs.vectors.slices_of.Given as goal

-- the slices of the reads so far
abbrev pub invariant-loop-read : goal.invariant-loop-read
invariant-loop-read l = map (λ s. s.now) l.slices.items ≡ map (λ r. r.items) (take l.read-index l.reads)
