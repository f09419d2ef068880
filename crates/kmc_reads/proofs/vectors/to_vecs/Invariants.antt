use Rattle.std.proofs.Common.{◌≡◌, ◌++◌, drop, map}
use Rattle.kmc_reads.proofs.vectors.to_vecs.Given as goal

-- the reads so far, and those of the rest
abbrev pub invariant-loop-i : goal.invariant-loop-i
invariant-loop-i l = map (λ r. r.items) l.vecs.items ++ drop l.i l.reads ≡ l.reads
