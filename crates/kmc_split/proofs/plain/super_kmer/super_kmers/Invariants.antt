use Rattle.std.proofs.Common.{◌≡◌, map, take}
use Rattle.kmc_split.specs.SuperKmers.{super_kmer_of_run}
use Rattle.kmc_split.proofs.plain.super_kmer.super_kmers.Given as goal

abbrev pub invariant-loop-r : goal.invariant-loop-r
invariant-loop-r l = l.found.items ≡ map (super_kmer_of_run l.k l.s.codes.items) (take l.r-index l.r-items)
