use Rattle.std.proofs.Common.{◌≡◌, take, map}
use Rattle.kmc_base.specs.Packed.{pack}
use Rattle.kmc_count.specs.Lemmas.KeysOfReads.{keys_of_reads}
use Rattle.kmc_count.proofs.plain.direct.count_at.Given as goal

-- the keys of the reads so far
abbrev pub invariant-loop-read : goal.invariant-loop-read
invariant-loop-read g l = map g.W.PackedKmer.number l.words.items ≡ map pack (keys_of_reads l.rule.strands l.rule.k (take l.read-index (map (λ r. r.items) l.reads)))
