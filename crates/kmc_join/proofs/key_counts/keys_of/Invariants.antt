use Rattle.std.proofs.Common.{◌≡◌, map, take}
use Rattle.kmc_base.specs.Strands.{key}
use Rattle.kmc_join.proofs.key_counts.keys_of.Given as goal

-- the keys so far, in the order of the words
abbrev pub invariant-loop-word : goal.invariant-loop-word
invariant-loop-word l = l.keys.items ≡ map (key l.strands) (take l.word-index l.words)
