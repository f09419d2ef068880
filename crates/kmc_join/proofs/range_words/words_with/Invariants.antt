use Rattle.std.proofs.Common.{◌≡◌, map, string_bytes, take}
use Rattle.std.specs.List.{filter}
use Rattle.kmc_join.specs.RangeWords.{begins_with}
use Rattle.kmc_join.proofs.range_words.words_with.Given as goal

-- the words so far
abbrev pub invariant-loop-word : goal.invariant-loop-word
invariant-loop-word l = map string_bytes l.found.items ≡ filter (begins_with l.name) (map string_bytes (take l.word-index l.words))
