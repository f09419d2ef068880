-- whether one of the words so far is this one
use Rattle.std.proofs.Common.{◌≡◌, map, take, string_bytes}
use Rattle.kmc_options.specs.About.{has_word}
use Rattle.kmc_options.proofs.about.has_word.Given as goal

abbrev pub invariant-loop-other : goal.invariant-loop-other
invariant-loop-other l = l.found ≡ has_word l.word (map string_bytes (take l.other-index l.words))
