-- The words so far are the long forms of the words that were read.
use Rattle.std.proofs.Common.{◌≡◌, map}
use Rattle.std.specs.Prelude.{string_bytes}
use Rattle.kmc_options.specs.Glued.{long_forms}
use Rattle.kmc_options.proofs.command_line.words.Given as goal

abbrev pub invariant-loop-word : goal.invariant-loop-word
invariant-loop-word l = map string_bytes l.words.items ≡ long_forms (map string_bytes l.yielded)
