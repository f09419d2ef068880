use Rattle.std.proofs.Common.{◌≡◌, map, string_bytes}
use Rattle.kmc_join.specs.Operand.{full_names}
use Rattle.kmc_join.proofs.opening.full_names.Given as goal

-- the words so far
abbrev pub invariant-loop-word : goal.invariant-loop-word
invariant-loop-word l = map string_bytes l.named.items ≡ full_names (map string_bytes l.yielded)
