use Rattle.std.proofs.Common.{◌≡◌, map}
use Rattle.std.specs.List.{range_with_len}
use Rattle.kmc_record.specs.Parts.{empty_part}
use Rattle.kmc_record.proofs.parts.empty_parts.Given as goal

abbrev pub invariant-loop-bin : goal.invariant-loop-bin
invariant-loop-bin l = l.parts.items ≡ map (empty_part l.number l.shape) (range_with_len 0 l.bin)
