use Rattle.std.proofs.Common.{◌≡◌, take}
use Rattle.kmc_base.specs.Record.{codes_in}
use Rattle.kmc_record.proofs.plain.decoding.unpacked.Given as goal

abbrev pub invariant-loop-i : goal.invariant-loop-i
invariant-loop-i l = l.codes.items ≡ take l.i (codes_in l.bytes)
