use Rattle.std.proofs.Common.{◌≡◌, ◌<◌, ◌^◌, take}
use Rattle.kmc_base.specs.Packed.{pack}
use Rattle.kmc_database.proofs.looking_up.part_of.Given as goal

abbrev pub invariant-loop-i : goal.invariant-loop-i
invariant-loop-i l = (l.number ≡ pack (take l.i l.word)) × (l.number < 4 ^ l.i)
