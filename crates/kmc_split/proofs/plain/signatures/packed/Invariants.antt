use Rattle.std.proofs.Common.{◌≡◌, ◌^◌, ◌<◌, take}
use Rattle.kmc_base.specs.Packed.{unpack}
use Rattle.kmc_split.proofs.plain.signatures.packed.Given as goal

abbrev pub invariant-loop-i : goal.invariant-loop-i
invariant-loop-i l = (l.number < 4 ^ l.i) × (unpack l.i l.number ≡ take l.i l.w)
