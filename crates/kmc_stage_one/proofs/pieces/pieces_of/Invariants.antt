use Rattle.std.proofs.Common.{◌≡◌, map, take}
use Rattle.std.specs.List.{flat_map}
use Rattle.kmc_base.specs.Pieces.{pieces}
use Rattle.kmc_stage_one.proofs.pieces.pieces_of.Given as goal

abbrev pub invariant-loop-i : goal.invariant-loop-i
invariant-loop-i l = map (λ s. s.now) l.out.items ≡ flat_map (pieces l.k l.limit) (take l.i l.reads)
