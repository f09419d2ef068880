use Rattle.std.proofs.Common.{◌≡◌, ◌++◌, map}
use Rattle.std.specs.List.{range_with_len}
use Rattle.kmc_base.specs.Pieces.{piece}
use Rattle.kmc_stage_one.proofs.pieces.push_pieces.Given as goal

abbrev pub invariant-loop-c : goal.invariant-loop-c
invariant-loop-c l = map (λ s. s.now) l.out.items ≡ map (λ s. s.now) l.initial.out.items ++ map (piece l.k l.l l.read) (range_with_len 0 l.c)
