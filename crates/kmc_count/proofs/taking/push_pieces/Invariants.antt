use Rattle.std.proofs.Common.{◌*◌, ◌-◌}
use Rattle.kmc_count.proofs.Pieces.{IsPieced}
use Rattle.kmc_count.proofs.taking.push_pieces.Given as goal

abbrev pub invariant-loop-at : goal.invariant-loop-at
invariant-loop-at l = IsPieced l.rule.strands l.rule.k l.symbols l.bytes l.initial.numbers.items l.numbers.items l.at

abbrev pub decreases-loop-at : goal.decreases-loop-at
decreases-loop-at l = l.symbols - 4 * l.at
