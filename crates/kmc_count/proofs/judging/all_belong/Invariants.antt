use Rattle.std.proofs.Common.{◌≤◌, length, map, drop}
use Rattle.kmc_base.specs.Words.{windows}
use Rattle.kmc_record.specs.Bodies.{Belong}
use Rattle.kmc_record.specs.Parts.{all_windows}
use Rattle.kmc_record.specs.RecordKeys.{codes_of}
use Rattle.kmc_count.proofs.judging.all_belong.Given as goal

-- the words of the last numbers belong to the bin, and so do those of the one that was looked at last
abbrev pub invariant-loop-left : goal.invariant-loop-left
invariant-loop-left l = record {
  inside : l.left ≤ length l.keys;
  last : Belong l.bin l.fn.shape (windows l.fn.shape.k (codes_of l.behind));
  rest : Belong l.bin l.fn.shape (all_windows l.fn.shape.k (map codes_of (drop l.left l.keys)));
}

abbrev pub decreases-loop-left : goal.decreases-loop-left
decreases-loop-left l = l.left
