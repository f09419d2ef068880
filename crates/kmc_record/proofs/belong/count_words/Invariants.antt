use Rattle.std.proofs.Common.{◌≤◌, ◌-◌, length, take}
use Rattle.kmc_record.specs.Parts.{IsPart}
use Rattle.kmc_record.proofs.belong.count_words.Given as goal

-- whole records of the bin up to the offset
abbrev pub invariant-loop-offset : goal.invariant-loop-offset
invariant-loop-offset l = record {
  inside : l.offset ≤ length l.body;
  part : IsPart l.bin l.fn.shape (take l.offset l.body) l.words;
}

abbrev pub decreases-loop-offset : goal.decreases-loop-offset
decreases-loop-offset l = length l.body - l.offset
