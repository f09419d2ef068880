use Rattle.std.proofs.Common.{◌≡◌, ◌*◌, ◌≤◌, take}
use Rattle.std.specs.List.{flat_map}
use Rattle.kmc_lists.specs.Listed.{spelled}
use Rattle.kmc_dump.specs.Ranges.{numbers}
use Rattle.kmc_dump.proofs.range.put_pairs.Given as goal

-- the pairs so far
abbrev pub invariant-loop-word : goal.invariant-loop-word
invariant-loop-word g l = record {
  room : l.end ≤ l.word-index * g.F.PairForm.most l.form l.size.k g.C.CountWidth.most_digits;
  lines : take l.end l.text ≡ flat_map (g.F.PairForm.bytes l.form) (spelled l.size.k (numbers g.W.PackedKmer.number (take l.word-index l.pairs)));
}
