use Rattle.std.proofs.Common.{◌≡◌, ◌*◌, ◌≤◌, take}
use Rattle.std.specs.List.{flat_map}
use Rattle.kmc_dump.specs.Keys.{key_pairs}
use Rattle.kmc_lists.specs.Listed.{spelled}
use Rattle.kmc_dump.proofs.keys.put_key_pairs.Given as goal

-- the pairs so far
abbrev pub invariant-loop-key : goal.invariant-loop-key
invariant-loop-key g l = record {
  room : l.end ≤ l.key-index * g.F.PairForm.most l.form l.size.k g.C.CountWidth.most_digits;
  lines : take l.end l.text ≡ flat_map (g.F.PairForm.bytes l.form) (spelled l.size.k (key_pairs l.least g.C.CountWidth.bits (take l.key-index l.keys)));
}
