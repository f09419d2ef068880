use Rattle.std.proofs.Common.{◌≡◌, ◌≤◌, ◌-◌, ◌++◌, take, drop, vec_capacity}
use Rattle.kmc_dump.specs.Keys.{key_pairs}
use Rattle.kmc_dump.proofs.keys.gather_keys.Given as goal

-- keys of so many pairs of the list stand behind the first
abbrev pub invariant-loop-i : goal.invariant-loop-i
invariant-loop-i g l = record {
  capacity : vec_capacity l.initial.keys ≤ vec_capacity l.keys;
  pairs : key_pairs l.least g.C.CountWidth.bits l.keys.items
      ≡ key_pairs l.least g.C.CountWidth.bits l.initial.keys.items ++ take (l.i - l.begin) (drop l.begin l.list.packed);
}
