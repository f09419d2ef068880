use Rattle.std.proofs.Common.{◌≡◌, ◌++◌, map}
use Rattle.std.specs.Vec.Iter.{into_iter_items}
use Rattle.kmc_count.specs.Merge.{joined}
use Rattle.kmc_count.proofs.plain.merge.join.Given as goal

-- the lists so far have moved
abbrev pub invariant-loop-list-2 : goal.invariant-loop-list-2
invariant-loop-list-2 l = record {
  seen : l.fn.lists.items ≡ l.yielded ++ into_iter_items l.list-iterator;
  moved : l.pairs.items ≡ joined (map (λ v. v.items) l.yielded);
}
