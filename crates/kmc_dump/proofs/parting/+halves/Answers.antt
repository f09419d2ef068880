use Rattle.std.proofs.Common.{ℕ, ◌≡◌, ◌+◌, ◌-◌, ◌/◌, ◌^◌, ◌<◌, ◌≤◌, List, sym, subst, arith}
use Rattle.kmc_lists.specs.Ordered.{joined, packs}
use Rattle.kmc_dump.specs.Ranges.{count_within, ArePartedTo}
use Rattle.kmc_dump.specs.Lemmas.Parted.{both, range_more, closed}
use Rattle.kmc_dump.proofs.parting.+halves.Goals as goal

pub returns-then-count-le-USUAL : goal.returns-then-count-le-USUAL
returns-then-count-le-USUAL g t c = λ widest wider h low few.
    let a = c.args in
    let w = 2 ^ a.range.shift in
    let lists = a.lists.now in
    subst (λ (l : List ℕ). ArePartedTo w wider l a.range.to 0 lists) (sym c.in_ok-push.ensures.items)
    (closed w widest a.bounds.now.items a.range.to a.count wider lists (range_more w widest a.bounds.now.items a.range.from 0 lists a.count a.range.to a.count h c.args.range.order c.requires.count (omega arith))
    low few)

pub overflow_sub-count : goal.overflow_sub-count
overflow_sub-count g t c =
    let a = c.args in
    let up : a.range.from + (a.range.to - a.range.from) / 2 ≤ a.range.to = omega (arith, c.args.range.order) in
    omega (arith, c.requires.count, c.in_ok-few.ensures, both (2 ^ a.range.shift) a.range.from (a.range.from + (a.range.to - a.range.from) / 2) a.range.to (omega arith) up (joined (packs a.lists.now)))

pub part_range-requires-2 : goal.part_range-requires-2
part_range-requires-2 g t c κs within =
    let a = c.args in
    let middle = a.range.from + (a.range.to - a.range.from) / 2 in
    let up : middle ≤ a.range.to = omega (arith, c.args.range.order) in
    let high : a.count - c.in_ok-few.few ≡ count_within (2 ^ a.range.shift) middle a.range.to a.lists.now =
    omega (arith, c.requires.count, c.in_ok-few.ensures, both (2 ^ a.range.shift) a.range.from middle a.range.to (omega arith) up (joined (packs a.lists.now))) in
    let falls : a.range.to - middle < t = omega (arith, c.decreases, c.if-range-le1.false, c.args.range.order) in
    (falls, (within.0, (within.1, (c.requires.rise, high))))

pub returns : goal.returns
returns g t c = λ widest wider h low few.
    let one : c.in_ok-first.first ≤ wider = omega (arith, few, c.max.ensures) in
    let other : c.in_ok-second.second ≤ wider = omega (arith, few, c.max.ensures) in
    c.in_ok-second.ensures wider wider (c.in_ok-first.ensures widest wider h low one) (omega arith) other
