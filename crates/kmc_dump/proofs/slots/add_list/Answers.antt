use Rattle.std.proofs.Common.{ℕ, ◌^◌, ◌/◌, ap, arith}
use Rattle.std.proofs.lemmas.Grind.{common_steps, elements}
use Rattle.kmc_dump.proofs.Histogram.{noted}
use Rattle.kmc_dump.proofs.slots.add_list.Goals as goal

pub loop-i-preserved : goal.loop-i-preserved
loop-i-preserved g c =
    let w = 2 ^ c.args.shift in
    let first = ap (λ (p : ℕ × ℕ). p.0 / w) (c.get-word.ensures (0, 0)) in
    let slot = ap (λ n. n / w) c.to_u128.ensures in
    let low = c.requires.inside c.loop-i.i (0, 0) (omega arith) in
    noted c.loop-i.sizes c.args.sizes.now w c.loop-i.i _ c.in-Some.size c.args.list.now.packed
    (g.W.PackedKmer.number c.get-word.result.0, g.C.CountWidth.count c.get-word.result.1)
    (omega arith) (c.get-word.ensures _) slot (omega (arith, low, first, slot)) c.in-Some.ensures.1 c.loop-i.invariant

pub overflow_cast-slot-in-loop-i : goal.overflow_cast-slot-in-loop-i
overflow_cast-slot-in-loop-i g c = grind (arith, elements)

pub offset_bounds-sizes-slot : goal.offset_bounds-sizes-slot
offset_bounds-sizes-slot g c = grind (arith, elements)

pub bounds-sizes-slot : goal.bounds-sizes-slot
bounds-sizes-slot g c = grind (arith, elements)

pub offset_bounds-sizes-slot-in-loop-i : goal.offset_bounds-sizes-slot-in-loop-i
offset_bounds-sizes-slot-in-loop-i g c = grind (arith, elements)

pub bounds-sizes-slot-in-loop-i : goal.bounds-sizes-slot-in-loop-i
bounds-sizes-slot-in-loop-i g c = grind (arith, elements)

pub returns : goal.returns
returns g c = grind (arith, common_steps)
