use Rattle.std.proofs.Common.{◌-◌, ◌*◌, ◌^◌, ap, arith}
use Rattle.std.proofs.lemmas.Nat.{one_shl}
use Rattle.kmc_base.specs.Lemmas.Powers.{all_slots}
use Rattle.kmc_dump.proofs.Histogram.{slot_fits}
use Rattle.kmc_dump.proofs.parting.part_words.Goals as goal

pub join_slots-requires-clause-shift : goal.join_slots-requires-clause-shift
join_slots-requires-clause-shift g c κs within = omega (arith, c.leading-symbols.ensures.some, c.args.size.within.1)

pub join_slots-requires-clause-inside : goal.join_slots-requires-clause-inside
join_slots-requires-clause-inside g c κs within =
    let s = c.leading-symbols.result in
    let slots = one_shl (2 * s) 64 (omega (arith, c.leading-symbols.ensures.few)) in
    record { inside = λ i d inside. omega (arith, slot_fits c.args.size.k s _ c.leading-symbols.ensures.within (c.requires.merge.fit i d inside), slots) }

pub join_slots-requires-clause-room : goal.join_slots-requires-clause-room
join_slots-requires-clause-room g c κs within =
    let k = c.args.size.k in
    let s = c.leading-symbols.result in
    let slots = one_shl (2 * s) 64 (omega (arith, c.leading-symbols.ensures.few)) in
    let product = ap (λ n. n * 2 ^ (2 * (k - s))) slots in
    omega (arith, product, all_slots k s c.leading-symbols.ensures.within c.args.size.within.1)

pub returns : goal.returns
returns g c = c.join_slots.ensures
