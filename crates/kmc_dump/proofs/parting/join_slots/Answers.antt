use Rattle.std.proofs.Common.{◌≡◌, ℕ, ◌*◌, ◌/◌, ◌<◌, ◌^◌, All, List, [], ◌∷◌, ◌++◌, length, refl, sym, ap, subst, ◌∙◌, arith}
use Rattle.std.proofs.lemmas.List.{get_or_default}
use Rattle.kmc_lists.specs.Ordered.{joined, packs}
use Rattle.kmc_dump.specs.Ranges.{ArePartedTo}
use Rattle.kmc_dump.specs.Lemmas.Finer.{next_slot, slot_size, slot_fits, all_before, end_fits}
use Rattle.kmc_dump.specs.Lemmas.Parted.{no_range}
use Rattle.kmc_dump.proofs.parting.join_slots.Goals as goal

pub loop-slot-init : goal.loop-slot-init
loop-slot-init g c =
    let w = 2 ^ c.min-fine.result in
    let q = c.finer_slots-step.result in
    let start : 0 * q ≡ 0 = omega arith in
    subst (λ (l : List ℕ). ArePartedTo w 0 l (0 * q) 0 c.args.lists.now) (sym
    (c.in_ok-push.ensures.items ∙ ap (λ (l : List ℕ). l ++ 0 ∷ []) c.new.ensures.items))
    (subst (λ n. ArePartedTo w 0 (0 ∷ []) n 0 c.args.lists.now) (sym start) (no_range w c.args.lists.now))

pub overflow_mul-slots : goal.overflow_mul-slots
overflow_mul-slots g c = omega (
  arith,
  end_fits c.args.shift c.min-fine.result c.args.slots c.finer_slots-step.result c.min-fine.ensures
      c.finer_slots-step.ensures c.ranges.slots.fits c.requires.room,
)

pub overflow_mul-begin : goal.overflow_mul-begin
overflow_mul-begin g c = omega (
  arith,
  slot_fits c.args.shift c.min-fine.result c.args.slots c.finer_slots-step.result c.min-fine.ensures
      c.finer_slots-step.ensures c.loop-slot.slot c.loop-slot-test.true c.ranges.slots.fits c.requires.room,
)

pub overflow_add-range : goal.overflow_add-range
overflow_add-range g c = omega (
  arith,
  slot_fits c.args.shift c.min-fine.result c.args.slots c.finer_slots-step.result c.min-fine.ensures
      c.finer_slots-step.ensures c.loop-slot.slot c.loop-slot-test.true c.ranges.slots.fits c.requires.room,
)

pub add_slot-requires-clause-size : goal.add_slot-requires-clause-size
add_slot-requires-clause-size g c =
    let a = c.args in
    let to = c.loop-slot.slot in
    let sizes = c.in_ok-sizes.sizes.items in
    let size = c.index.result.now in
    let inside : to < length sizes = omega (arith, c.in_ok-sizes.ensures.long, c.loop-slot-test.true) in
    slot_size a.shift c.min-fine.result a.slots c.finer_slots-step.result c.min-fine.ensures c.finer_slots-step.ensures size to a.lists.now
    (c.index.ensures ∙ get_or_default sizes to size 0 inside ∙ c.in_ok-sizes.ensures.each to inside)

pub loop-slot-preserved : goal.loop-slot-preserved
loop-slot-preserved g c =
    let new = c.add_slot.new.joined in
    subst (λ n. ArePartedTo (2 ^ c.min-fine.result) new.widest new.bounds.items n new.pending c.args.lists.now)
    (sym (next_slot c.args.shift c.min-fine.result c.args.slots c.finer_slots-step.result c.min-fine.ensures c.finer_slots-step.ensures c.loop-slot.slot))
    (c.in_ok-add_slot.ensures c.loop-slot.invariant)

pub returns : goal.returns
returns g c =
    let a = c.args in
    let fine = c.min-fine.result in
    let w = 2 ^ fine in
    let q = c.finer_slots-step.result in
    let lists = a.lists.now in
    let held = c.loop-slot.joined in
    let end : c.loop-slot.slot ≡ a.slots = omega (arith, c.loop-slot-test.false, c.loop-slot.auto.slot-end) in
    let whole = c.in_ok-close_range.ensures.are w lists
    (subst (λ n. ArePartedTo w held.widest held.bounds.items (n * q) held.pending lists) end c.loop-slot.invariant) in (
      refl,
      record {
        some = a.size.within.0;
        most = a.size.within.1;
        merge = c.requires.merge;
        shift = omega (arith, c.min-fine.ensures, c.requires.shift);
        ends = whole.some;
        bounds = whole.are;
        first = whole.first;
        last = subst (λ n. All (λ p. p.0 / w < n) (joined (packs lists))) (sym c.in_ok-close_range.ensures.last)
            (all_before a.shift fine a.slots q c.min-fine.ensures c.finer_slots-step.ensures (joined (packs lists)) c.requires.inside.inside);
      },
    )
