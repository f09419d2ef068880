use Rattle.std.proofs.Common.{◌≤◌, length, take, refl, sym, ap, subst, ◌∙◌, le_trans, arith}
use Rattle.std.proofs.lemmas.List.{with_items_is}
use Rattle.kmc_dump.proofs.Rooms.{fewer_fit, resized}
use Rattle.kmc_dump.proofs.fill.put_text.Goals as goal

pub put_keys-requires-clause-merge : goal.put_keys-requires-clause-merge
put_keys-requires-clause-merge g c = c.requires.ranges.merge

pub put_keys-requires-clause-small : goal.put_keys-requires-clause-small
put_keys-requires-clause-small g c = c.if-has_room_for_keys.ensures.small refl

pub put_keys-requires-clause-least : goal.put_keys-requires-clause-least
put_keys-requires-clause-least g c = c.if-has_room_for_keys.ensures.least refl

pub put_keys-requires-clause-fits : goal.put_keys-requires-clause-fits
put_keys-requires-clause-fits g c = c.if-has_room_for_keys.ensures.fits refl

pub put_keys-requires-clause-keys : goal.put_keys-requires-clause-keys
put_keys-requires-clause-keys g c = omega (arith, c.requires.few, c.if-has_room_for_keys.ensures.keys refl)

pub put_range-requires-clause-merge : goal.put_range-requires-clause-merge
put_range-requires-clause-merge g c = c.requires.ranges.merge

pub put_range-requires-clause-pairs : goal.put_range-requires-clause-pairs
put_range-requires-clause-pairs g c = omega (arith, c.requires.few, c.requires.room.pairs)

pub invariant_of-range : goal.invariant_of-range
invariant_of-range g c = record { below = c.requires.ranges.shift; order = c.requires.range }

pub invariant_of-size : goal.invariant_of-size
invariant_of-size g c = record { within = (c.requires.ranges.some, c.requires.ranges.most) }

pub put_keys-requires-clause-text : goal.put_keys-requires-clause-text
put_keys-requires-clause-text g c =
    let full = resized c.resize.result _ _ _ (c.resize.ensures.succeeds (omega (arith, c.capacity.ensures))) c.resize.ensures.len in
    fewer_fit _ _ _ _ c.requires.few (omega (arith, c.requires.room.text, full, c.capacity.ensures, c.deref_mut.ensures.len))

pub returns-then-has_room_for_keys-clause-within : goal.returns-then-has_room_for_keys-clause-within
returns-then-has_room_for_keys-clause-within g c =
    let new = c.put_keys.new.text in
    subst (λ ns. c.put_keys.result ≤ length ns) (sym (with_items_is c.resize.new.self new (omega (arith, c.put_keys.auto.text, c.deref_mut.ensures.len)))) c.put_keys.ensures.within

pub returns-then-has_room_for_keys-clause-text : goal.returns-then-has_room_for_keys-clause-text
returns-then-has_room_for_keys-clause-text g c =
    let new = c.put_keys.new.text in
    ap (take c.put_keys.result) (with_items_is c.resize.new.self new (omega (arith, c.put_keys.auto.text, c.deref_mut.ensures.len))) ∙ c.put_keys.ensures.lines

pub returns-then-has_room_for_keys-clause-room : goal.returns-then-has_room_for_keys-clause-room
returns-then-has_room_for_keys-clause-room g c = record { pairs = c.requires.room.pairs; text = le_trans c.requires.room.text c.resize.ensures.capacity }

pub invariant_of-size-else-has_room_for_keys : goal.invariant_of-size-else-has_room_for_keys
invariant_of-size-else-has_room_for_keys g c = record { within = (c.requires.ranges.some, c.requires.ranges.most) }

pub put_range-requires-clause-text : goal.put_range-requires-clause-text
put_range-requires-clause-text g c =
    let full = resized c.resize.result _ _ _ (c.resize.ensures.succeeds (omega (arith, c.capacity.ensures))) c.resize.ensures.len in
    fewer_fit _ _ _ _ c.requires.few (omega (arith, c.requires.room.text, full, c.capacity.ensures, c.deref_mut-else-has_room_for_keys.ensures.len))

pub returns-else-has_room_for_keys-clause-within : goal.returns-else-has_room_for_keys-clause-within
returns-else-has_room_for_keys-clause-within g c =
    let new = c.put_range.new.text in
    subst (λ ns. c.put_range.result ≤ length ns) (sym (with_items_is c.resize.new.self new (omega (arith, c.put_range.auto.text, c.deref_mut-else-has_room_for_keys.ensures.len)))) c.put_range.ensures.within

pub returns-else-has_room_for_keys-clause-text : goal.returns-else-has_room_for_keys-clause-text
returns-else-has_room_for_keys-clause-text g c =
    let new = c.put_range.new.text in
    ap (take c.put_range.result) (with_items_is c.resize.new.self new (omega (arith, c.put_range.auto.text, c.deref_mut-else-has_room_for_keys.ensures.len))) ∙ c.put_range.ensures.lines

pub returns-else-has_room_for_keys-clause-room : goal.returns-else-has_room_for_keys-clause-room
returns-else-has_room_for_keys-clause-room g c = record { pairs = le_trans c.requires.room.pairs c.put_range.ensures.capacity; text = le_trans c.requires.room.text c.resize.ensures.capacity }
