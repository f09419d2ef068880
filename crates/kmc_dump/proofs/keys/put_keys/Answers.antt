use Rattle.std.proofs.Common.{ℕ, ◌<◌, ◌≤◌, ◌^◌, All, List, ◌*◌, ◌%◌, length, map, ◌++◌, refl, sym, ap, subst, ◌∙◌, arith, le_trans, mod-eq_of_lt}
use Rattle.std.proofs.lemmas.List.{length-map}
use Rattle.std.proofs.lemmas.List.Elements.{All-filter}
use Rattle.std.proofs.lemmas.List.Sorted.{All-permutation, IsPermutation-map, length_permutation}
use Rattle.std.specs.List.{filter, flat_map}
use Rattle.kmc_dump.specs.Keys.{key_pair}
use Rattle.kmc_lists.specs.Listed.{spelled}
use Rattle.kmc_lists.specs.Ordered.{is_within, joined, packs}
use Rattle.kmc_dump.proofs.RangeKeys.{keys_climb}
use Rattle.kmc_lists.specs.Lemmas.Order.{part_is}
use Rattle.kmc_dump.proofs.Gathered.{climbs_there, room_left, range_more, gathered_moved, gathered_long}
use Rattle.kmc_dump.proofs.keys.put_keys.Goals as goal

pub gather_keys-requires-clause-rise : goal.gather_keys-requires-clause-rise
gather_keys-requires-clause-rise g c =
    climbs_there c.args.lists.now c.requires.merge.rise c.loop-list.list-index c.list-item.result c.loop-list-test.true c.list-item.is

pub gather_keys-requires-clause-room : goal.gather_keys-requires-clause-room
gather_keys-requires-clause-room g c =
    let least = c.args.range.from * 2 ^ c.args.range.shift % 2 ^ 128 in
    let f : ℕ → ℕ × ℕ = key_pair least g.C.CountWidth.bits in
    let left = room_left
    (is_within (2 ^ c.args.range.shift) c.args.range.from c.args.range.to) c.args.lists.now c.loop-list.list-index c.list-item.result c.loop-list-test.true c.list-item.is in
    omega (
      arith,
      left,
      ap length c.loop-list.invariant.pairs,
      length-map c.loop-list.keys.items f,
      c.loop-list.keys.ok.0,
      c.loop-list.invariant.capacity,
      c.requires.keys,
      c.clear.ensures.capacity,
    )

pub put_key_pairs-requires-clause-fit : goal.put_key_pairs-requires-clause-fit
put_key_pairs-requires-clause-fit g c =
    let least = c.args.range.from * 2 ^ c.args.range.shift % 2 ^ 128 in
    let f : ℕ → ℕ × ℕ = key_pair least g.C.CountWidth.bits in
    let t = is_within (2 ^ c.args.range.shift) c.args.range.from c.args.range.to in
    let made = c.loop-list.keys in
    let all = joined (packs c.args.lists.now) in
    let P : ℕ × ℕ → Type 0 = λ p. p.0 < 4 ^ c.args.size.k in
    let moved = gathered_moved f t c.args.lists.now c.loop-list.list-index _ made.items c.sort_unstable.new.self.items c.loop-list-test.false c.loop-list.invariant.pairs refl
    (IsPermutation-map f made.items c.sort_unstable.new.self.items c.sort_unstable.ensures.permutation) in
    subst (λ (ns : List ℕ). All P (map f ns)) (sym c.deref.ensures.value)
    (All-permutation P (filter t all) _ moved (All-filter t P all c.requires.merge.fit))

pub returns-clause-lines : goal.returns-clause-lines
returns-clause-lines g c =
    let least = c.args.range.from * 2 ^ c.args.range.shift % 2 ^ 128 in
    let f : ℕ → ℕ × ℕ = key_pair least g.C.CountWidth.bits in
    let t = is_within (2 ^ c.args.range.shift) c.args.range.from c.args.range.to in
    let made = c.loop-list.keys in
    let sorted = c.sort_unstable.new.self.items in
    let moved = gathered_moved f t c.args.lists.now c.loop-list.list-index _ made.items sorted c.loop-list-test.false c.loop-list.invariant.pairs refl
    (IsPermutation-map f made.items sorted c.sort_unstable.ensures.permutation) in
    c.put_key_pairs.ensures.lines
    ∙ ap (λ (ns : List ℕ). flat_map (g.F.PairForm.bytes c.args.form.now) (spelled c.args.size.k (map f ns))) c.deref.ensures.value
    ∙ ap (λ (ps : List (ℕ × ℕ)). flat_map (g.F.PairForm.bytes c.args.form.now) (spelled c.args.size.k ps)) (part_is t
    (packs c.args.lists.now) _ c.requires.merge.rise c.requires.merge.apart moved (keys_climb least g.C.CountWidth.bits sorted c.sort_unstable.ensures.sorted))

pub gather_keys-requires-clause-least : goal.gather_keys-requires-clause-least
gather_keys-requires-clause-least g c = mod-eq_of_lt c.requires.least

pub loop-list-preserved : goal.loop-list-preserved
loop-list-preserved g c =
    let least = c.args.range.from * 2 ^ c.args.range.shift % 2 ^ 128 in
    let t = is_within (2 ^ c.args.range.shift) c.args.range.from c.args.range.to in
    record {
      capacity = le_trans c.loop-list.invariant.capacity c.gather_keys.ensures.capacity;
      pairs = c.gather_keys.ensures.pairs
          ∙ ap (λ (ps : List (ℕ × ℕ)). ps ++ filter t c.list-item.result.packed) c.loop-list.invariant.pairs
          ∙ sym (range_more t c.args.lists.now c.loop-list.list-index c.list-item.result c.loop-list-test.true c.list-item.is);
    }

pub put_key_pairs-requires-clause-room : goal.put_key_pairs-requires-clause-room
put_key_pairs-requires-clause-room g c =
    let f : ℕ → ℕ × ℕ = key_pair (c.args.range.from * 2 ^ c.args.range.shift % 2 ^ 128) g.C.CountWidth.bits in
    let t = is_within (2 ^ c.args.range.shift) c.args.range.from c.args.range.to in
    let made = c.loop-list.keys.items in
    let long = ap length c.deref.ensures.value
    ∙ length_permutation made c.sort_unstable.new.self.items c.sort_unstable.ensures.permutation
    ∙ gathered_long f t c.args.lists.now c.loop-list.list-index made c.loop-list-test.false c.loop-list.invariant.pairs in
    subst (λ n. n * g.F.PairForm.most c.args.form.now c.args.size.k g.C.CountWidth.most_digits ≤ length c.args.text.now) (sym long) c.requires.text

pub returns-clause-within : goal.returns-clause-within
returns-clause-within g c = c.put_key_pairs.ensures.within
