use Rattle.std.proofs.Common.{◌≡◌, ℕ, ◌+◌, ◌-◌, ◌*◌, ◌<◌, ◌≤◌, ◌^◌, cond, List, [], ◌∷◌, ◌++◌, length, get_or, take, drop, map, sym, ap, subst, ◌∙◌, arith, vec_len, vec_capacity, length-drop}
use Rattle.std.proofs.lemmas.Nat.{pow_pos}
use Rattle.std.proofs.lemmas.List.{length-map, map-append, length-append, length-take-le, get_or-drop}
use Rattle.kmc_dump.specs.Keys.{key_pair, key_pairs}
use Rattle.kmc_lists.specs.Ordered.{within}
use Rattle.kmc_dump.proofs.Cuts.{cut_within, ok_if, one_more}
use Rattle.kmc_dump.proofs.RangeKeys.{between, has_key}
use Rattle.kmc_dump.proofs.keys.gather_keys.Goals as goal

pub key_of-requires-clause-least : goal.key_of-requires-clause-least
key_of-requires-clause-least g c =
    let n = g.W.PackedKmer.number c.get-word.result.0 in
    let key = has_key (2 ^ c.args.range.shift) c.args.range.from c.args.range.to c.args.least g.C.CountWidth.bits n (pow_pos c.args.range.shift) c.requires.least c.requires.fits
    (between (2 ^ c.args.range.shift) c.args.range.from c.args.range.to c.below-begin.result c.below-end.result c.args.list.now.packed c.below-begin.ensures
    c.below-end.ensures c.loop-i.i (n, g.C.CountWidth.count c.get-word.result.1) (omega (arith, c.loop-i.auto.i)) c.loop-i-test.true c.get-word.ensures) in
    subst (λ m. c.args.least ≤ m) (sym c.to_u128.ensures) key.0

pub key_of-requires-clause-room : goal.key_of-requires-clause-room
key_of-requires-clause-room g c =
    let n = g.W.PackedKmer.number c.get-word.result.0 in
    let key = has_key (2 ^ c.args.range.shift) c.args.range.from c.args.range.to c.args.least g.C.CountWidth.bits n (pow_pos c.args.range.shift) c.requires.least c.requires.fits
    (between (2 ^ c.args.range.shift) c.args.range.from c.args.range.to c.below-begin.result c.below-end.result c.args.list.now.packed c.below-begin.ensures
    c.below-end.ensures c.loop-i.i (n, g.C.CountWidth.count c.get-word.result.1) (omega (arith, c.loop-i.auto.i)) c.loop-i-test.true c.get-word.ensures) in
    subst (λ m. (m - c.args.least + 1) * 2 ^ c.bits-bits.result ≤ 2 ^ 64) (sym c.to_u128.ensures)
    (subst (λ b. (n - c.args.least + 1) * 2 ^ b ≤ 2 ^ 64) (sym c.bits-bits.ensures.is) key.1)

pub loop-i-preserved : goal.loop-i-preserved
loop-i-preserved g c =
    let f : ℕ → ℕ × ℕ = key_pair c.args.least g.C.CountWidth.bits in
    let ps = c.args.list.now.packed in
    let b = c.below-begin.result in
    let e = c.below-end.result in
    let i = c.loop-i.i in
    let key = c.key_of.result in
    let old = map f c.args.keys.now.items in
    let now = c.loop-i.keys.items in
    let is = cut_within (2 ^ c.args.range.shift) c.args.range.from c.args.range.to b e ps c.args.range.order c.below-begin.ensures c.below-end.ensures in
    let high = c.below-end.ensures.inside in
    let count : length (within (2 ^ c.args.range.shift) c.args.range.from c.args.range.to ps) ≡ e - b = ap length is.1 ∙ length-take-le (e - b) (drop b ps)
    (omega (arith, high, length-drop b ps)) in
    let some : i - b < length (drop b ps) = omega (arith, c.loop-i-test.true, c.loop-i.auto.i, high, length-drop b ps) in
    let so_far : length (take (i - b) (drop b ps)) ≡ i - b = length-take-le (i - b) (drop b ps) (omega (arith, some)) in
    let len : length now ≡ length c.args.keys.now.items + (i - b) = sym (length-map now f) ∙ ap length c.loop-i.invariant.pairs ∙ length-append old
    (take (i - b) (drop b ps)) ∙ omega (arith, so_far, length-map c.args.keys.now.items f) in
    let room : vec_capacity c.loop-i.keys ≤ vec_len c.loop-i.keys → ⊥ = λ full. omega (
      arith,
      full,
      len,
      count,
      c.requires.room,
      c.loop-i.invariant.capacity,
      c.loop-i.keys.ok.0,
      c.args.keys.now.ok.0,
      c.loop-i-test.true,
      c.loop-i.auto.i,
    ) in
    let ok = ok_if c.push.result _ c.push.ensures.full room in
    let items : c.push.new.self.items ≡ now ++ key ∷ [] = c.push.ensures.items ∙ ap (λ t. cond t (now ++ key ∷ []) now) ok in
    let next : i + 1 - b ≡ (i - b) + 1 = omega (arith, c.loop-i.auto.i) in
    let place : b + (i - b) ≡ i = omega (arith, c.loop-i.auto.i) in
    let pair : f key ≡ (g.W.PackedKmer.number c.get-word.result.0, g.C.CountWidth.count c.get-word.result.1) = ap (λ t. key_pair c.args.least t key)
    (sym c.bits-bits.ensures.is) ∙ c.key_of.ensures ∙ (λ j. (c.to_u128.ensures j, c.to_u64.ensures.is j)) in
    record {
      capacity = omega (arith, c.loop-i.invariant.capacity, c.push.ensures.capacity);
      pairs = ap (map f) items ∙ map-append f now (key ∷ [])
          ∙ one_more old (drop b ps) (i - b) (i + 1 - b) (map f now) (f key) some next c.loop-i.invariant.pairs
          (λ d. pair ∙ c.get-word.ensures d ∙ sym (get_or-drop b ps (i - b) d ∙ ap (λ n. get_or ps n d) place));
    }

pub returns-clause-pairs : goal.returns-clause-pairs
returns-clause-pairs g c =
    let ps = c.args.list.now.packed in
    let b = c.below-begin.result in
    let e = c.below-end.result in
    let is = cut_within (2 ^ c.args.range.shift) c.args.range.from c.args.range.to b e ps c.args.range.order c.below-begin.ensures c.below-end.ensures in
    let end : c.loop-i.i ≡ e = omega (arith, c.loop-i-test.false, c.loop-i.auto.i-end, is.0) in
    let old = key_pairs c.args.least g.C.CountWidth.bits c.args.keys.now.items in
    c.loop-i.invariant.pairs ∙ ap (λ (l : List (ℕ × ℕ)). old ++ l) (ap (λ n. take (n - b) (drop b ps)) end ∙ sym is.1)
