use Rattle.std.proofs.Common.{◌≡◌, ℕ, ◌+◌, ◌<◌, List, [], ◌∷◌, ◌++◌, length, get_or, take, map, sym, ap, ◌∙◌, arith, append_assoc, append-nil, take_all}
use Rattle.std.specs.List.{flat_map}
use Rattle.std.proofs.lemmas.List.{length-map, map-append, get_or-map, take_more}
use Rattle.std.proofs.lemmas.Grind.{flat_map-append}
use Rattle.kmc_base.specs.Packed.{pack}
use Rattle.kmc_base.specs.declared.segment.Segment.{Segment}
use Rattle.kmc_base.specs.Segments.{stretch}
use Rattle.kmc_base.specs.Stretches.{Stretch, segments_of}
use Rattle.kmc_base.specs.Strands.{keys}
use Rattle.kmc_base.specs.Lemmas.Counted.{keys_of_segments}
use Rattle.kmc_count.proofs.plain.direct.push_read.Goals as goal

-- the keys of one segment more
one_more : (f : Stretch → List (List ℕ)) (items : List Segment) (i : ℕ) (s : Segment) (old before after : List ℕ) → i < length items → s ≡ get_or items i s
    → before ≡ old ++ map pack (flat_map f (take i (map stretch items))) → after ≡ before ++ map pack (f (stretch s))
    → after ≡ old ++ map pack (flat_map f (take (i + 1) (map stretch items)))
one_more f items i s old before after inside is was now =
    let ss = map stretch items in
    let long : i < length ss = omega (arith, inside, length-map items stretch) in
    let here : get_or ss i (stretch s) ≡ stretch s = get_or-map stretch items i s (stretch s) inside ∙ ap stretch (sym is) in
    let more : take (i + 1) ss ≡ take i ss ++ stretch s ∷ [] = take_more ss i (stretch s) long ∙ ap (λ t. take i ss ++ t ∷ []) here in
    let keys_more : flat_map f (take (i + 1) ss) ≡ flat_map f (take i ss) ++ f (stretch s) =
    ap (flat_map f) more ∙ flat_map-append f (take i ss) (stretch s ∷ []) ∙ ap (λ (t : List (List ℕ)). flat_map f (take i ss) ++ t)
    (append-nil (f (stretch s))) in
    now ∙ ap (λ (t : List ℕ). t ++ map pack (f (stretch s))) was
    ∙ append_assoc old (map pack (flat_map f (take i ss))) (map pack (f (stretch s)))
    ∙ ap (λ (t : List ℕ). old ++ t) (sym (map-append pack (flat_map f (take i ss)) (f (stretch s))) ∙ ap (map pack) (sym keys_more))

pub loop-segment-preserved : goal.loop-segment-preserved
loop-segment-preserved g c =
    one_more (λ s. keys c.args.rule.strands c.args.rule.k s.codes) c.deref-segment-items.result.now c.loop-segment.segment-index c.segment-item.result
    (map g.W.PackedKmer.number c.args.words.now.items) _ _ c.loop-segment-test.true c.segment-item.is c.loop-segment.invariant
    (c.in_ok-push_keys.ensures ∙ ap (λ t. map g.W.PackedKmer.number c.loop-segment.words.items ++ map pack
    (keys c.args.rule.strands c.args.rule.k t)) c.deref.ensures.value)

pub returns : goal.returns
returns g c =
    let items = c.deref-segment-items.result.now in
    let ss = map stretch items in
    let f : Stretch → List (List ℕ) = λ s. keys c.args.rule.strands c.args.rule.k s.codes in
    let all : take c.loop-segment.segment-index ss ≡ ss = take_all c.loop-segment.segment-index ss
    (omega (arith, c.loop-segment-test.false, length-map items stretch)) in
    let are : ss ≡ segments_of c.args.rule.k c.args.read.now = ap (map stretch) c.deref-segment-items.ensures.value ∙ c.in_ok-stretches.ensures in
    c.loop-segment.invariant
    ∙ ap (λ (t : List (List ℕ)). map g.W.PackedKmer.number c.args.words.now.items ++ map pack t)
    (ap (flat_map f) (all ∙ are) ∙ keys_of_segments c.args.rule.strands c.args.rule.k c.args.read.now c.args.rule.within.0)
