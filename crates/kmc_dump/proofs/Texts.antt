-- Texts of ranges that follow one another.
use Rattle.std.proofs.Common.{◌≡◌, ℕ, zero, suc, ◌+◌, ◌-◌, ◌/◌, ◌^◌, ◌<◌, ◌≤◌, true, false, List, [], ◌∷◌, ◌++◌, length, get_or, sym, ap, ◌∙◌, arith}
use Rattle.std.specs.List.{flat_map, AllByRecursion}
use Rattle.std.proofs.lemmas.Bool.Decides.{nat_tests}
use Rattle.std.proofs.lemmas.List.{map-append}
use Rattle.std.proofs.lemmas.Grind.{flat_map-append}
use Rattle.std.proofs.lemmas.List.Elements.{recursion_from_All}
use Rattle.std.proofs.lemmas.List.Sorted.{All-permutation}
use Rattle.kmc_lists.specs.Listed.{Listed, spell, spelled}
use Rattle.kmc_lists.specs.Ordered.{is_within, within, whole, joined, packs}
use Rattle.kmc_dump.specs.Ranges.{range_text, AreRanges}
use Rattle.kmc_dump.specs.declared.ranges.Ranges.{Ranges}
use Rattle.kmc_lists.specs.Lemmas.Order.{in_order_climbs, in_order_moves, ranges_join}
use Rattle.kmc_lists.specs.Lemmas.Filters.{filter_every, filter_none}

pub texts_join : (line : List ℕ × ℕ → List ℕ) (k w a b c : ℕ) (lists : List Listed) → 0 < w → a ≤ b → b ≤ c
    → range_text line k w a b lists ++ range_text line k w b c lists ≡ range_text line k w a c lists
texts_join line k w a b c lists pos low high =
    let all = whole lists in
    let one = within w a b all in
    let two = within w b c all in
    sym (flat_map-append line (spelled k one) (spelled k two))
    ∙ ap (flat_map line) (sym (map-append (spell k) one two) ∙ ap (spelled k) (ranges_join w pos a b c low high all (in_order_climbs (joined (packs lists)))))

-- the range of all slots is the whole
pub all_within : (w top : ℕ) (ps : List (ℕ × ℕ)) → AllByRecursion (λ p. p.0 / w < top) ps → within w 0 top ps ≡ ps
all_within w top ps h = filter_every (is_within w 0 top) ps (go ps h)
  where
    go : (qs : List (ℕ × ℕ)) → AllByRecursion (λ p. p.0 / w < top) qs → AllByRecursion (λ p. is_within w 0 top p ≡ true) qs
    go [] h = tt
    go (q ∷ qs) h = let less : q.0 / w < top = h.0 in (grind (arith, nat_tests), go qs h.1)

none_between : (w a : ℕ) (ps : List (ℕ × ℕ)) → within w a a ps ≡ []
none_between w a ps = filter_none (is_within w a a) ps (go ps)
  where
    go : (qs : List (ℕ × ℕ)) → AllByRecursion (λ p. is_within w a a p ≡ false) qs
    go [] = tt
    go (q ∷ qs) = (grind (arith, nat_tests), go qs)

pub no_text : (line : List ℕ × ℕ → List ℕ) (k w a : ℕ) (lists : List Listed) → range_text line k w a a lists ≡ []
no_text line k w a lists = ap (λ (ps : List (ℕ × ℕ)). flat_map line (spelled k ps)) (none_between w a (whole lists))

module _ (k w : ℕ) (pos : 0 < w) (lists : List Listed) (bounds : List ℕ)
    (up : (i : ℕ) → i + 1 < length bounds → get_or bounds i 0 ≤ get_or bounds (i + 1) 0) where
  pub climb : (i n : ℕ) → i + n < length bounds → get_or bounds i 0 ≤ get_or bounds (i + n) 0
  climb i zero inside = let e : i + 0 ≡ i = omega arith in rw e (omega arith)
  climb i (suc n) inside =
      let e : i + suc n ≡ (i + n) + 1 = omega arith in
      let more : get_or bounds i 0 ≤ get_or bounds (i + n) 0 = climb i n (omega arith) in
      let last : get_or bounds (i + n) 0 ≤ get_or bounds ((i + n) + 1) 0 = up (i + n) (omega arith) in
      rw e (omega (arith, more, last))

-- the ranges have the text of the whole
pub all_text : (line : List ℕ × ℕ → List ℕ) (r : Ranges) (lists : List Listed) → AreRanges r lists
    → range_text line r.k (2 ^ r.shift) (get_or r.bounds.items 0 0) (get_or r.bounds.items (length r.bounds.items - 1) 0) lists
    ≡ flat_map line (spelled r.k (whole lists))
all_text line r lists are =
    let all = joined (packs lists) in
    let w = 2 ^ r.shift in
    let top = get_or r.bounds.items (length r.bounds.items - 1) 0 in
    let P : ℕ × ℕ → Type 0 = λ p. p.0 / w < top in
    ap (λ n. range_text line r.k w n top lists) are.first
    ∙ ap (λ (ps : List (ℕ × ℕ)). flat_map line (spelled r.k ps)) (all_within w top (whole lists)
    (recursion_from_All P (whole lists) (All-permutation P all (whole lists) (in_order_moves all) are.last)))
