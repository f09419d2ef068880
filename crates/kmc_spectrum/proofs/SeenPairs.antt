-- How often counts were seen in pairs, one more after the other, and that the order of the pairs does not matter.
use Rattle.std.proofs.Common.{◌≡◌, ℕ, ◌+◌, ◌<◌, ◌≤◌, cond, List, [], ◌∷◌, ◌++◌, length, get_or, take, refl, sym, ap, ◌∙◌, arith, add-zero, append-nil}
use Rattle.std.specs.Prelude.{◌==◌}
use Rattle.std.proofs.lemmas.Grind.{flat_map-append}
use Rattle.std.proofs.lemmas.List.{length-append, length-take-le, map-append, take_more}
use Rattle.std.proofs.lemmas.List.Sorted.{sum_by-IsPermutation}
use Rattle.std.proofs.lemmas.List.Sums.{count_by-le-length, sum_by-append, sum_by-cons}
use Rattle.kmc_lists.specs.Listed.{Listed, spell, spelled}
use Rattle.kmc_lists.specs.Ordered.{in_order, joined, packs, whole}
use Rattle.kmc_lists.specs.Lemmas.Order.{in_order_moves}
use Rattle.kmc_join.specs.Histogram.{number_with}
use Rattle.kmc_spectrum.specs.Tallied.{packed_with}

abbrev has : ℕ → ℕ × ℕ → ℕ
has n p = cond (p.1 == n) 1 0

-- one pair more
pub pair_more : (ps : List (ℕ × ℕ)) (i n : ℕ) (p : ℕ × ℕ) → i < length ps → p ≡ get_or ps i p
    → packed_with (take (i + 1) ps) n ≡ packed_with (take i ps) n + cond (p.1 == n) 1 0
pair_more ps i n p inside is =
    ap (λ (qs : List (ℕ × ℕ)). packed_with qs n) (take_more ps i p inside)
    ∙ sum_by-append (has n) (take i ps) (get_or ps i p ∷ [])
    ∙ ap (λ m. packed_with (take i ps) n + m) (sum_by-cons (has n) (get_or ps i p) [] ∙ add-zero (has n (get_or ps i p)) ∙ ap (has n) (sym is))

-- of so many pairs no more have a count
pub few_of : (ps : List (ℕ × ℕ)) (i n : ℕ) → i ≤ length ps → packed_with (take i ps) n ≤ i
few_of ps i n inside = omega (arith, count_by-le-length (λ (p : ℕ × ℕ). p.1 == n) (take i ps), length-take-le i ps inside)

pub few : (ps : List (ℕ × ℕ)) (n : ℕ) → packed_with ps n ≤ length ps
few ps n = count_by-le-length (λ (p : ℕ × ℕ). p.1 == n) ps

-- one list more
joined_more : (lists : List Listed) (i : ℕ) (c : Listed) → i < length lists → c ≡ get_or lists i c
    → joined (packs (take (i + 1) lists)) ≡ joined (packs (take i lists)) ++ c.packed
joined_more lists i c inside is =
    let front = take i lists in
    let last = get_or lists i c in
    ap (λ (cs : List Listed). joined (packs cs)) (take_more lists i c inside)
    ∙ ap joined (map-append (λ (v : Listed). v.packed) front (last ∷ []))
    ∙ flat_map-append (λ (ps : List (ℕ × ℕ)). ps) (packs front) (last.packed ∷ [])
    ∙ ap (λ (ps : List (ℕ × ℕ)). joined (packs front) ++ ps) (append-nil last.packed ∙ ap (λ (v : Listed). v.packed) (sym is))

pub list_more : (lists : List Listed) (i n : ℕ) (c : Listed) → i < length lists → c ≡ get_or lists i c
    → packed_with (joined (packs (take (i + 1) lists))) n ≡ packed_with (joined (packs (take i lists))) n + packed_with c.packed n
list_more lists i n c inside is =
    ap (λ (ps : List (ℕ × ℕ)). packed_with ps n) (joined_more lists i c inside is)
    ∙ sum_by-append (has n) (joined (packs (take i lists))) c.packed

pub pairs_more : (lists : List Listed) (i : ℕ) (c : Listed) → i < length lists → c ≡ get_or lists i c
    → length (joined (packs (take (i + 1) lists))) ≡ length (joined (packs (take i lists))) + length c.packed
pairs_more lists i c inside is = ap length (joined_more lists i c inside is) ∙ length-append (joined (packs (take i lists))) c.packed

-- spelled words have the counts of packed ones
of_spelled : (k n : ℕ) (ps : List (ℕ × ℕ)) → number_with (spelled k ps) n ≡ packed_with ps n
of_spelled k n [] = refl
of_spelled k n (p ∷ ps) =
    sum_by-cons (λ (q : List ℕ × ℕ). cond (q.1 == n) 1 0) (spell k p) (spelled k ps)
    ∙ ap (λ m. has n p + m) (of_spelled k n ps)
    ∙ sym (sum_by-cons (has n) p ps)

-- so the pairs of lists, in whatever order, tell how many words of the dump have a count
pub of_whole : (lists : List Listed) (k n : ℕ) → packed_with (joined (packs lists)) n ≡ number_with (spelled k (whole lists)) n
of_whole lists k n =
    let all = joined (packs lists) in
    sym (sum_by-IsPermutation (has n) all (in_order all) (in_order_moves all)) ∙ sym (of_spelled k n (in_order all))
