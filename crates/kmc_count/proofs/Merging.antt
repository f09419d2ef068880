-- Pairs of lists that share no word, sorted, rise.
use Rattle.std.proofs.Common.{◌≡◌, ℕ, zero, suc, ◌+◌, ◌<◌, ◌≤◌, Bool, true, false, cond, List, [], ◌∷◌, ◌++◌, length, get_or, map, refl, ap, subst, ◌∙◌, arith, rules}
use Rattle.std.specs.List.{dedup, dedup_from}
use Rattle.std.specs.List.Sorted.{IsPermutation, IsSorted, IsSortedBy, IsStrictlySortedBy}
use Rattle.std.specs.Cmp.Rules.{comparing}
use Rattle.std.specs.Ordering.{is_lt, eq_by_cmp}
use Rattle.std.specs.declared.cmp.Ordering.TheVariants.{Less}
use Rattle.std.proofs.lemmas.List.{length-map, map-append, get_or-map}
use Rattle.std.proofs.lemmas.List.Elements.{All-head, All-tail}
use Rattle.std.proofs.lemmas.List.Kept.{IsStrictlySortedBy-dedup}
use Rattle.std.proofs.lemmas.List.Sorted.{IsPermutation-map, sum_by-IsPermutation}
use Rattle.kmc_base.specs.Words.{kmer_cmp}
use Rattle.kmc_count.specs.Occurrences.{same_word, occurrences}
use Rattle.kmc_count.specs.Dump.{words_of}
use Rattle.kmc_count.specs.Merge.{joined, AreApart, EachRises, IsMerged}
use Rattle.kmc_count.specs.Lemmas.Apart.{occurrences_more, occurrences_both, occurs_has, tail_apart, none_behind}
use Rattle.kmc_count.specs.Lemmas.Listing.{kmer_total, same_is, same_itself}
use Rattle.kmc_base.specs.Lemmas.Members.{below_has}
use Rattle.kmc_count.specs.Lemmas.OneDump.{not_below_itself, Below}

-- ---- each word once

rising_once : (x : List ℕ) (ws : List (List ℕ)) → IsStrictlySortedBy kmer_cmp ws → occurrences ws x ≤ 1
unfolding IsStrictlySortedBy
rising_once x [] h = omega arith
rising_once x (w ∷ ws) h = go (same_word w x) refl (occurrences ws x) refl (rising_once x ws h.1)
  where
    go : (b : Bool) → same_word w x ≡ b → (n : ℕ) → occurrences ws x ≡ n → occurrences ws x ≤ 1 → occurrences (w ∷ ws) x ≤ 1
    go false e n f few = let none : occurrences (w ∷ ws) x ≡ 0 + occurrences ws x = occurrences_more x w ws ∙ ap
        (λ b. cond b 1 0 + occurrences ws x) e in omega (arith, none, few)
    go true e zero f few = let one : occurrences (w ∷ ws) x ≡ 1 + occurrences ws x = occurrences_more x w ws ∙ ap
        (λ b. cond b 1 0 + occurrences ws x) e in omega (arith, one, f)
    go true e (suc n) f few =
        let less = below_has Below w x ws h.0 (occurs_has x ws (omega (arith, f))) in
        absurd (not_below_itself x (subst (λ v. kmer_cmp v x ≡ Less) (same_is w x e) less))

words_joined : (lists : List (List (List ℕ × ℕ))) → words_of (joined lists) ≡ joined (map words_of lists)
words_joined [] = refl
words_joined (ps ∷ lists) = map-append (λ (p : List ℕ × ℕ). p.0) ps (joined lists) ∙ ap (λ (t : List (List ℕ)). words_of ps ++ t) (words_joined lists)

once : (x : List ℕ) (lists : List (List (List ℕ × ℕ))) → EachRises lists → AreApart (map words_of lists) → occurrences (joined (map words_of lists)) x ≤ 1
once x [] rise apart = omega arith
once x (ps ∷ lists) rise apart =
    let P : List (List ℕ × ℕ) → Type 0 = λ qs. IsStrictlySortedBy kmer_cmp (words_of qs) in
    let wss = map words_of lists in
    go (occurrences (words_of ps) x) refl (rising_once x (words_of ps) (All-head P ps lists rise))
    (once x lists (All-tail P ps lists rise) (tail_apart (words_of ps) wss apart))
  where
    go : (n : ℕ) → occurrences (words_of ps) x ≡ n → occurrences (words_of ps) x ≤ 1 → occurrences (joined (map words_of lists)) x ≤ 1 → occurrences
        (joined (map words_of (ps ∷ lists))) x ≤ 1
    go zero e one more = omega (arith, occurrences_both x (words_of ps) (joined (map words_of lists)), e, more)
    go (suc n) e one more =
        let none = none_behind x (words_of ps) (map words_of lists) apart (omega (arith, e)) in
        omega (arith, occurrences_both x (words_of ps) (joined (map words_of lists)), one, none)

-- ---- sorted words, each once, rise

apart_next : (w v : List ℕ) (ws : List (List ℕ)) → occurrences (w ∷ v ∷ ws) w ≤ 1 → same_word v w ≡ false
apart_next w v ws few = go (same_word v w) refl
  where
    go : (b : Bool) → same_word v w ≡ b → b ≡ false
    go false e = refl
    go true e =
        let first : occurrences (w ∷ v ∷ ws) w ≡ 1 + occurrences (v ∷ ws) w = occurrences_more w w (v ∷ ws) ∙ ap
        (λ b. cond b 1 0 + occurrences (v ∷ ws) w) (same_itself w) in
        let second : occurrences (v ∷ ws) w ≡ 1 + occurrences ws w = occurrences_more w v ws ∙ ap (λ b. cond b 1 0 + occurrences ws w) e in
        absurd (omega (arith, few, first, second))

dedup_is : (w : List ℕ) (ws : List (List ℕ)) → ((x : List ℕ) → occurrences (w ∷ ws) x ≤ 1) → dedup_from same_word w ws ≡ w ∷ ws
dedup_is w [] few = refl
dedup_is w (v ∷ ws) few =
    ap (λ b. cond b (dedup_from same_word w ws) (w ∷ dedup_from same_word v ws)) (apart_next w v ws (few w))
    ∙ ap (λ (t : List (List ℕ)). w ∷ t) (dedup_is v ws (λ x. omega (arith, few x, occurrences_more x w (v ∷ ws))))

strictly : (ws : List (List ℕ)) → IsSorted kmer_cmp ws → ((x : List ℕ) → occurrences ws x ≤ 1) → IsStrictlySortedBy kmer_cmp ws
strictly ws sorted few =
    let ties : (x y : List ℕ) → same_word x y ≡ eq_by_cmp kmer_cmp x y = search (comparing, rules) in
    subst (IsStrictlySortedBy kmer_cmp) (same ws few) (IsStrictlySortedBy-dedup kmer_total ties ws sorted)
  where
    same : (ws : List (List ℕ)) → ((x : List ℕ) → occurrences ws x ≤ 1) → dedup same_word ws ≡ ws
    same [] few = refl
    same (w ∷ ws) few = dedup_is w ws few

-- what a sort of pairs by their words says of the words
words_sorted : (ps : List (List ℕ × ℕ)) → IsSortedBy (λ p q. is_lt (kmer_cmp p.0 q.0)) ps → IsSorted kmer_cmp (words_of ps)
words_sorted ps sorted = λ i d low high.
    let word : List ℕ × ℕ → List ℕ = λ p. p.0 in
    let inside : i + 1 < length ps = omega (arith, high, length-map ps word) in
    let a : get_or (words_of ps) (i + 1) d ≡ (get_or ps (i + 1) (d, 0)).0 = get_or-map word ps (i + 1) (d, 0) d inside in
    let b : get_or (words_of ps) i d ≡ (get_or ps i (d, 0)).0 = get_or-map word ps i (d, 0) d (omega (arith, inside)) in
    (λ j. is_lt (kmer_cmp (a j) (b j))) ∙ sorted i (d, 0) low inside

pub merged : (lists : List (List (List ℕ × ℕ))) (pairs : List (List ℕ × ℕ)) → EachRises lists → AreApart (map words_of lists) → IsPermutation
    (joined lists) pairs
    → IsSortedBy (λ p q. is_lt (kmer_cmp p.0 q.0)) pairs → IsMerged lists pairs
merged lists pairs rise apart moves sorted = record {
  all = moves;
  rising = strictly (words_of pairs) (words_sorted pairs sorted) (λ x.
      let moved = sum_by-IsPermutation (λ (w : List ℕ). cond (same_word w x) 1 0) (words_of (joined lists)) (words_of pairs)
      (IsPermutation-map (λ (p : List ℕ × ℕ). p.0) (joined lists) pairs moves) in
      let same = ap (λ (t : List (List ℕ)). occurrences t x) (words_joined lists) in
      omega (arith, once x lists rise apart, moved, same));
}
