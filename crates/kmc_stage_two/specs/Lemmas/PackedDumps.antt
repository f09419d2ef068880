-- The dumps of bins as packed lists: they rise, share no word, and their whole is the dump of all words.
use Rattle.std.proofs.Common.{◌≡◌, ℕ, suc, ◌<◌, ◌^◌, inl, inr, All, List, [], ◌∷◌, ◌++◌, length, get_or, map, refl, sym, ap, subst, ◌∙◌, arith}
use Rattle.std.specs.List.{AllByRecursion, Contains}
use Rattle.std.specs.List.Sorted.{IsStrictlySortedBy}
use Rattle.std.specs.Ordering.{nat_cmp}
use Rattle.std.specs.declared.cmp.Ordering.TheVariants.{Less}
use Rattle.std.proofs.lemmas.Bool.Decides.{nat_tests}
use Rattle.std.proofs.lemmas.List.{length-map}
use Rattle.std.proofs.lemmas.List.Elements.{recursion_from_All, All-append, All-head, All-tail}
use Rattle.kmc_base.specs.Words.{kmer_cmp}
use Rattle.kmc_base.specs.Packed.{unpack}
use Rattle.kmc_count.specs.declared.limits.Limits.{Limits}
use Rattle.kmc_count.specs.Occurrences.{occurrences}
use Rattle.kmc_count.specs.Dump.{IsDump, words_of}
use Rattle.kmc_count.specs.Laws.{DumpsCanBeMerged, MergedDumpsAreOne}
use Rattle.kmc_count.specs.Merge.{AreApart, AreDumps, EachRises, joined as words_joined}
use Rattle.kmc_count.specs.Lemmas.PackedRuns.{cmp_packed}
use Rattle.kmc_lists.specs.Listed.{Listed, spelled, pairs_of, IsListOf}
use Rattle.kmc_lists.specs.Ordered.{Rises, joined, Apart, packs, CanBeMerged, whole}
use Rattle.kmc_base.specs.Lemmas.Members.{Has}
use Rattle.kmc_stage_two.specs.Lemmas.Whole.{whole_merged}

module _ (k : ℕ) where
  -- ---- words that rise are numbers that rise

  less_numbers : (p : ℕ) (qs : List (ℕ × ℕ)) → p < 4 ^ k → AllByRecursion (λ q. q.0 < 4 ^ k) qs
      → AllByRecursion (λ v. kmer_cmp (unpack k p) v ≡ Less) (words_of (spelled k qs)) → AllByRecursion (λ q. p < q.0) qs
  less_numbers p [] fit fits h = tt
  less_numbers p (q ∷ qs) fit fits h =
      let e : nat_cmp p q.0 ≡ Less = sym (cmp_packed k p q.0 fit fits.0) ∙ h.0 in
      let less : p < q.0 = grind (arith, nat_tests) in
      (less, less_numbers p qs fit fits.1 h.1)

  pub rising_numbers : (ps : List (ℕ × ℕ)) → AllByRecursion (λ q. q.0 < 4 ^ k) ps → IsStrictlySortedBy kmer_cmp (words_of (spelled k ps)) → Rises ps
  unfolding IsStrictlySortedBy
  rising_numbers [] fits h = tt
  rising_numbers (p ∷ ps) fits h = (less_numbers p.0 ps fits.0 fits.1 h.0, rising_numbers ps fits.1 h.1)

  -- ---- lists that share no word share no number

  abbrev words : Listed → List (List ℕ)
  words c = words_of (spelled k c.packed)

  words_has : (p : ℕ × ℕ) (ps : List (ℕ × ℕ)) → Has p ps → Contains (words_of (spelled k ps)) (unpack k p.0)
  words_has p [] m = absurd m
  words_has p (q ∷ qs) (inl here) = (0, grind arith, ap (λ (r : ℕ × ℕ). unpack k r.0) here)
  words_has p (q ∷ qs) (inr there) = let i = words_has p qs there in (suc i.0, grind arith, i.2)

  all_has : (P : ℕ × ℕ → Type 0) (ps : List (ℕ × ℕ)) → ((p : ℕ × ℕ) → Has p ps → P p) → AllByRecursion P ps
  all_has P [] h = tt
  all_has P (p ∷ ps) h = (h p (inl refl), all_has P ps (λ q m. h q (inr m)))

  pub all_both : (P : ℕ × ℕ → Type 0) (ps qs : List (ℕ × ℕ)) → AllByRecursion P ps → AllByRecursion P qs → AllByRecursion P (ps ++ qs)
  all_both P [] qs h g = g
  all_both P (p ∷ ps) qs h g = (h.0, all_both P ps qs h.1 g)

  abbrev Share : List (List ℕ) → List (List ℕ) → Type 0
  Share ws vs = (x : List ℕ) → Contains ws x → Contains vs x → ⊥

  differs : (p : ℕ × ℕ) (ws : List (List ℕ)) (cs : List Listed) → Contains ws (unpack k p.0)
      → ((i : ℕ) (d : List (List ℕ)) → i < length cs → Share ws (get_or (map words cs) i d))
      → AllByRecursion (λ q. p.0 ≡ q.0 → ⊥) (joined (packs cs))
  differs p ws [] has apart = tt
  differs p ws (c ∷ cs) has apart =
      all_both (λ q. p.0 ≡ q.0 → ⊥) c.packed (joined (packs cs))
      (all_has (λ q. p.0 ≡ q.0 → ⊥) c.packed (λ q m e. apart 0 [] (omega arith) (unpack k p.0) has
      (subst (λ n. Contains (words c) (unpack k n)) (sym e) (words_has q c.packed m))))
      (differs p ws cs has (λ i d inside. apart (suc i) d (omega (arith, inside))))

  apart_numbers : (cs : List Listed) → AreApart (map words cs) → Apart (packs cs)
  apart_numbers [] h = tt
  apart_numbers (c ∷ cs) h = (
    all_has (λ p. AllByRecursion (λ q. p.0 ≡ q.0 → ⊥) (joined (packs cs))) c.packed
        (λ p m. differs p (words c) cs (words_has p c.packed m) (λ i d inside. h 0 (suc i) d (omega arith) (omega (arith, inside, length-map cs words)))),
    apart_numbers cs (λ i j d up inside. h (suc i) (suc j) d (omega (arith, up)) (omega (arith, inside))),
  )

  -- ---- all lists

  abbrev RisesAsWords : List (List ℕ × ℕ) → Type 0
  RisesAsWords ps = IsStrictlySortedBy kmer_cmp (words_of ps)

  each_rises : (cs : List Listed) → All (IsListOf k) cs → EachRises (map (λ c. spelled k c.packed) cs) → AllByRecursion Rises (packs cs)
  each_rises [] are h = tt
  each_rises (c ∷ cs) are h = (
    rising_numbers c.packed (recursion_from_All (λ p. p.0 < 4 ^ k) c.packed (All-head (IsListOf k) c cs are).fit)
        (All-head RisesAsWords (spelled k c.packed) _ h),
    each_rises cs (All-tail (IsListOf k) c cs are) (All-tail RisesAsWords (spelled k c.packed) _ h),
  )

  all_fit : (cs : List Listed) → All (IsListOf k) cs → All (λ p. p.0 < 4 ^ k) (joined (packs cs))
  all_fit [] are = λ i d inside. absurd (omega (arith, inside))
  all_fit (c ∷ cs) are = All-append (λ p. p.0 < 4 ^ k) c.packed (joined (packs cs)) (All-head (IsListOf k) c cs are).fit
      (all_fit cs (All-tail (IsListOf k) c cs are))

  same_pairs : (cs : List Listed) → All (IsListOf k) cs → map pairs_of cs ≡ map (λ c. spelled k c.packed) cs
  same_pairs [] are = refl
  same_pairs (c ∷ cs) are = λ i. spelled ((All-head (IsListOf k) c cs are).same i) c.packed ∷ same_pairs cs (All-tail (IsListOf k) c cs are) i

  same_words : (cs : List Listed) → map words_of (map (λ c. spelled k c.packed) cs) ≡ map words cs
  same_words [] = refl
  same_words (c ∷ cs) = ap (λ (t : List (List (List ℕ))). words c ∷ t) (same_words cs)

pub packed_one : DumpsCanBeMerged → MergedDumpsAreOne → (l : Limits) (k : ℕ) (wss : List (List (List ℕ))) (lists : List Listed)
    → All (IsListOf k) lists → AreDumps l wss (map pairs_of lists) → AreApart wss → CanBeMerged k lists × IsDump (occurrences (words_joined wss)) l
    (spelled k (whole lists))
packed_one mergeable merged l k wss lists are dumps apart =
    let each = map (λ (c : Listed). spelled k c.packed) lists in
    let own : AreDumps l wss each = subst (AreDumps l wss) (same_pairs k lists are) dumps in
    let can = mergeable l wss each own apart in
    let ok : CanBeMerged k lists = record {
      rise = each_rises k lists are can.1;
      apart = apart_numbers k lists (subst AreApart (same_words k lists) can.0);
      fit = all_fit k lists are;
    } in
    (ok, merged l wss each (spelled k (whole lists)) own apart (whole_merged k lists ok))
