-- The dumps of shares of words, joined, are the dump of all words.
use Rattle.std.proofs.Common.{◌≡◌, ℕ, ◌+◌, ◌/◌, ◌<◌, ◌≤◌, ◌^◌, Bool, true, false, cond, nat_le, All, List, [], ◌∷◌, ◌++◌, refl, sym, ap, subst, ◌∙◌, arith, append-nil}
use Rattle.std.specs.List.{filter, AllByRecursion, Contains}
use Rattle.std.specs.List.Sorted.{IsPermutation, IsSorted}
use Rattle.std.specs.Ordering.{nat_cmp}
use Rattle.std.proofs.lemmas.Bool.Decides.{nat_tests}
use Rattle.std.proofs.lemmas.Grind.{flat_map-append}
use Rattle.std.proofs.lemmas.List.{map-append}
use Rattle.std.proofs.lemmas.List.Elements.{All-append, All-cons, All-nil, recursion_from_All, Contains-append_left, Contains-append_right}
use Rattle.std.proofs.lemmas.List.Sorted.{IsPermutation-map, sum_by-IsPermutation}
use Rattle.kmc_base.specs.declared.strands.Strands.{Strands}
use Rattle.kmc_base.specs.Packed.{pack, unpack}
use Rattle.kmc_base.specs.Lemmas.Packing.{pack_of_unpack}
use Rattle.kmc_base.specs.Weights.{item, items, item_weight, AreItems}
use Rattle.kmc_count.specs.declared.limits.Limits.{Limits}
use Rattle.kmc_count.specs.Bodies.{AreItemsOfBody, IsDumpOfBody}
use Rattle.kmc_count.specs.Dump.{IsListed, shown, words_of, IsDump}
use Rattle.kmc_count.specs.Merge.{joined}
use Rattle.kmc_count.specs.Occurrences.{same_word, weight_of}
use Rattle.kmc_count.specs.Lemmas.BodyDumps.{body_dump}
use Rattle.kmc_count.specs.Lemmas.Listing.{same_is}
use Rattle.kmc_count.specs.Lemmas.Runs.{weight_of_cons}
use Rattle.kmc_lists.specs.Listed.{Listed, spell, spelled, pairs_of, IsListOf}
use Rattle.kmc_lists.specs.Ordered.{Rises}
use Rattle.kmc_stage_two.specs.declared.share.Share.{Share}
use Rattle.kmc_stage_two.specs.Shares.{is_from, has_word_from, of_share, AreListsOfItems, IsDumpOfShare}
use Rattle.kmc_lists.specs.Lemmas.Filters.{filter_every}
use Rattle.kmc_stage_two.specs.Lemmas.PackedDumps.{rising_numbers, all_both}
use Rattle.kmc_stage_two.proofs.SharedBodies.{items_joined}
use Rattle.kmc_stage_two.specs.Lemmas.Whole.{rising_words}

-- ---- what the items of a share weigh

weighed : (b s r : Bool) (m v : ℕ) → (s ≡ true → b ≡ r) → cond b (cond s m 0) 0 + cond r v 0 ≡ cond r (cond s m 0 + v) 0
weighed true true true m v same = refl
weighed true true false m v same = let e : true ≡ false = same refl in grind arith
weighed true false true m v same = refl
weighed true false false m v same = refl
weighed false true true m v same = let e : false ≡ true = same refl in grind arith
weighed false true false m v same = refl
weighed false false true m v same = refl
weighed false false false m v same = refl

module _ (k f first last : ℕ) where
  abbrev t : ℕ → Bool
  t = has_word_from (2 ^ f) first last

  share_weight : (x : List ℕ) (ns : List ℕ) → AllByRecursion (λ n. n / 2 ^ f < 4 ^ k) ns
      → weight_of (items k f (filter t ns)) x ≡ of_share first last (weight_of (items k f ns)) x
  share_weight x [] h = go (is_from first last (pack x))
    where
      go : (r : Bool) → weight_of (items k f []) x ≡ cond r (weight_of (items k f []) x) 0
      go true = refl
      go false = refl
  share_weight x (n ∷ ns) h =
      step (t n) ∙ ap (λ y. cond (t n) (cond s m 0) 0 + y) (share_weight x ns h.1)
      ∙ weighed (t n) s (is_from first last (pack x)) m (weight_of (items k f ns) x) same
      ∙ ap (λ y. cond (is_from first last (pack x)) y 0) (sym (weight_of_cons x (item k f n) (items k f ns)))
    where
      s : Bool
      s = same_word (unpack k (n / 2 ^ f)) x

      m : ℕ
      m = item_weight f n

      step : (b : Bool) → weight_of (items k f (cond b (n ∷ filter t ns) (filter t ns))) x ≡ cond b (cond s m 0) 0 + weight_of (items k f (filter t ns)) x
      step true = weight_of_cons x (item k f n) (items k f (filter t ns))
      step false = omega arith

      same : s ≡ true → t n ≡ is_from first last (pack x)
      same alike =
          let word : pack x ≡ n / 2 ^ f = ap pack (sym (same_is (unpack k (n / 2 ^ f)) x alike)) ∙ pack_of_unpack k (n / 2 ^ f) h.0 in
          ap (is_from first last) (sym word)

  pub part_dump : (l : Limits) (lists : List (List ℕ)) (moved : List ℕ) (c : Listed) → AreItems k f (joined lists) → IsPermutation (filter t (joined lists)) moved
      → IsListOf k c → IsDump (weight_of (items k f moved)) l (pairs_of c) → IsDumpOfShare k f l first last lists c
  part_dump l lists moved c fit moves are dump = record {
    is = are;
    dump = subst (λ g. IsDump g l (pairs_of c)) (λ i x. weight x i) dump;
  }
    where
      weight : (x : List ℕ) → weight_of (items k f moved) x ≡ of_share first last (weight_of (items k f (joined lists))) x
      weight x =
          sum_by-IsPermutation (λ (p : List ℕ × ℕ). cond (same_word p.0 x) p.1 0) (items k f (filter t (joined lists))) (items k f moved)
          (IsPermutation-map (item k f) (filter t (joined lists)) moved moves)
          ∙ share_weight x (joined lists) (recursion_from_All (λ n. n / 2 ^ f < 4 ^ k) (joined lists) fit)

-- ---- a word in a share

share_has : (first last : ℕ) (count : List ℕ → ℕ) (x : List ℕ) → 1 ≤ of_share first last count x → (first ≤ pack x) × (pack x ≤ last)
share_has first last count x some = go (is_from first last (pack x)) refl some
  where
    go : (b : Bool) → is_from first last (pack x) ≡ b → 1 ≤ cond b (count x) 0 → (first ≤ pack x) × (pack x ≤ last)
    go true e h = (grind (arith, nat_tests), grind (arith, nat_tests))
    go false e h = absurd (omega (arith, h))

share_is : (first last : ℕ) (count : List ℕ → ℕ) (x : List ℕ) → first ≤ pack x → pack x ≤ last → of_share first last count x ≡ count x
share_is first last count x low high =
    let inside : is_from first last (pack x) ≡ true = grind (arith, nat_tests) in
    ap (λ b. cond b (count x) 0) inside

-- ---- two shares that are neighbours

rises_both : (middle : ℕ) (ps qs : List (ℕ × ℕ)) → Rises ps → Rises qs → AllByRecursion (λ p. p.0 ≤ middle) ps → AllByRecursion (λ q. middle < q.0) qs
    → Rises (ps ++ qs)
rises_both middle [] qs up more low high = more
rises_both middle (p ∷ ps) qs up more low high = (all_both 0 (λ q. p.0 < q.0) ps qs up.0 (above qs high), rises_both middle ps qs up.1 more low.1 high)
  where
    above : (rs : List (ℕ × ℕ)) → AllByRecursion (λ q. middle < q.0) rs → AllByRecursion (λ q. p.0 < q.0) rs
    above [] h = tt
    above (r ∷ rs) h = (omega (arith, low.0, h.0), above rs h.1)

module _ (k : ℕ) (l : Limits) (count : List ℕ → ℕ) where
  abbrev Right : (List ℕ → ℕ) → List ℕ × ℕ → Type 0
  Right c p = IsListed l (c p.0) × (p.1 ≡ shown l (c p.0))

  moved_right : (c d : List ℕ → ℕ) (ts : List (List ℕ × ℕ)) → ((x : List ℕ) → 1 ≤ c x → d x ≡ c x) → AllByRecursion (Right c) ts → AllByRecursion (Right d) ts
  moved_right c d [] same h = tt
  moved_right c d (t ∷ ts) same h =
      (subst (λ n. IsListed l n × (t.1 ≡ shown l n)) (sym (same t.0 h.0.0.0)) h.0, moved_right c d ts same h.1)

  both_right : (c : List ℕ → ℕ) (ts us : List (List ℕ × ℕ)) → AllByRecursion (Right c) ts → AllByRecursion (Right c) us → AllByRecursion (Right c) (ts ++ us)
  both_right c [] us h g = g
  both_right c (t ∷ ts) us h g = (h.0, both_right c ts us h.1 g)

  numbers_in : (first last : ℕ) (ps : List (ℕ × ℕ)) → AllByRecursion (λ p. p.0 < 4 ^ k) ps → AllByRecursion (Right (of_share first last count)) (spelled k ps)
      → AllByRecursion (λ p. (first ≤ p.0) × (p.0 ≤ last)) ps
  numbers_in first last [] fits h = tt
  numbers_in first last (p ∷ ps) fits h =
      let at = share_has first last count (unpack k p.0) h.0.0.0 in
      let is = pack_of_unpack k p.0 fits.0 in
      ((omega (arith, at.0, is), omega (arith, at.1, is)), numbers_in first last ps fits.1 h.1)

  lows : (first last : ℕ) (ps : List (ℕ × ℕ)) → AllByRecursion (λ p. (first ≤ p.0) × (p.0 ≤ last)) ps → AllByRecursion (λ p. p.0 ≤ last) ps
  lows first last [] h = tt
  lows first last (p ∷ ps) h = (h.0.1, lows first last ps h.1)

  highs : (middle first last : ℕ) (ps : List (ℕ × ℕ)) → middle < first → AllByRecursion (λ p. (first ≤ p.0) × (p.0 ≤ last)) ps → AllByRecursion (λ p. middle < p.0) ps
  highs middle first last [] up h = tt
  highs middle first last (p ∷ ps) up h = (omega (arith, up, h.0.0), highs middle first last ps up h.1)

  module _ (first middle next last : ℕ) (on : next ≡ middle + 1) (up : first ≤ middle) (high : next ≤ last) where
    front_same : (x : List ℕ) → 1 ≤ of_share first middle count x → of_share first last count x ≡ of_share first middle count x
    front_same x some =
        let at = share_has first middle count x some in
        share_is first last count x at.0 (omega (arith, at.1, on, high)) ∙ sym (share_is first middle count x at.0 at.1)

    back_same : (x : List ℕ) → 1 ≤ of_share next last count x → of_share first last count x ≡ of_share next last count x
    back_same x some =
        let at = share_has next last count x some in
        share_is first last count x (omega (arith, at.0, on, up)) at.1 ∙ sym (share_is next last count x at.0 at.1)

    pub both_dumps : (ps qs : List (ℕ × ℕ)) → All (λ p. p.0 < 4 ^ k) ps → All (λ p. p.0 < 4 ^ k) qs → IsDump (of_share first middle count) l (spelled k ps)
        → IsDump (of_share next last count) l (spelled k qs) → IsDump (of_share first last count) l (spelled k (ps ++ qs))
    both_dumps ps qs fit fits front back =
        let P : ℕ × ℕ → Type 0 = λ p. p.0 < 4 ^ k in
        let e = of_share first last count in
        let apart : spelled k (ps ++ qs) ≡ spelled k ps ++ spelled k qs = map-append (spell k) ps qs in
        let own = recursion_from_All P ps fit in
        let other = recursion_from_All P qs fits in
        let rise = rises_both middle ps qs (rising_numbers k ps own front.rising) (rising_numbers k qs other back.rising)
        (lows first middle ps (numbers_in first middle ps own front.each))
        (highs middle next last qs (omega (arith, on)) (numbers_in next last qs other back.each)) in
        record {
          rising = rising_words k (ps ++ qs) (recursion_from_All P (ps ++ qs) (All-append P ps qs fit fits)) rise;
          each = subst (AllByRecursion (Right e)) (sym apart) (both_right e (spelled k ps) (spelled k qs)
              (moved_right (of_share first middle count) e (spelled k ps) front_same front.each)
              (moved_right (of_share next last count) e (spelled k qs) back_same back.each));
          all = λ x listed.
              let at = share_has first last count x listed.0 in
              subst (λ (ts : List (List ℕ × ℕ)). Contains (words_of ts) x) (sym apart)
              (subst (λ (ws : List (List ℕ)). Contains ws x) (sym (map-append (λ (p : List ℕ × ℕ). p.0) (spelled k ps) (spelled k qs)))
              (there x listed at (nat_le (pack x) middle) refl));
        }
      where
        there : (x : List ℕ) → IsListed l (of_share first last count x) → (first ≤ pack x) × (pack x ≤ last) → (b : Bool) → nat_le (pack x) middle ≡ b
            → Contains (words_of (spelled k ps) ++ words_of (spelled k qs)) x
        there x listed at true e =
            let low : pack x ≤ middle = grind (arith, nat_tests) in
            let same : of_share first last count x ≡ of_share first middle count x =
            share_is first last count x at.0 at.1 ∙ sym (share_is first middle count x at.0 low) in
            Contains-append_left (words_of (spelled k ps)) (words_of (spelled k qs)) x (front.all x (subst (IsListed l) same listed))
        there x listed at false e =
            let above : middle < pack x = grind (arith, nat_tests) in
            let same : of_share first last count x ≡ of_share next last count x =
            share_is first last count x at.0 at.1 ∙ sym (share_is next last count x (omega (arith, above, on)) at.1) in
            Contains-append_right (words_of (spelled k ps)) (words_of (spelled k qs)) x (back.all x (subst (IsListed l) same listed))

-- ---- in terms of lists

module _ (k f : ℕ) (l : Limits) (lists : List (List ℕ)) where
  both_shares : (first middle next last : ℕ) (c d e : Listed) → next ≡ middle + 1 → first ≤ middle → next ≤ last
      → IsDumpOfShare k f l first middle lists c → IsDumpOfShare k f l next last lists d → e ≡ record { k = c.k; packed = c.packed ++ d.packed }
      → IsDumpOfShare k f l first last lists e
  both_shares first middle next last c d e on up high front back is =
      let count = weight_of (items k f (joined lists)) in
      let own = subst (λ n. IsDump (of_share first middle count) l (spelled n c.packed)) front.is.same front.dump in
      let other = subst (λ n. IsDump (of_share next last count) l (spelled n d.packed)) back.is.same back.dump in
      let whole = both_dumps k l count first middle next last on up high c.packed d.packed front.is.fit back.is.fit own other in
      subst (IsDumpOfShare k f l first last lists) (sym is) (record {
        is = record { same = front.is.same; fit = All-append (λ p. p.0 < 4 ^ k) c.packed d.packed front.is.fit back.is.fit };
        dump = subst (λ n. IsDump (of_share first last count) l (spelled n (c.packed ++ d.packed))) (sym front.is.same) whole;
      })

  pub shares_joined : (first last : ℕ) (low high : Share) (c d e : Listed) → low.first ≡ first → high.first ≡ low.last + 1 → high.last ≡ last
      → low.first ≤ low.last → high.first ≤ high.last → IsDumpOfShare k f l low.first low.last lists c → IsDumpOfShare k f l high.first high.last lists d
      → e ≡ record { k = c.k; packed = c.packed ++ d.packed } → IsDumpOfShare k f l first last lists e
  shares_joined first last low high c d e begin on end up more front back is =
      coe 0 1 (i. IsDumpOfShare k f l (begin i) (end i) lists e) (both_shares low.first low.last high.first high.last c d e on up more front back is)

  -- the share of all words
  pub all_words : (strands : Strands) (body : List ℕ) (last : ℕ) (c : Listed) → AreListsOfItems strands k f body lists → 4 ^ k ≤ last + 1
      → IsDumpOfShare k f l 0 last lists c → IsDumpOfBody strands k l body (pairs_of c)
  all_words strands body last c lists_are wide share =
      body_dump strands k f body (joined lists) l (pairs_of c) lists_are.are (subst (λ g. IsDump g l (pairs_of c)) (λ i x. weight x i) share.dump)
    where
      fits : AllByRecursion (λ n. n / 2 ^ f < 4 ^ k) (joined lists)
      fits = recursion_from_All (λ n. n / 2 ^ f < 4 ^ k) (joined lists) lists_are.are.fit

      all_in : (ns : List ℕ) → AllByRecursion (λ n. n / 2 ^ f < 4 ^ k) ns → AllByRecursion (λ n. has_word_from (2 ^ f) 0 last n ≡ true) ns
      all_in [] h = tt
      all_in (n ∷ ns) h =
          let low : n / 2 ^ f ≤ last = omega (arith, h.0, wide) in
          let inside : has_word_from (2 ^ f) 0 last n ≡ true = grind (arith, nat_tests) in
          (inside, all_in ns h.1)

      weight : (x : List ℕ) → of_share 0 last (weight_of (items k f (joined lists))) x ≡ weight_of (items k f (joined lists)) x
      weight x =
          sym (share_weight k f 0 last x (joined lists) fits)
          ∙ ap (λ (ns : List ℕ). weight_of (items k f ns) x) (filter_every (has_word_from (2 ^ f) 0 last) (joined lists) (all_in (joined lists) fits))

-- ---- lists of the pieces of a body

module _ (strands : Strands) (k f : ℕ) where
  pub one_list : (body ns : List ℕ) → IsSorted nat_cmp ns → AreItemsOfBody strands k f body ns → AreListsOfItems strands k f body (ns ∷ [])
  one_list body ns up are = record {
    sorted = All-cons (IsSorted nat_cmp) ns [] up (All-nil (IsSorted nat_cmp));
    are = subst (AreItemsOfBody strands k f body) (sym (append-nil ns)) are;
  }

  pub lists_joined : (front back : List ℕ) (lists more : List (List ℕ)) → AreListsOfItems strands k f front lists → AreListsOfItems strands k f back more
      → AreListsOfItems strands k f (front ++ back) (lists ++ more)
  lists_joined front back lists more low high = record {
    sorted = All-append (IsSorted nat_cmp) lists more low.sorted high.sorted;
    are = subst (AreItemsOfBody strands k f (front ++ back)) (sym (flat_map-append (λ (ns : List ℕ). ns) lists more))
        (items_joined strands k f front back (joined lists) (joined more) low.are high.are);
  }
