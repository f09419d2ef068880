-- Histograms of lists that share no word add up.
use Rattle.std.proofs.Common.{◌≡◌, ℕ, zero, suc, ◌+◌, ◌≤◌, ◌⊎◌, inl, inr, Bool, true, false, cond, List, [], ◌∷◌, refl, sym, ap, subst, ◌∙◌, arith, zero-add, add-zero}
use Rattle.std.specs.Prelude.{◌==◌, map}
use Rattle.std.specs.List.{AllByRecursion}
use Rattle.std.specs.List.Sorted.{IsStrictlySortedBy}
use Rattle.std.specs.Ordering.{nat_cmp}
use Rattle.std.specs.declared.cmp.Ordering.TheVariants.{Less}
use Rattle.std.proofs.lemmas.Bool.Decides.{nat_tests}
use Rattle.std.proofs.lemmas.List.Sums.{sum_by-cons}
use Rattle.kmc_base.specs.Lemmas.Members.{Has, below_has, has_contains}
use Rattle.kmc_base.specs.Words.{kmer_cmp}
use Rattle.kmc_count.specs.Dump.{words_of}
use Rattle.kmc_count.specs.Lemmas.Listing.{kmer_total, same_is, same_itself}
use Rattle.kmc_count.specs.Lemmas.OneDump.{Below, not_below_itself}
use Rattle.kmc_count.specs.Occurrences.{same_word}
use Rattle.kmc_sum.specs.Listed.{AreListed, IsPair}
use Rattle.kmc_sum.specs.Sum.{listed_count}
use Rattle.kmc_sum.specs.Lemmas.Listed.{none_listed}
use Rattle.kmc_join.specs.Histogram.{IsHistogram, number_with}
use Rattle.kmc_join.specs.Laws.{HistogramsAdd, told}

-- ---- pairs whose words rise

pub record AreRising (ps : List (List ℕ × ℕ)) : Type 0 where
  pub up : IsStrictlySortedBy kmer_cmp (words_of ps)
  pub some : AllByRecursion (λ p. 1 ≤ p.1) ps

module _ (p : List ℕ × ℕ) (ps : List (List ℕ × ℕ)) (rising : AreRising (p ∷ ps)) where
  above : (y : List ℕ) → Has y (words_of ps) → kmer_cmp p.0 y ≡ Less
  unfolding IsStrictlySortedBy
  above y m = below_has Below p.0 y (words_of ps) rising.up.0 m

  pub tail : AreRising ps
  unfolding IsStrictlySortedBy
  tail = record { up = rising.up.1; some = rising.some.1 }

  count_more : (x : List ℕ) → listed_count (p ∷ ps) x ≡ cond (same_word p.0 x) p.1 0 + listed_count ps x
  count_more x = sum_by-cons (λ (q : List ℕ × ℕ). cond (same_word q.0 x) q.1 0) p ps

  none_behind : listed_count ps p.0 ≡ 0
  none_behind = none_listed p.0 ps (λ m. not_below_itself p.0 (above p.0 m))

  pub count_first : listed_count (p ∷ ps) p.0 ≡ p.1
  count_first = count_more p.0 ∙ (λ i. cond (same_itself p.0 i) p.1 0 + none_behind i) ∙ add-zero p.1

  pub count_later : (x : List ℕ) → same_word p.0 x ≡ false → listed_count (p ∷ ps) x ≡ listed_count ps x
  count_later x other = count_more x ∙ ap (λ b. cond b p.1 0 + listed_count ps x) other ∙ zero-add (listed_count ps x)

  number_more : (n : ℕ) → number_with (p ∷ ps) n ≡ cond (p.1 == n) 1 0 + number_with ps n
  number_more n = sum_by-cons (λ (q : List ℕ × ℕ). cond (q.1 == n) 1 0) p ps

-- a word that has a number is one of the words
has_listed : (x : List ℕ) (ps : List (List ℕ × ℕ)) → 1 ≤ listed_count ps x → Has x (words_of ps)
has_listed x [] some = absurd (omega (arith, some))
has_listed x (p ∷ ps) some = go (same_word p.0 x) refl (has_listed x ps)
  where
    go : (b : Bool) → same_word p.0 x ≡ b → (1 ≤ listed_count ps x → Has x (words_of ps)) → (p.0 ≡ x) ⊎ Has x (words_of ps)
    go true e later = inl (same_is p.0 x e)
    go false e later = inr (later (omega (
      arith,
      some,
      sum_by-cons (λ (q : List ℕ × ℕ). cond (same_word q.0 x) q.1 0) p ps,
      ap (λ b. cond b p.1 0) e,
    )))

record Splits (left right both : List (List ℕ × ℕ)) : Type 0 where
  left_up : AreRising left
  right_up : AreRising right
  both_up : AreRising both
  apart : (x : List ℕ) → 1 ≤ listed_count left x → listed_count right x ≡ 0
  each : (x : List ℕ) → listed_count both x ≡ listed_count left x + listed_count right x

turned : (left right both : List (List ℕ × ℕ)) → Splits left right both → Splits right left both
turned left right both s = record {
  left_up = s.right_up;
  right_up = s.left_up;
  both_up = s.both_up;
  apart = λ x some. go x some (listed_count left x) refl;
  each = λ x. omega (arith, s.each x);
}
  where
    go : (x : List ℕ) → 1 ≤ listed_count right x → (m : ℕ) → listed_count left x ≡ m → listed_count left x ≡ 0
    go x some zero e = e
    go x some (suc m) e = absurd (omega (arith, some, s.apart x (omega (arith, e))))

-- the first pair of a list is of this word
abbrev BeginsAt : List ℕ → List (List ℕ × ℕ) → Type 0
BeginsAt x [] = ⊥
BeginsAt x (q ∷ qs) = q.0 ≡ x

-- the least word of both is the first one of the list that has it
begins : (left right : List (List ℕ × ℕ)) (p : List ℕ × ℕ) (bs : List (List ℕ × ℕ)) → Splits left right (p ∷ bs) → 1 ≤ listed_count left p.0
    → BeginsAt p.0 left
begins [] right p bs s some = absurd (omega (arith, some))
begins (q ∷ qs) right p bs s some = go (has_listed p.0 (q ∷ qs) some)
  where
    go : (q.0 ≡ p.0) ⊎ Has p.0 (words_of qs) → q.0 ≡ p.0
    go (inl e) = e
    go (inr m) =
        let own = count_first q qs s.left_up in
        let least : 1 ≤ q.1 = s.left_up.some.0 in
        elim (has_listed q.0 (p ∷ bs) (omega (arith, own, least, s.each q.0))) [
          | inl e ↦ sym e
          | inr n ↦ absurd (not_below_itself p.0 (kmer_total.trans p.0 q.0 p.0 (above p bs s.both_up q.0 n) (above q qs s.left_up p.0 m)))
        ]

-- without the first pair of both
module _ (q : List ℕ × ℕ) (qs right : List (List ℕ × ℕ)) (p : List ℕ × ℕ) (bs : List (List ℕ × ℕ)) (s : Splits (q ∷ qs) right (p ∷ bs)) (is : q.0 ≡ p.0) where
  other_none : listed_count right q.0 ≡ 0
  other_none = s.apart q.0 (let own = count_first q qs s.left_up in let some : 1 ≤ q.1 = s.left_up.some.0 in omega (arith, own, some))

  same_count : q.1 ≡ p.1
  same_count =
      let own = count_first q qs s.left_up in
      let here : listed_count (p ∷ bs) q.0 ≡ p.1 = ap (listed_count (p ∷ bs)) is ∙ count_first p bs s.both_up in
      omega (arith, own, here, s.each q.0, other_none)

  rest : Splits qs right bs
  rest = record {
    left_up = tail q qs s.left_up;
    right_up = s.right_up;
    both_up = tail p bs s.both_up;
    apart = λ x some. s.apart x (omega (arith, some, count_more q qs s.left_up x));
    each = λ x. go x (same_word q.0 x) refl;
  }
    where
      go : (x : List ℕ) (b : Bool) → same_word q.0 x ≡ b → listed_count bs x ≡ listed_count qs x + listed_count right x
      go x true e =
          let none : listed_count bs q.0 ≡ 0 = ap (listed_count bs) is ∙ none_behind p bs s.both_up in
          subst (λ z. listed_count bs z ≡ listed_count qs z + listed_count right z) (same_is q.0 x e)
          (omega (arith, none, none_behind q qs s.left_up, other_none))
      go x false e =
          let other : same_word p.0 x ≡ false = ap (λ z. same_word z x) (sym is) ∙ e in
          omega (arith, s.each x, count_later q qs s.left_up x e, count_later p bs s.both_up x other)

-- 1 for the number that is looked for
abbrev hit : ℕ → ℕ → ℕ
hit n m = cond (m == n) 1 0

-- one more of the left list
more_left : (left right : List (List ℕ × ℕ)) (p : List ℕ × ℕ) (bs : List (List ℕ × ℕ)) (n : ℕ) → Splits left right (p ∷ bs) → BeginsAt p.0 left
    → ((qs : List (List ℕ × ℕ)) → Splits qs right bs → number_with bs n ≡ number_with qs n + number_with right n)
    → number_with (p ∷ bs) n ≡ number_with left n + number_with right n
more_left [] right p bs n s first add = absurd first
more_left (q ∷ qs) right p bs n s first add =
    let same : hit n q.1 ≡ hit n p.1 = ap (hit n) (same_count q qs right p bs s first) in
    omega (arith, add qs (rest q qs right p bs s first), number_more p bs s.both_up n, number_more q qs s.left_up n, same)

numbers_add : (both left right : List (List ℕ × ℕ)) (n : ℕ) → Splits left right both → number_with both n ≡ number_with left n + number_with right n
numbers_add [] [] [] n s = refl
numbers_add [] (q ∷ qs) right n s = absurd (
    let own = count_first q qs s.left_up in let some : 1 ≤ q.1 = s.left_up.some.0 in omega (arith, own, some, s.each q.0)
    )
numbers_add [] [] (r ∷ rs) n s = absurd (
    let own = count_first r rs s.right_up in let some : 1 ≤ r.1 = s.right_up.some.0 in omega (arith, own, some, s.each r.0)
    )
numbers_add (p ∷ bs) left right n s = go (listed_count left p.0) refl (λ ls rs t. numbers_add bs ls rs n t)
  where
    go : (m : ℕ) → listed_count left p.0 ≡ m
        → ((ls rs : List (List ℕ × ℕ)) → Splits ls rs bs → number_with bs n ≡ number_with ls n + number_with rs n)
        → number_with (p ∷ bs) n ≡ number_with left n + number_with right n
    go (suc m) e later =
        more_left left right p bs n s (begins left right p bs s (omega (arith, e))) (λ qs t. later qs right t)
    go zero e later =
        let own = count_first p bs s.both_up in
        let some : 1 ≤ p.1 = s.both_up.some.0 in
        let back = turned left right (p ∷ bs) s in
        let here = more_left right left p bs n back (begins right left p bs back (omega (arith, own, some, e, s.each p.0)))
        (λ qs t. let u = later left qs (turned qs left bs t) in omega (arith, u)) in
        omega (arith, here)

-- ---- rows

told_none : (n : ℕ) (rows : List (ℕ × ℕ)) → (Has n (map (λ r. r.0) rows) → ⊥) → told rows n ≡ 0
told_none n [] none = refl
told_none n (r ∷ rows) none = go (r.0 == n) refl (told_none n rows (λ m. none (inr m)))
  where
    go : (b : Bool) → (r.0 == n) ≡ b → told rows n ≡ 0 → told (r ∷ rows) n ≡ 0
    go true e later = let is : r.0 ≡ n = grind (arith, nat_tests) in absurd (none (inl is))
    go false e later =
        sum_by-cons (λ (q : ℕ × ℕ). cond (q.0 == n) q.1 0) r rows ∙ ap (λ b. cond b r.1 0 + told rows n) e ∙ zero-add (told rows n) ∙ later

-- rows that rise tell each number that they have
told_own : (number : ℕ → ℕ) (n : ℕ) (rows : List (ℕ × ℕ)) → IsStrictlySortedBy nat_cmp (map (λ r. r.0) rows)
    → AllByRecursion (λ r. (1 ≤ r.1) × (r.1 ≡ number r.0)) rows → Has n (map (λ r. r.0) rows) → told rows n ≡ number n
unfolding IsStrictlySortedBy
told_own number n [] up each m = absurd m
told_own number n (r ∷ rows) up each (inl e) =
    let none : told rows n ≡ 0 = told_none n rows (λ m. let less = below_has (λ (a b : ℕ). nat_cmp a b ≡ Less) r.0 n (map (λ q. q.0) rows) up.0 m in
    irreflexive r.0 n e less) in
    let same : (r.0 == n) ≡ true = grind (arith, nat_tests) in
    sum_by-cons (λ (q : ℕ × ℕ). cond (q.0 == n) q.1 0) r rows ∙ (λ i. cond (same i) r.1 0 + none i) ∙ add-zero r.1 ∙ each.0.1 ∙ ap number e
  where
    irreflexive : (a b : ℕ) → a ≡ b → nat_cmp a b ≡ Less → ⊥
    irreflexive a b e less = grind (arith, nat_tests)
told_own number n (r ∷ rows) up each (inr m) =
    let less = below_has (λ (a b : ℕ). nat_cmp a b ≡ Less) r.0 n (map (λ q. q.0) rows) up.0 m in
    let other : (r.0 == n) ≡ false = apart r.0 n less in
    sum_by-cons (λ (q : ℕ × ℕ). cond (q.0 == n) q.1 0) r rows ∙ ap (λ b. cond b r.1 0 + told rows n) other ∙ zero-add (told rows n)
    ∙ told_own number n rows up.1 each.1 m
  where
    apart : (a b : ℕ) → nat_cmp a b ≡ Less → (a == b) ≡ false
    apart a b less = grind (arith, nat_tests)

told_is : (pairs : List (List ℕ × ℕ)) (rows : List (ℕ × ℕ)) → IsHistogram pairs rows → (n : ℕ) → told rows n ≡ number_with pairs n
told_is pairs rows histogram n = go (number_with pairs n) refl
  where
    key_some : (rs : List (ℕ × ℕ)) → AllByRecursion (λ r. (1 ≤ r.1) × (r.1 ≡ number_with pairs r.0)) rs → Has n (map (λ r. r.0) rs)
        → 1 ≤ number_with pairs n
    key_some [] each m = absurd m
    key_some (r ∷ rs) each (inl e) = omega (arith, each.0.0, each.0.1, ap (number_with pairs) e)
    key_some (r ∷ rs) each (inr m) = key_some rs each.1 m

    go : (m : ℕ) → number_with pairs n ≡ m → told rows n ≡ number_with pairs n
    go zero e = told_none n rows (λ m. let some = key_some rows histogram.each m in omega (arith, some, e)) ∙ sym e
    go (suc m) e = told_own (number_with pairs) n rows histogram.rising histogram.each
        (has_contains n (map (λ r. r.0) rows) (histogram.all n (omega (arith, e))))

pub rising_of : (k : ℕ) (ps : List (List ℕ × ℕ)) → AreListed k ps → AreRising ps
rising_of k ps listed = record { up = listed.rising; some = some_of ps listed.each }
  where
    some_of : (qs : List (List ℕ × ℕ)) → AllByRecursion (IsPair k) qs → AllByRecursion (λ p. 1 ≤ p.1) qs
    some_of [] h = tt
    some_of (q ∷ qs) h = (h.0.some, some_of qs h.1)

pub histograms_add : HistogramsAdd
histograms_add k left right both first second whole l r b both_of hl hr hb n =
    let s : Splits left right both = record {
      left_up = rising_of k left l;
      right_up = rising_of k right r;
      both_up = rising_of k both b;
      apart = both_of.apart;
      each = both_of.each;
    } in
    omega (arith, told_is left first hl n, told_is right second hr n, told_is both whole hb n, numbers_add both left right n s)
