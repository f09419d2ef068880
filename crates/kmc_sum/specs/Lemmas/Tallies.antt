-- The dump of a sum, one pair after the other.
use Rattle.std.proofs.Common.{◌≡◌, ℕ, zero, suc, ◌+◌, ◌-◌, ◌<◌, ◌≤◌, ◌^◌, ◌⊎◌, inl, inr, Bool, true, false, cond, min, List, [], ◌∷◌, ◌++◌, Option, refl, sym, ap, subst, ◌∙◌, arith, append-nil, zero-add}
use Rattle.std.specs.List.{AllByRecursion, Contains, cons_option}
use Rattle.std.specs.List.Sorted.{IsStrictlySortedBy}
use Rattle.std.specs.Option.{option_map}
use Rattle.std.specs.declared.cmp.Ordering.TheVariants.{Less}
use Rattle.std.proofs.lemmas.List.{map-append}
use Rattle.std.proofs.lemmas.List.Elements.{Contains-append_left, Contains-append_right}
use Rattle.kmc_base.specs.Words.{kmer_cmp}
use Rattle.kmc_count.specs.declared.limits.Limits.{Limits}
use Rattle.kmc_count.specs.Occurrences.{same_word}
use Rattle.kmc_count.specs.Dump.{IsListed, shown, words_of, IsDump}
use Rattle.kmc_count.specs.Lemmas.Listing.{kmer_total, same_is, same_itself, keep_cases}
use Rattle.kmc_base.specs.Lemmas.Members.{Has, contains_has}
use Rattle.kmc_count.specs.Lemmas.OneDump.{listed_has, not_below_itself}
use Rattle.kmc_sum.specs.Sum.{sum_of}
use Rattle.kmc_sum.specs.Tally.{kept_pair, without, Tallied}

abbrev Right : Limits → (List ℕ → ℕ) → List ℕ × ℕ → Type 0
Right l c p = IsListed l (c p.0) × (p.1 ≡ shown l (c p.0))

-- a count that agrees where something is listed
right_like : (l : Limits) (c d : List ℕ → ℕ) (ps : List (List ℕ × ℕ)) → ((y : List ℕ) → 1 ≤ c y → d y ≡ c y) → AllByRecursion (Right l c) ps
    → AllByRecursion (Right l d) ps
right_like l c d [] same h = tt
right_like l c d (p ∷ ps) same h = (subst (λ n. IsListed l n × (p.1 ≡ shown l n)) (sym (same p.0 h.0.0.0)) h.0, right_like l c d ps same h.1)

all_push : (P : List ℕ × ℕ → Type 0) (ps qs : List (List ℕ × ℕ)) → AllByRecursion P ps → AllByRecursion P qs → AllByRecursion P (ps ++ qs)
all_push P [] qs h k = k
all_push P (p ∷ ps) qs h k = (h.0, all_push P ps qs h.1 k)

pub rising_none : IsStrictlySortedBy kmer_cmp []
unfolding IsStrictlySortedBy
rising_none = tt

-- words that rise, and one above them
rising_end : (x : List ℕ) (ws : List (List ℕ)) → IsStrictlySortedBy kmer_cmp ws → ((y : List ℕ) → Has y ws → kmer_cmp y x ≡ Less)
    → IsStrictlySortedBy kmer_cmp (ws ++ x ∷ [])
unfolding IsStrictlySortedBy
rising_end x [] up below = (tt, tt)
rising_end x (w ∷ ws) up below = (all_end ws up.0 (below w (inl refl)), rising_end x ws up.1 (λ y m. below y (inr m)))
  where
    all_end : (vs : List (List ℕ)) → AllByRecursion (λ y. kmer_cmp w y ≡ Less) vs → kmer_cmp w x ≡ Less → AllByRecursion (λ y. kmer_cmp w y ≡ Less)
        (vs ++ x ∷ [])
    all_end [] h less = (less, tt)
    all_end (v ∷ vs) h less = (h.0, all_end vs h.1 less)

-- the dump of a count that is one more pair
dump_push : (l : Limits) (c d : List ℕ → ℕ) (x : List ℕ) (pairs : List (List ℕ × ℕ)) → IsDump c l pairs
    → ((y : List ℕ) → 1 ≤ c y → (kmer_cmp y x ≡ Less) × (d y ≡ c y)) → ((y : List ℕ) → 1 ≤ d y → (1 ≤ c y) ⊎ (x ≡ y))
    → IsListed l (d x) → IsDump d l (pairs ++ (x, shown l (d x)) ∷ [])
dump_push l c d x pairs dump same split listed = record {
  rising = subst (IsStrictlySortedBy kmer_cmp) (sym (map-append (λ (p : List ℕ × ℕ). p.0) pairs ((x, shown l (d x)) ∷ [])))
      (rising_end x (words_of pairs) dump.rising (λ y m. (same y (listed_has c l pairs y dump.each m).0).0));
  each = all_push (Right l d) pairs ((x, shown l (d x)) ∷ []) (right_like l c d pairs (λ y some. (same y some).1) dump.each) ((listed, refl), tt);
  all = λ y h. subst (λ (t : List (List ℕ)). Contains t y) (sym (map-append (λ (p : List ℕ × ℕ). p.0) pairs ((x, shown l (d x)) ∷ [])))
      (elim (split y h.0) [
        | inl some ↦ Contains-append_left (words_of pairs) (x ∷ []) y (dump.all y (subst (IsListed l) (same y some).1 h))
        | inr e ↦ Contains-append_right (words_of pairs) (x ∷ []) y (contains_has y (x ∷ []) (inl e))
      ]);
}

dump_like : (l : Limits) (c d : List ℕ → ℕ) (x : List ℕ) (pairs : List (List ℕ × ℕ)) → IsDump c l pairs → ((y : List ℕ) → 1 ≤ c y → d y ≡ c y)
    → ((y : List ℕ) → 1 ≤ d y → (1 ≤ c y) ⊎ (x ≡ y))
    → (IsListed l (d x) → ⊥) → IsDump d l pairs
dump_like l c d x pairs dump same split none = record {
  rising = dump.rising;
  each = right_like l c d pairs same dump.each;
  all = λ y h. elim (split y h.0) [
    | inl some ↦ dump.all y (subst (IsListed l) (same y some) h)
    | inr e ↦ absurd (none (subst (λ w. IsListed l (d w)) (sym e) h))
  ];
}

module _ (l : Limits) (small : l.cx ≤ 2 ^ 63) (c : List ℕ → ℕ) (x : List ℕ) (n : ℕ) (pairs : List (List ℕ × ℕ)) (t : Tallied l c x n pairs) where
  but_x : (y : List ℕ) → 1 ≤ without x c y → c y ≡ without x c y
  but_x y some = go (same_word x y) refl
    where
      go : (b : Bool) → same_word x y ≡ b → c y ≡ without x c y
      go true e = let none : without x c y ≡ 0 = ap (λ b. cond b 0 (c y)) e in absurd (omega (arith, some, none))
      go false e = sym (ap (λ b. cond b 0 (c y)) e)

  or_x : (y : List ℕ) → 1 ≤ c y → (1 ≤ without x c y) ⊎ (x ≡ y)
  or_x y some = go (same_word x y) refl
    where
      go : (b : Bool) → same_word x y ≡ b → (1 ≤ without x c y) ⊎ (x ≡ y)
      go true e = inr (same_is x y e)
      go false e = let here : without x c y ≡ c y = ap (λ b. cond b 0 (c y)) e in inl (omega (arith, some, here))

  -- the open word is closed
  pub tally_end : IsDump c l (pairs ++ kept_pair l x n)
  tally_end = go n refl
    where
      go : (m : ℕ) → n ≡ m → IsDump c l (pairs ++ kept_pair l x m)
      go zero e =
          let none : c x ≡ 0 = omega (arith, e, t.number) in
          subst (IsDump c l) (sym (append-nil pairs)) (dump_like l (without x c) c x pairs t.dump but_x or_x (λ h. omega (arith, h.0, none)))
      go (suc m) e = elim (keep_cases l (suc m)) as (λ _. IsDump c l (pairs ++ kept_pair l x (suc m))) [
        | inl h ↦ subst (IsDump c l) (sym (ap (λ (o : Option ℕ). pairs ++ cons_option (option_map (λ k. (x, k)) o) []) h.0 ∙ append-nil pairs))
            (dump_like l (without x c) c x pairs t.dump but_x or_x (λ k. h.1
            (omega arith, omega (arith, k.1, k.2, t.number, e, small), omega (arith, k.2, t.number, e, small))))
        | inr h ↦
            let same : c x ≡ suc m = omega (arith, t.number, e, h.2, small) in
            subst (IsDump c l) (ap (λ k. pairs ++ (x, shown l k) ∷ []) same ∙ sym
            (ap (λ (o : Option ℕ). pairs ++ cons_option (option_map (λ k. (x, k)) o) []) h.0))
            (dump_push l (without x c) c x pairs t.dump (λ y some. (t.last y some, but_x y some)) or_x
            (omega (arith, same), omega (arith, same, h.1), omega (arith, same, h.2)))
      ]

  -- more of the open word
  pub tally_more : (d : List ℕ → ℕ) (m : ℕ) → ((y : List ℕ) → d y ≡ cond (same_word x y) m 0 + c y) → Tallied l d x (min (n + m) (2 ^ 64 - 1)) pairs
  tally_more d m is =
      let same : without x c ≡ without x d = λ i y. sames y i in
      record {
        dump = subst (λ e. IsDump e l pairs) same t.dump;
        number = let here : d x ≡ m + c x = is x ∙ ap (λ b. cond b m 0 + c x) (same_itself x) in omega (arith, here, t.number);
        last = λ y some. t.last y (omega (arith, some, sames y));
      }
    where
      sames : (y : List ℕ) → without x c y ≡ without x d y
      sames y = go (same_word x y) (is y)
        where
          go : (b : Bool) → d y ≡ cond b m 0 + c y → cond b 0 (c y) ≡ cond b 0 (d y)
          go true e = refl
          go false e = omega (arith, e)

  -- a word above the open one
  pub tally_next : (d : List ℕ → ℕ) (z : List ℕ) (m : ℕ) → kmer_cmp x z ≡ Less → m < 2 ^ 64 → ((y : List ℕ) → d y ≡ cond (same_word z y) m 0 + c y)
      → Tallied l d z m (pairs ++ kept_pair l x n)
  tally_next d z m up fits is =
      let same : c ≡ without z d = λ i y. sames y i in
      record {
        dump = subst (λ e. IsDump e l (pairs ++ kept_pair l x n)) same tally_end;
        number = let here : d z ≡ m + c z = is z ∙ ap (λ b. cond b m 0 + c z) (same_itself z) in omega (arith, here, none, fits);
        last = λ y some. elim (or_x y (omega (arith, some, sames y))) [
          | inl other ↦ kmer_total.trans y x z (t.last y other) up
          | inr e ↦ subst (λ w. kmer_cmp w z ≡ Less) e up
        ];
      }
    where
      none : c z ≡ 0
      none = go (c z) refl
        where
          go : (k : ℕ) → c z ≡ k → c z ≡ 0
          go zero e = e
          go (suc k) e = elim (or_x z (omega (arith, e))) [
            | inl other ↦ absurd (not_below_itself x (kmer_total.trans x z x up (t.last z other)))
            | inr f ↦ absurd (not_below_itself x (subst (λ w. kmer_cmp x w ≡ Less) (sym f) up))
          ]

      sames : (y : List ℕ) → c y ≡ without z d y
      sames y = go (same_word z y) refl
        where
          go : (b : Bool) → same_word z y ≡ b → c y ≡ without z d y
          go true e = ap c (sym (same_is z y e)) ∙ none ∙ sym (ap (λ b. cond b 0 (d y)) e)
          go false e = let here : d y ≡ c y = is y ∙ ap (λ b. cond b m 0 + c y) e ∙ zero-add (c y) in omega (arith, here, ap (λ b. cond b 0 (d y)) e)

-- nothing is summed
pub tally_start : (l : Limits) (c : List ℕ → ℕ) (x : List ℕ) → ((y : List ℕ) → c y ≡ 0) → Tallied l c x 0 []
tally_start l c x none = record {
  dump = record { rising = rising_none; each = tt; all = λ y h. absurd (omega (arith, h.0, nones y)) };
  number = omega (arith, none x);
  last = λ y some. absurd (omega (arith, some, nones y));
}
  where
    nones : (y : List ℕ) → without x c y ≡ 0
    nones y = go (same_word x y) (none y)
      where
        go : (b : Bool) → c y ≡ 0 → cond b 0 (c y) ≡ 0
        go true e = refl
        go false e = e

-- the dump of nothing
pub empty_dump : (l : Limits) (lists : List (List (List ℕ × ℕ))) → ((y : List ℕ) → sum_of lists y ≡ 0) → IsDump (sum_of lists) l []
empty_dump l lists none = record { rising = rising_none; each = tt; all = λ y h. absurd (omega (arith, h.0, none y)) }
