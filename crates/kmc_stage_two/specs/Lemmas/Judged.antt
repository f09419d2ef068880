-- Bodies that are of the bins that are asked for.
use Rattle.std.proofs.Common.{◌≡◌, ℕ, ◌+◌, ◌-◌, ◌<◌, ◌≤◌, ◌⊎◌, inl, inr, Option, Some, None, List, [], ◌++◌, length, get_or, replicate, refl, sym, ap, subst, ◌∙◌, arith, add-zero}
use Rattle.std.proofs.lemmas.List.{length-append, length-replicate, get_or_append_left, get_or-append_right, get_or-replicate}
use Rattle.kmc_count.specs.Asked.{asked_behind, AreOfBins, AsksFor, IsOfBin}
use Rattle.kmc_count.specs.declared.judging.AskedBin.{AskedBin}
use Rattle.kmc_stage_two.specs.Bodies.{AreLeft}

-- no place behind is the place itself
pub behind_none : (asked : Option AskedBin) (body : List ℕ) → IsOfBin asked body → IsOfBin (asked_behind 0 asked) body
behind_none None body h = tt
behind_none (Some a) body h = subst (λ n. IsOfBin (Some (record a { bin = n })) body) (sym (add-zero a.bin)) h

-- words of as many symbols are asked for at each place
pub asks_behind : (k places : ℕ) (asked : Option AskedBin) → AsksFor k asked → AsksFor k (asked_behind places asked)
asks_behind k places None h = tt
asks_behind k places (Some a) h = h

-- so many places behind
pub behind_there : (asked found : Option AskedBin) (places : ℕ) (body : List ℕ)
    → ((i : ℕ) (b : List ℕ) → IsOfBin (asked_behind i found) b → IsOfBin (asked_behind (places + i) asked) b) → IsOfBin found body
    → IsOfBin (asked_behind places asked) body
behind_there asked found places body behind h =
    subst (λ n. IsOfBin (asked_behind n asked) body) (add-zero places) (behind 0 body (behind_none found body h))

-- and those that are asked for there are asked for at the first
pub asks_back : (k places : ℕ) (asked : Option AskedBin) → AsksFor k (asked_behind places asked) → AsksFor k asked
asks_back k places None h = tt
asks_back k places (Some a) h = h

-- the place itself, and so many places behind, the other way round
none_behind : (asked : Option AskedBin) (body : List ℕ) → IsOfBin (asked_behind 0 asked) body → IsOfBin asked body
none_behind None body h = tt
none_behind (Some a) body h = subst (λ n. IsOfBin (Some (record a { bin = n })) body) (add-zero a.bin) h

pub behind_here : (asked found : Option AskedBin) (places : ℕ) (body : List ℕ)
    → ((i : ℕ) (b : List ℕ) → IsOfBin (asked_behind (places + i) asked) b → IsOfBin (asked_behind i found) b)
    → IsOfBin (asked_behind places asked) body → IsOfBin found body
behind_here asked found places body before h =
    none_behind found body (before 0 body (subst (λ n. IsOfBin (asked_behind n asked) body) (sym (add-zero places)) h))

-- the bodies before a place
abbrev pub AreOfBinsTo : ℕ → Option AskedBin → List (List ℕ) → Type 0
AreOfBinsTo n asked bodies = (i : ℕ) → i < n → IsOfBin (asked_behind i asked) (get_or bodies i [])

pub next_of_bin : (n : ℕ) (asked : Option AskedBin) (bodies : List (List ℕ)) → AreOfBinsTo n asked bodies
    → IsOfBin (asked_behind n asked) (get_or bodies n []) → AreOfBinsTo (n + 1) asked bodies
next_of_bin n asked bodies h here i less = elim (let two : (i < n) ⊎ (i ≡ n) = grind (arith, less) in two) [
  | inl before ↦ h i before
  | inr same ↦ subst (λ j. IsOfBin (asked_behind j asked) (get_or bodies j [])) (sym same) here
]

in_front_or_behind : (i n : ℕ) → (i < n) ⊎ (n ≤ i)
in_front_or_behind i n = grind arith

-- of bodies side by side that are of their bins, those of each row are
module _ (asked next : Option AskedBin) (us vs : List (List ℕ)) where
  pub front_of_bins : AreOfBins asked (us ++ vs) → AreOfBins asked us
  front_of_bins both i inside =
      subst (IsOfBin (asked_behind i asked)) (get_or_append_left us vs [] i inside) (both i (omega (arith, inside, length-append us vs)))

  pub back_of_bins : ((i : ℕ) (body : List ℕ) → IsOfBin (asked_behind (length us + i) asked) body → IsOfBin (asked_behind i next) body)
      → AreOfBins asked (us ++ vs) → AreOfBins next vs
  back_of_bins before both i inside =
      let place : length us + i - length us ≡ i = omega arith in
      let there : get_or (us ++ vs) (length us + i) [] ≡ get_or vs i [] =
      get_or-append_right us vs (length us) (length us + i) [] refl (omega arith) ∙ ap (λ n. get_or vs n []) place in
      before i (get_or vs i []) (subst (IsOfBin (asked_behind (length us + i) asked)) there
      (both (length us + i) (omega (arith, inside, length-append us vs))))

module _ (asked next : Option AskedBin) (us vs : List (List ℕ))
    (behind : (i : ℕ) (body : List ℕ) → IsOfBin (asked_behind i next) body → IsOfBin (asked_behind (length us + i) asked) body) where
  -- a body of the second row, by its place in both
  abbrev moved : ℕ → List (List ℕ) → List (List ℕ) → Type 0
  moved i us' vs' = get_or (us' ++ vs') i [] ≡ get_or vs' (i - length us') []

  of_back : (i : ℕ) → length us ≤ i → IsOfBin (asked_behind (i - length us) next) (get_or vs (i - length us) [])
      → IsOfBin (asked_behind i asked) (get_or (us ++ vs) i [])
  of_back i more h =
      let whole : length us + (i - length us) ≡ i = omega (arith, more) in
      subst (IsOfBin (asked_behind i asked)) (sym (get_or-append_right us vs (length us) i [] refl more))
      (subst (λ n. IsOfBin (asked_behind n asked) (get_or vs (i - length us) [])) whole (behind (i - length us) (get_or vs (i - length us) []) h))

  of_front : (i : ℕ) → i < length us → IsOfBin (asked_behind i asked) (get_or us i []) → IsOfBin (asked_behind i asked) (get_or (us ++ vs) i [])
  of_front i less h = subst (IsOfBin (asked_behind i asked)) (sym (get_or_append_left us vs [] i less)) h

  pub both_of_bins : AreOfBins asked us → AreOfBins next vs → AreOfBins asked (us ++ vs)
  both_of_bins front back i inside = elim (in_front_or_behind i (length us)) [
    | inl less ↦ of_front i less (front i less)
    | inr more ↦ of_back i more (back (i - length us) (omega (arith, inside, more, length-append us vs)))
  ]

  pub both_left : (us' vs' : List (List ℕ)) → AreLeft asked us us' → AreLeft next vs vs' → AreLeft asked (us ++ vs) (us' ++ vs')
  both_left us' vs' front back = record {
    wide = omega (arith, length-append us vs, length-append us' vs', front.wide, back.wide);
    each = λ i inside.
        elim (in_front_or_behind i (length us)) [
          | inl less ↦
              let new : get_or (us' ++ vs') i [] ≡ get_or us' i [] = get_or_append_left us' vs' [] i (omega (arith, less, front.wide)) in
              elim (front.each i less) [
                | inl same ↦ inl (new ∙ same ∙ sym (get_or_append_left us vs [] i less))
                | inr freed ↦ inr (new ∙ freed.0, of_front i less freed.1)
              ]
          | inr more ↦
              let new : get_or (us' ++ vs') i [] ≡ get_or vs' (i - length us) [] =
              get_or-append_right us' vs' (length us) i [] front.wide (omega (arith, more)) in
              elim (back.each (i - length us) (omega (arith, inside, more, length-append us vs))) [
                | inl same ↦ inl (new ∙ same ∙ sym (get_or-append_right us vs (length us) i [] refl more))
                | inr freed ↦ inr (new ∙ freed.0, of_back i more freed.1)
              ]
        ];
  }

-- the second row was not begun
pub front_left : (asked : Option AskedBin) (us vs us' : List (List ℕ)) → AreLeft asked us us' → AreLeft asked (us ++ vs) (us' ++ vs)
front_left asked us vs us' front = record {
  wide = omega (arith, length-append us vs, length-append us' vs, front.wide);
  each = λ i inside.
      elim (in_front_or_behind i (length us)) [
        | inl less ↦
            let new : get_or (us' ++ vs) i [] ≡ get_or us' i [] = get_or_append_left us' vs [] i (omega (arith, less, front.wide)) in
            let old : get_or (us ++ vs) i [] ≡ get_or us i [] = get_or_append_left us vs [] i less in
            elim (front.each i less) [
              | inl same ↦ inl (new ∙ same ∙ sym old)
              | inr freed ↦ inr (new ∙ freed.0, subst (IsOfBin (asked_behind i asked)) (sym old) freed.1)
            ]
        | inr more ↦
            inl (get_or-append_right us' vs (length us) i [] front.wide (omega (arith, more)) ∙ sym (get_or-append_right us vs (length us) i [] refl more))
      ];
}

-- nothing was done
pub all_left : (asked : Option AskedBin) (bodies : List (List ℕ)) → AreLeft asked bodies bodies
all_left asked bodies = record { wide = refl; each = λ i inside. inl refl }

-- all were counted, and their records were freed
pub none_left : (asked : Option AskedBin) (bodies : List (List ℕ)) → AreOfBins asked bodies → AreLeft asked bodies (replicate (length bodies) [])
none_left asked bodies of = record {
  wide = length-replicate (length bodies) [];
  each = λ i inside. inr (get_or-replicate (length bodies) i [] [] inside, of i inside);
}
