-- Ranges of slots, closed one after the other.
use Rattle.std.proofs.Common.{◌≡◌, ℕ, ◌+◌, ◌-◌, ◌<◌, ◌≤◌, Bool, true, false, cond, nat_lt, List, [], ◌∷◌, ◌++◌, length, get_or, refl, sym, ap, ◌∙◌, arith}
use Rattle.std.specs.Ordering.{nat_cmp, ord_max, is_lt}
use Rattle.std.proofs.lemmas.Bool.Decides.{nat_tests}
use Rattle.std.proofs.lemmas.List.{length-append, get_or_append_left, get_or-append-add}
use Rattle.kmc_lists.specs.Listed.{Listed}
use Rattle.kmc_lists.specs.Ordered.{is_within, within, joined, packs}
use Rattle.kmc_dump.specs.Ranges.{count_within, AreBounds, ArePartedTo}

pub more : (w from to : ℕ) (p : ℕ × ℕ) (ps : List (ℕ × ℕ)) → length (within w from to (p ∷ ps))
    ≡ cond (is_within w from to p) 1 0 + length (within w from to ps)
more w from to p ps = go (is_within w from to p)
  where
    go : (t : Bool) → length (cond t (p ∷ within w from to ps) (within w from to ps)) ≡ cond t 1 0 + length (within w from to ps)
    go true = omega arith
    go false = omega arith

-- one range behind the other has as many pairs as both
module _ (w a b c : ℕ) (low : a ≤ b) (high : b ≤ c) where
  pub both : (ps : List (ℕ × ℕ)) → length (within w a b ps) + length (within w b c ps) ≡ length (within w a c ps)
  both [] = omega arith
  both (p ∷ ps) =
      let one : cond (is_within w a b p) 1 0 + cond (is_within w b c p) 1 0 ≡ cond (is_within w a c p) 1 0 = grind (arith, nat_tests) in
      omega (arith, more w a b p ps, more w b c p ps, more w a c p ps, one, both ps)

pub max_above : (a b : ℕ) → (a ≤ ord_max nat_cmp a b) × (b ≤ ord_max nat_cmp a b)
max_above a b = go (is_lt (nat_cmp b a)) refl
  where
    go : (x : Bool) → is_lt (nat_cmp b a) ≡ x → (a ≤ cond x a b) × (b ≤ cond x a b)
    go true e = let less : b < a = grind (arith, nat_tests) in (omega arith, omega (arith, less))
    go false e = let less : a ≤ b = grind (arith, nat_tests) in (omega (arith, less), omega arith)

none : (w a : ℕ) (ps : List (ℕ × ℕ)) → length (within w a a ps) ≡ 0
none w a [] = refl
none w a (p ∷ ps) =
    let no : is_within w a a p ≡ false = grind (arith, nat_tests) in
    ap (λ t. length (cond t (p ∷ within w a a ps) (within w a a ps))) no ∙ none w a ps

pub no_range : (w : ℕ) (lists : List Listed) → ArePartedTo w 0 (0 ∷ []) 0 0 lists
no_range w lists = record {
  some = omega arith;
  first = refl;
  low = omega arith;
  are = λ i inside. absurd (omega (arith, inside));
  held = sym (none w 0 (joined (packs lists)));
}

-- the slots up to another more
pub range_more : (w widest : ℕ) (bounds : List ℕ) (to pending : ℕ) (lists : List Listed) (size next all : ℕ) → ArePartedTo w widest bounds to pending lists
    → to ≤ next → size ≡ count_within w to next lists → all ≡ pending + size → ArePartedTo w widest bounds next all lists
range_more w widest bounds to pending lists size next all h up is sum =
    let last = get_or bounds (length bounds - 1) 0 in
    let more = both w last to next h.low up (joined (packs lists)) in
    record {
      some = h.some;
      first = h.first;
      low = omega (arith, h.low, up);
      are = h.are;
      held = omega (arith, h.held, is, sum, more);
    }

-- the last of the bounds
module _ (bounds : List ℕ) (to : ℕ) where
  one_more : length (bounds ++ to ∷ []) ≡ length bounds + 1
  one_more = length-append bounds (to ∷ [])

  behind_all : get_or (bounds ++ to ∷ []) (length bounds) 0 ≡ to
  behind_all = let e : length bounds ≡ length bounds + 0 = omega arith in ap (λ n. get_or (bounds ++ to ∷ []) n 0) e ∙ get_or-append-add bounds (to ∷ []) 0 0

  pub last_bound : get_or (bounds ++ to ∷ []) (length (bounds ++ to ∷ []) - 1) 0 ≡ to
  last_bound =
      let e : length (bounds ++ to ∷ []) - 1 ≡ length bounds = omega (arith, one_more) in
      ap (λ n. get_or (bounds ++ to ∷ []) n 0) e ∙ behind_all

-- a range is closed
module _ (w widest : ℕ) (bounds : List ℕ) (to pending wider : ℕ) (lists : List Listed) (h : ArePartedTo w widest bounds to pending lists)
    (less : widest ≤ wider) (fits : pending ≤ wider) where
  abbrev bs : List ℕ
  bs = bounds ++ to ∷ []

  abbrev IsRange : ℕ → ℕ → Type 0
  IsRange a b = (a ≤ b) × (count_within w a b lists ≤ wider)

  are : AreBounds w wider bs lists
  are i inside = go (nat_lt (i + 1) (length bounds)) refl
    where
      go : (x : Bool) → nat_lt (i + 1) (length bounds) ≡ x → IsRange (get_or bs i 0) (get_or bs (i + 1) 0)
      go true e =
          let before : i + 1 < length bounds = grind (arith, nat_tests) in
          let a : get_or bs i 0 ≡ get_or bounds i 0 = get_or_append_left bounds (to ∷ []) 0 i (omega (arith, before)) in
          let b : get_or bs (i + 1) 0 ≡ get_or bounds (i + 1) 0 = get_or_append_left bounds (to ∷ []) 0 (i + 1) before in
          let old = h.are i before in
          let same : count_within w (get_or bs i 0) (get_or bs (i + 1) 0) lists ≡ count_within w (get_or bounds i 0)
          (get_or bounds (i + 1) 0) lists = (λ j. count_within w (a j) (b j) lists) in
          (omega (arith, a, b, old.0), omega (arith, same, old.1, less))
      go false e =
          let high : length bounds ≤ i + 1 = grind (arith, nat_tests) in
          let next : i + 1 ≡ length bounds = omega (arith, high, inside, one_more bounds to) in
          let place : i ≡ length bounds - 1 = omega (arith, next) in
          let a : get_or bs i 0 ≡ get_or bounds (length bounds - 1) 0 = get_or_append_left bounds (to ∷ []) 0 i (omega (arith, next)) ∙ ap
          (λ n. get_or bounds n 0) place in
          let b : get_or bs (i + 1) 0 ≡ to = ap (λ n. get_or bs n 0) next ∙ behind_all bounds to in
          let same : count_within w (get_or bs i 0) (get_or bs (i + 1) 0) lists ≡ count_within w (get_or bounds (length bounds - 1) 0) to lists =
          (λ j. count_within w (a j) (b j) lists) in
          (omega (arith, a, b, h.low), omega (arith, same, h.held, fits))

  pub closed : ArePartedTo w wider bs to 0 lists
  closed = record {
    some = omega (arith, one_more bounds to);
    first = get_or_append_left bounds (to ∷ []) 0 0 (omega (arith, h.some)) ∙ h.first;
    low = omega (arith, last_bound bounds to);
    are = are;
    held = sym (ap (λ n. count_within w n to lists) (last_bound bounds to) ∙ none w to (joined (packs lists)));
  }
