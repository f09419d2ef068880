-- The signature of a word as the least candidate of its m-mers.
use Rattle.std.proofs.Common.{◌≡◌, ℕ, suc, zero, ◌+◌, ◌-◌, ◌*◌, ◌^◌, ◌<◌, ◌≤◌, ◌⊎◌, inl, inr, Bool, true, false, cond, nat_eq, slice_index, List, [], ◌∷◌, length, drop, take, map, min, refl, sym, ap, subst, ◌∙◌, arith, add-zero, le_refl}
use Rattle.std.specs.List.{filter, range_with_len}
use Rattle.std.proofs.lemmas.List.{drop-drop}
use Rattle.std.proofs.lemmas.Bool.Decides.{nat_tests}
use Rattle.std.proofs.Math.Nat.{pow-succ'}
use Rattle.kmc_base.specs.Words.{rev_comp, canonical, window, windows}
use Rattle.kmc_base.specs.Packed.{pack, unpack}
use Rattle.kmc_base.specs.Lemmas.Packing.{pack_of_unpack, pack_after_append}
use Rattle.kmc_base.specs.Lemmas.Packs.{AreCodes, pack_after_is, pack_fits, pack_canonical, rev_comp_cons, length_rev_comp, codes_rev_comp}
use Rattle.kmc_base.specs.Lemmas.Rolling.{codes_part}
use Rattle.kmc_base.specs.Lemmas.Powers.{pow_some}
use Rattle.kmc_split.specs.declared.runs.Run.{Run}
use Rattle.kmc_split.specs.Cut.{AreRuns, IsCut}
use Rattle.kmc_split.specs.Signature.{is_allowed, least, signature_of}
use Rattle.kmc_split.specs.Candidates.{value_or, candidate, packed_candidate, AreCandidates, unmarked}
use Rattle.kmc_split.specs.Minima.{low}
use Rattle.kmc_base.specs.Lemmas.Windows.{length_window}
use Rattle.kmc_split.specs.Lemmas.Lowest.{low_shift}

least_le : (most : ℕ) (xs : List ℕ) → least most xs ≤ most
least_le most [] = le_refl most
least_le most (x ∷ xs) = omega (arith, least_le most xs)

pub signature_fits : (m : ℕ) (w : List ℕ) → signature_of m w ≤ 4 ^ m
signature_fits m w = least_le (4 ^ m) (map pack (filter is_allowed (map canonical (windows m w))))

-- the least value of the allowed canonical forms of the m-mers of a word, and `most` where there is none
abbrev pub least_form : ℕ → ℕ → List ℕ → ℕ
least_form most m w = least most (map pack (filter is_allowed (map canonical (windows m w))))

least_one : (most : ℕ) (v : List ℕ) (vs : List (List ℕ))
    → least most (map pack (filter is_allowed (v ∷ vs))) ≡ min (min most (value_or most v)) (least most (map pack (filter is_allowed vs)))
least_one most v vs = go (is_allowed v)
  where
    go : (b : Bool) → least most (map pack (cond b (v ∷ filter is_allowed vs) (filter is_allowed vs))) ≡ min (min most (cond b (pack v) most))
        (least most (map pack (filter is_allowed vs)))
    go true = omega (arith, least_le most (map pack (filter is_allowed vs)))
    go false = omega (arith, least_le most (map pack (filter is_allowed vs)))

module _ (most : ℕ) (f : ℕ → List ℕ) (at : ℕ → ℕ) where
  -- n + 1 words from place a on, whose candidates stand from place i on
  least_is : (n a i : ℕ) → ((j : ℕ) → j ≤ n → at (i + j) ≡ min most (value_or most (canonical (f (a + j)))))
      → least most (map pack (filter is_allowed (map canonical (map f (range_with_len a (suc n)))))) ≡ low at (suc n) i
  least_is zero a i each =
      let here : at i ≡ min most (value_or most (canonical (f a))) = ap at (sym (add-zero i)) ∙ each 0 (omega arith) ∙ ap
      (λ (j : ℕ). min most (value_or most (canonical (f j)))) (add-zero a) in
      least_one most (canonical (f a)) [] ∙ omega (arith, here)
  least_is (suc n) a i each =
      let here : at i ≡ min most (value_or most (canonical (f a))) = ap at (sym (add-zero i)) ∙ each 0 (omega arith) ∙ ap
      (λ (j : ℕ). min most (value_or most (canonical (f j)))) (add-zero a) in
      let rest = least_is n (a + 1) (i + 1)
      (λ j h. let e : i + 1 + j ≡ i + (j + 1) = omega arith in let d : a + (j + 1) ≡ a + 1 + j = omega arith in ap at e ∙ each (j + 1) (omega arith)
      ∙ ap (λ (x : ℕ). min most (value_or most (canonical (f x)))) d) in
      least_one most (canonical (f a)) (map canonical (map f (range_with_len (a + 1) (suc n))))
      ∙ (λ t. min (sym here t) (rest t))

-- ---- windows of windows

take_take : (m k : ℕ) (xs : List ℕ) → m ≤ k → take m (take k xs) ≡ take m xs
take_take zero k xs h = refl
take_take (suc m) zero xs h = absurd (omega arith)
take_take (suc m) (suc k) [] h = refl
take_take (suc m) (suc k) (x ∷ xs) h = ap (λ (t : List ℕ). x ∷ t) (take_take m k xs (omega arith))

window_take : (m k j : ℕ) (xs : List ℕ) → j + m ≤ k → take m (drop j (take k xs)) ≡ take m (drop j xs)
window_take m k zero xs h = take_take m k xs (omega arith)
window_take m zero (suc j) xs h = absurd (omega arith)
window_take m (suc k) (suc j) [] h = refl
window_take m (suc k) (suc j) (x ∷ xs) h = window_take m k j xs (omega arith)

pub window_window : (m k i j : ℕ) (xs : List ℕ) → j + m ≤ k → window m (window k xs i) j ≡ window m xs (i + j)
window_window m k i j xs h = window_take m k j (drop i xs) h ∙ ap (take m) (drop-drop j i xs)

-- ---- the signature of a word

-- the candidate of a packed canonical form is the word's
pub packed_candidate_is : (m x : ℕ) (v : List ℕ) → x < 4 ^ m → unpack m x ≡ canonical v → packed_candidate m x ≡ candidate m v
packed_candidate_is m x v fits is =
    let number : x ≡ pack (canonical v) = sym (pack_of_unpack m x fits) ∙ ap pack is in
    (λ i. cond (is_allowed (is i)) (number i) (4 ^ m - 1))

-- of a whole word, whose m-mers have the values that stand at their places, capped
pub least_form_is : (most m n : ℕ) (w : List ℕ) (at : ℕ → ℕ) → length w ≡ m + n
    → ((j : ℕ) → j ≤ n → at j ≡ min most (value_or most (canonical (window m w j))))
    → low at (suc n) 0 ≡ least_form most m w
least_form_is most m n w at long each =
    let count : length w + 1 - m ≡ suc n = omega arith in
    sym (ap (λ (c : ℕ). least most (map pack (filter is_allowed (map canonical (map (window m w) (range_with_len 0 c)))))) count
    ∙ least_is most (window m w) at n 0 0
    (λ j h. let e : 0 + j ≡ j = omega arith in ap at e ∙ each j h ∙ ap (λ (x : ℕ). min most (value_or most (canonical (window m w x)))) (sym e)))

below_last : {a b : ℕ} → a < b → a ≤ b - 1
below_last h = omega arith

min_is : (a b c : ℕ) → a ≡ c → a ≤ b → a ≡ min b c
min_is a b c e h = omega arith

-- ---- the mark is the value of no canonical form

below4 : (x : ℕ) → x < 4 → (x ≡ 0) ⊎ ((x ≡ 1) ⊎ ((x ≡ 2) ⊎ (x ≡ 3)))
below4 x h = grind arith

pub form_below : (m : ℕ) (v : List ℕ) → 1 ≤ m → length v ≡ m → AreCodes v → pack (canonical v) < 4 ^ m - 1
form_below m [] some long h = absurd (omega arith)
form_below m (x ∷ t) some long h =
    let q = 4 ^ length t in
    let all : 4 ^ m ≡ q * 4 = ap (λ (n : ℕ). 4 ^ n) (sym long) ∙ omega (arith, pow-succ' 4 (length t)) in
    let one : 1 ≤ q = pow_some (length t) in
    let ahead : pack (x ∷ t) ≡ (0 * 4 + x) * q + pack t = pack_after_is (0 * 4 + x) t in
    let rest : pack t < q = pack_fits t h.1 in
    let back : pack (rev_comp (x ∷ t)) ≡ pack (rev_comp t) * 4 + (3 - x) = ap pack (rev_comp_cons x t) ∙ pack_after_append 0 (rev_comp t) (3 - x) in
    let rest_back : pack (rev_comp t) < q = rw (length_rev_comp t) at (pack_fits (rev_comp t) (codes_rev_comp t)) in
    let lesser : pack (canonical (x ∷ t)) ≡ min (pack (x ∷ t)) (pack (rev_comp (x ∷ t))) = pack_canonical (x ∷ t) h in
    elim (below4 x h.0) [
      | inl e ↦ let f : (0 * 4 + x) * q ≡ 0 = ap (λ (y : ℕ). (0 * 4 + y) * q) e ∙ omega arith in omega arith
      | inr (inl e) ↦ let f : (0 * 4 + x) * q ≡ q = ap (λ (y : ℕ). (0 * 4 + y) * q) e ∙ omega arith in omega arith
      | inr (inr (inl e)) ↦ let f : (0 * 4 + x) * q ≡ 2 * q = ap (λ (y : ℕ). (0 * 4 + y) * q) e ∙ omega arith in omega arith
      | inr (inr (inr e)) ↦ omega arith
    ]

less_or_same : (l a : ℕ) → l ≤ a → (l < a) ⊎ (l ≡ a)
less_or_same l a h = grind arith

unmark_less : (a top x : ℕ) → x < a → cond (nat_eq x a) top x ≡ x
unmark_less a top x h = grind (arith, nat_tests)

unmark_same : (a top x : ℕ) → x ≡ a → cond (nat_eq x a) top x ≡ top
unmark_same a top x h = grind (arith, nat_tests)

unmark_min : (a top p l r : ℕ) → p < a → a < top → l ≤ a → cond (nat_eq l a) top l ≡ r → cond (nat_eq (min p l) a) top (min p l) ≡ min p r
unmark_min a top p l r small below most e =
    let least : min p l < a = omega arith in
    elim (less_or_same l a most) [
      | inl h ↦ let f : r ≡ l = sym e ∙ unmark_less a top l h in unmark_less a top (min p l) least ∙ ap (min p) (sym f)
      | inr h ↦ let f : r ≡ top = sym e ∙ unmark_same a top l h in unmark_less a top (min p l) least ∙ omega arith
    ]

module _ (a top : ℕ) (below : a < top) (f : ℕ → List ℕ) where
  unmark_least : (n b : ℕ) → ((j : ℕ) → j < n → pack (canonical (f (b + j))) < a)
      → cond (nat_eq (least a (map pack (filter is_allowed (map canonical (map f (range_with_len b n)))))) a) top
      (least a (map pack (filter is_allowed (map canonical (map f (range_with_len b n))))))
      ≡ least top (map pack (filter is_allowed (map canonical (map f (range_with_len b n)))))
  unmark_least zero b each = unmark_same a top a refl
  unmark_least (suc n) b each =
      let here : pack (canonical (f b)) < a = subst (λ (j : ℕ). pack (canonical (f j)) < a) (add-zero b) (each 0 (omega arith)) in
      let vs = map canonical (map f (range_with_len (b + 1) n)) in
      let rest = unmark_least n (b + 1)
      (λ j h. let e : b + (j + 1) ≡ b + 1 + j = omega arith in subst (λ (i : ℕ). pack (canonical (f i)) < a) e (each (j + 1) (omega arith))) in
      go (canonical (f b)) vs here rest (is_allowed (canonical (f b)))
    where
      go : (v : List ℕ) (vs : List (List ℕ)) → pack v < a
          → cond (nat_eq (least a (map pack (filter is_allowed vs))) a) top (least a (map pack (filter is_allowed vs)))
          ≡ least top (map pack (filter is_allowed vs))
          → (c : Bool) → cond (nat_eq (least a (map pack (cond c (v ∷ filter is_allowed vs) (filter is_allowed vs)))) a) top
          (least a (map pack (cond c (v ∷ filter is_allowed vs) (filter is_allowed vs))))
          ≡ least top (map pack (cond c (v ∷ filter is_allowed vs) (filter is_allowed vs)))
      go v vs small rest true =
          unmark_min a top (pack v) (least a (map pack (filter is_allowed vs))) _ small below (least_le a (map pack (filter is_allowed vs))) rest
      go v vs small rest false = rest

pub unmarked_is : (m : ℕ) (w : List ℕ) → 1 ≤ m → m ≤ length w → AreCodes w → unmarked m (least_form (4 ^ m - 1) m w) ≡ signature_of m w
unmarked_is m w some within h =
    let below : 4 ^ m - 1 < 4 ^ m = let p = pow_some m in omega arith in
    unmark_least (4 ^ m - 1) (4 ^ m) below (window m w) (length w + 1 - m) 0
    (λ j inside. form_below m (window m w (0 + j)) some (length_window m (0 + j) w (omega arith)) (codes_part m (0 + j) w h))

-- ---- from the candidates of the m-mers

-- of a whole word
pub signature_low : (m n : ℕ) (w : List ℕ) (at : ℕ → ℕ) → 1 ≤ m → length w ≡ m + n → AreCodes w
    → ((j : ℕ) → j ≤ n → at j ≡ candidate m (window m w j)) → ((j : ℕ) → j ≤ n → at j < 4 ^ m)
    → unmarked m (low at (suc n) 0) ≡ signature_of m w
signature_low m n w at some long h is fit =
    ap (unmarked m) (least_form_is (4 ^ m - 1) m n w at long
    (λ j inside. min_is (at j) (4 ^ m - 1) (candidate m (window m w j)) (is j inside) (below_last (fit j inside))))
    ∙ unmarked_is m w some (omega arith) h

-- of the word at place i, by the candidates of the whole list
pub signature_at : (m n k i : ℕ) (xs : List ℕ) (at : ℕ → ℕ) → 1 ≤ m → m + n ≡ k → i + k ≤ length xs → AreCodes xs
    → ((j : ℕ) → j + m ≤ length xs → at j ≡ candidate m (window m xs j)) → ((j : ℕ) → j + m ≤ length xs → at j < 4 ^ m)
    → unmarked m (low at (suc n) i) ≡ signature_of m (window k xs i)
signature_at m n k i xs at some whole inside h is fit =
    ap (unmarked m) (low_shift at (λ (j : ℕ). at (i + j)) n i 0 (λ d h. let e : i + d ≡ i + (0 + d) = omega arith in ap at e))
    ∙ signature_low m n (window k xs i) (λ (j : ℕ). at (i + j)) some (omega (arith, length_window k i xs inside)) (codes_part k i xs h)
    (λ j less. is (i + j) (omega arith) ∙ sym (ap (candidate m) (window_window m k i j xs (omega arith))))
    (λ j less. fit (i + j) (omega arith))

-- m-mers of no symbols
pub no_symbols : (w : List ℕ) → signature_of 0 w ≡ 0
no_symbols w =
    let count : length w + 1 - 0 ≡ suc (length w) = omega arith in
    ap (λ (c : ℕ). least (4 ^ 0) (map pack (filter is_allowed (map canonical (map (window 0 w) (range_with_len 0 c)))))) count ∙ omega arith

-- ---- runs for signatures that agree up to the end

pub starts_within : (at : ℕ → ℕ) (end p : ℕ) (rs : List Run) → AreRuns at p end rs → p ≤ end
starts_within at end p [] h = omega arith
starts_within at end p (r ∷ rs) h = omega (arith, starts_within at end (p + r.words) rs h.3)

module _ (at bt : ℕ → ℕ) (end : ℕ) (same : (i : ℕ) → i < end → at i ≡ bt i) where
  pub same_runs : (p : ℕ) (rs : List Run) → AreRuns at p end rs → AreRuns bt p end rs
  same_runs p [] h = h
  same_runs p (r ∷ rs) h =
      let inside = starts_within at end (p + r.words) rs h.3 in
      (h.0, record { some = h.1.some; most = h.1.most; one = λ i from to. sym (same i (omega arith)) ∙ h.1.one i from to }, h.2, same_runs (p + r.words) rs h.3)

-- ---- the cut, from candidates, least values and runs

pub cut_is : (m k : ℕ) (codes values lowest : List ℕ) (runs : List Run) → 1 ≤ m → m ≤ k → k ≤ length codes → AreCodes codes
    → AreCandidates m codes values
    → length lowest + k ≡ length codes + 1 → ((i : ℕ) → i < length lowest → slice_index lowest i ≡ low (slice_index values) (k - (m - 1)) i)
    → AreRuns (λ i. unmarked m (slice_index lowest i)) 0 (length lowest) runs → IsCut k m codes runs
cut_is m k codes values lowest runs some within long are_codes are lowest_long least_each h =
    let count : length lowest ≡ length codes + 1 - k = omega arith in
    let width : k - (m - 1) ≡ suc (k - m) = omega arith in
    same_runs (λ i. unmarked m (slice_index lowest i)) (λ i. signature_of m (window k codes i)) (length codes + 1 - k)
    (λ i inside. ap (unmarked m) (least_each i (omega arith) ∙ ap (λ (w : ℕ). low (slice_index values) w i) width)
    ∙ signature_at m (k - m) k i codes (slice_index values) some (omega arith) (omega arith) are_codes are.each are.fit)
    0 runs (subst (λ (n : ℕ). AreRuns (λ i. unmarked m (slice_index lowest i)) 0 n runs) count h)
