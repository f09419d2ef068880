-- The entries of a table while words come.
use Rattle.std.proofs.Common.{◌≡◌, ℕ, ◌+◌, ◌-◌, ◌<◌, ◌≤◌, cond, nat_lt, List, [], ◌∷◌, ◌++◌, length, refl, sym, ap, ◌∙◌, arith, append-nil}
use Rattle.std.proofs.lemmas.Bool.{le-ltb, lt-ltb}
use Rattle.std.proofs.lemmas.List.Sums.{sum_by-append, sum_by-cons}
use Rattle.std.specs.List.{flat_map, range_with_len}
use Rattle.kmc_database.specs.Numbers.{low_first}
use Rattle.kmc_database.specs.Rows.{AreBelow, entries, first_part, number_below, repeated}
use Rattle.kmc_database.specs.declared.layout.Layout.{Layout}
use Rattle.kmc_database.specs.Lemmas.Ranges.{spread_join, spread_moved}

module _ (l : Layout) where
  abbrev one : ℕ → List ℕ × ℕ → ℕ
  one i p = cond (nat_lt (first_part l p.0) i) 1 0

  pub below_more : (n m : ℕ) (pairs : List (List ℕ × ℕ)) (p : List ℕ × ℕ) → AreBelow l n pairs → n ≤ m → first_part l p.0 < m
      → AreBelow l m (pairs ++ p ∷ [])
  below_more n m [] p h up own = (own, tt)
  below_more n m (q ∷ pairs) p h up own = (omega (arith, h.0), below_more n m pairs p h.1 up own)

  pub number_all : (pairs : List (List ℕ × ℕ)) (n i : ℕ) → AreBelow l n pairs → n ≤ i → number_below l pairs i ≡ length pairs
  number_all [] n i h up = refl
  number_all (p ∷ pairs) n i h up =
      let own : one i p ≡ 1 = ap (λ b. cond b 1 0) (lt-ltb (first_part l p.0) i (omega (arith, h.0))) in
      sum_by-cons (one i) p pairs ∙ omega (arith, own, number_all pairs n i h.1 up)

  pub number_push : (pairs : List (List ℕ × ℕ)) (p : List ℕ × ℕ) (i : ℕ) → i ≤ first_part l p.0 → number_below l (pairs ++ p ∷ []) i
      ≡ number_below l pairs i
  number_push pairs p i low =
      let own : one i p ≡ 0 = ap (λ b. cond b 1 0) (le-ltb (first_part l p.0) i low) in
      sum_by-append (one i) pairs (p ∷ []) ∙ omega (arith, sum_by-cons (one i) p [], own)

  -- a word more changes no entry up to its first part
  pub entries_push : (pairs : List (List ℕ × ℕ)) (p : List ℕ × ℕ) (n : ℕ) → n ≤ first_part l p.0 + 1 → entries l (pairs ++ p ∷ []) n ≡ entries l pairs n
  entries_push pairs p n low =
      spread_moved (λ i. low_first 8 (number_below l (pairs ++ p ∷ []) i)) (λ i. low_first 8 (number_below l pairs i)) n 0 0
      (λ j less. ap (low_first 8) (number_push pairs p (0 + j) (omega (arith, less, low))))

  -- entries behind the first part of each word are the number of words
  pub entries_more : (pairs : List (List ℕ × ℕ)) (n m rows : ℕ) → AreBelow l n pairs → n ≤ m → rows ≡ length pairs
      → entries l pairs n ++ repeated (m - n) rows ≡ entries l pairs m
  entries_more pairs n m rows below up many =
      let parts : n + (m - n) ≡ m = omega arith in
      let f = λ (i : ℕ). low_first 8 (number_below l pairs i) in
      let more : flat_map f (range_with_len (0 + n) (m - n)) ≡ repeated (m - n) rows =
      spread_moved f (λ _. low_first 8 rows) (m - n) (0 + n) 0
      (λ j less. ap (low_first 8) (number_all pairs n (0 + n + j) below (omega arith) ∙ sym many)) in
      ap (λ (t : List ℕ). entries l pairs n ++ t) (sym more) ∙ sym (spread_join f 0 n (m - n)) ∙ ap (entries l pairs) parts

  -- the entries so far are a front of the table
  pub entries_front : (pairs : List (List ℕ × ℕ)) (n m : ℕ) → n ≤ m → entries l pairs m
      ≡ entries l pairs n ++ flat_map (λ i. low_first 8 (number_below l pairs i)) (range_with_len (0 + n) (m - n))
  entries_front pairs n m up =
      let parts : n + (m - n) ≡ m = omega arith in
      ap (entries l pairs) (sym parts) ∙ spread_join (λ i. low_first 8 (number_below l pairs i)) 0 n (m - n)

-- so many entries and then more of them
pub repeated_join : (n m rows : ℕ) → repeated (n + m) rows ≡ repeated n rows ++ repeated m rows
repeated_join n m rows =
    let f : ℕ → List ℕ = λ _. low_first 8 rows in
    spread_join f 0 n m ∙ ap (λ (t : List ℕ). repeated n rows ++ t) (spread_moved f f m (0 + n) 0 (λ j less. refl))

pub repeated_more : (n rows : ℕ) → repeated (n + 1) rows ≡ repeated n rows ++ low_first 8 rows
repeated_more n rows = repeated_join n 1 rows ∙ ap (λ (t : List ℕ). repeated n rows ++ t) (append-nil (low_first 8 rows))
