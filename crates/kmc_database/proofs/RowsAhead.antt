-- The rows of a database that are to come.
use Rattle.std.proofs.Common.{◌≡◌, ℕ, suc, ◌+◌, ◌-◌, ◌^◌, ◌<◌, ◌≤◌, cond, Bool, true, false, nat_lt, List, [], ◌∷◌, ◌++◌, length, refl, sym, ap, ◌∙◌, arith}
use Rattle.std.proofs.lemmas.Bool.{lt-ltb, ltb-false}
use Rattle.std.proofs.lemmas.Bool.Decides.{nat_tests}
use Rattle.std.proofs.lemmas.List.Sums.{sum_by-cons}
use Rattle.std.specs.List.{AllByRecursion, flat_map, range_with_len}
use Rattle.std.specs.Ordering.{nat_cmp}
use Rattle.std.specs.declared.cmp.Ordering.TheVariants.{Less}
use Rattle.kmc_base.specs.Lemmas.Keys.{IsWord}
use Rattle.kmc_base.specs.Packed.{pack}
use Rattle.kmc_base.specs.Words.{kmer_cmp}
use Rattle.kmc_count.specs.Dump.{words_of}
use Rattle.kmc_count.specs.Lemmas.PackedRuns.{cmp_packed}
use Rattle.kmc_sum.specs.Listed.{IsPair}
use Rattle.kmc_database.specs.Layout.{IsLayout}
use Rattle.kmc_database.specs.Numbers.{low_first}
use Rattle.kmc_database.specs.Rows.{AreBelow, first_part, number_below}
use Rattle.kmc_database.specs.declared.layout.Layout.{Layout}
use Rattle.kmc_database.specs.Lemmas.Ranges.{spread_moved}
use Rattle.kmc_database.proofs.ReadBack.{again, AreWordsFrom, fits_at, one, part_small}

abbrev pub Pairs : Type 0
Pairs = List (List ℕ × ℕ)

module _ (l : Layout) (is : IsLayout l) where
  -- no more of the rows are below a first part than there are
  pub most_below : (back : Pairs) (n : ℕ) → number_below l back n ≤ length back
  most_below [] n = omega arith
  most_below (q ∷ back) n = go (nat_lt (first_part l q.0) n) refl (most_below back n)
    where
      go : (b : Bool) → nat_lt (first_part l q.0) n ≡ b → number_below l back n ≤ length back → number_below l (q ∷ back) n ≤ length (q ∷ back)
      go true e rest =
          let own : one l is n q ≡ 1 = ap (λ b. cond b 1 0) e in
          omega (arith, own, sum_by-cons (one l is n) q back, rest)
      go false e rest =
          let own : one l is n q ≡ 0 = ap (λ b. cond b 1 0) e in
          omega (arith, own, sum_by-cons (one l is n) q back, rest)

  -- where none of the rows is below a first part
  pub from_none : (back : Pairs) (n : ℕ) → number_below l back n ≡ 0 → AreWordsFrom l is n back
  from_none [] n none = tt
  from_none (q ∷ back) n none = go (nat_lt (first_part l q.0) n) refl (from_none back n)
    where
      go : (b : Bool) → nat_lt (first_part l q.0) n ≡ b → (number_below l back n ≡ 0 → AreWordsFrom l is n back) → AreWordsFrom l is n (q ∷ back)
      go true e later =
          let own : one l is n q ≡ 1 = ap (λ b. cond b 1 0) e in
          absurd (omega (arith, own, sum_by-cons (one l is n) q back, none))
      go false e later =
          let own : one l is n q ≡ 0 = ap (λ b. cond b 1 0) e in
          (ltb-false (first_part l q.0) n e, later (omega (arith, own, sum_by-cons (one l is n) q back, none)))

  pub from_zero : (back : Pairs) → AreWordsFrom l is 0 back
  from_zero [] = tt
  from_zero (q ∷ back) = (omega arith, from_zero back)

  pub all_below : (back : Pairs) → AllByRecursion (IsPair l.k) back → AreBelow l (4 ^ l.prefix) back
  all_below [] each = tt
  all_below (q ∷ back) each = (part_small l is q.0 each.0.word, all_below back each.1)

  -- a row that is below a first part
  pub one_more : (q : List ℕ × ℕ) (back : Pairs) (n : ℕ) → first_part l q.0 < n → number_below l (q ∷ back) n ≡ number_below l back n + 1
  one_more q back n low =
      let own : one l is n q ≡ 1 = ap (λ b. cond b 1 0) (lt-ltb (first_part l q.0) n low) in
      sum_by-cons (one l is n) q back ∙ omega (arith, own)

  pub packed_up : (w v : List ℕ) → IsWord l.k w → IsWord l.k v → kmer_cmp w v ≡ Less → pack w < pack v
  packed_up w v hw hv less =
      let order : nat_cmp (pack w) (pack v) ≡ Less =
      sym (cmp_packed l.k (pack w) (pack v) (fits_at l is w hw) (fits_at l is v hv)) ∙ (λ i. kmer_cmp (again l is w hw i) (again l is v hv i)) ∙ less in
      grind (arith, nat_tests)

  pub above_first : (q : List ℕ × ℕ) (back : Pairs) → IsWord l.k q.0 → AllByRecursion (IsPair l.k) back
      → AllByRecursion (λ w. kmer_cmp q.0 w ≡ Less) (words_of back) → AllByRecursion (λ p. pack q.0 < pack p.0) back
  above_first q [] word each up = tt
  above_first q (p ∷ back) word each up = (packed_up q.0 p.0 word each.0.word up.0, above_first q back word each.1 up.1)

  -- the entries that are to come, behind so many rows
  abbrev pub entries_after : ℕ → Pairs → ℕ → List ℕ
  entries_after row back t = flat_map (λ i. low_first 8 (row + number_below l back i)) (range_with_len t (4 ^ l.prefix - t))

  pub entries_cons : (row : ℕ) (back : Pairs) (t : ℕ) → t < 4 ^ l.prefix
      → entries_after row back t ≡ low_first 8 (row + number_below l back t) ++ entries_after row back (t + 1)
  entries_cons row back t more =
      let rest : 4 ^ l.prefix - t ≡ suc (4 ^ l.prefix - (t + 1)) = omega (arith, more) in
      ap (λ n. flat_map (λ i. low_first 8 (row + number_below l back i)) (range_with_len t n)) rest

  pub entries_done : (row : ℕ) (back : Pairs) (t : ℕ) → 4 ^ l.prefix ≤ t → entries_after row back t ≡ []
  entries_done row back t all =
      let none : 4 ^ l.prefix - t ≡ 0 = omega (arith, all) in
      ap (λ n. flat_map (λ i. low_first 8 (row + number_below l back i)) (range_with_len t n)) none

  pub entries_behind : (row : ℕ) (q : List ℕ × ℕ) (back : Pairs) (t : ℕ) → first_part l q.0 < t
      → entries_after row (q ∷ back) t ≡ entries_after (row + 1) back t
  entries_behind row q back t low =
      spread_moved (λ i. low_first 8 (row + number_below l (q ∷ back) i)) (λ i. low_first 8 (row + 1 + number_below l back i)) (4 ^ l.prefix - t) t t
      (λ j inside.
      let e : row + number_below l (q ∷ back) (t + j) ≡ row + 1 + number_below l back (t + j) =
      omega (arith, one_more q back (t + j) (omega (arith, low))) in
      ap (low_first 8) e)
