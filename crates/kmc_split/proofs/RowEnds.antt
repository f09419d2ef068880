-- Rows of equal values that grow at their end, and the runs that rows are cut into.
use Rattle.std.proofs.Common.{◌≡◌, ◌≢◌, ℕ, ◌+◌, ◌-◌, ◌^◌, ◌<◌, ◌≤◌, cond, nat_eq, List, [], ◌∷◌, ◌++◌, sym, ap, ◌∙◌, arith, ◌⊎◌, inl, inr, length, take, drop, get_or, set, add-one, subst}
use Rattle.std.proofs.Math.Seq.{drop-cons}
use Rattle.std.proofs.lemmas.List.{take-set, take_more_set}
use Rattle.kmc_split.specs.declared.runs.Run.{Run}
use Rattle.kmc_split.specs.Cut.{IsRunAt, AreRuns}
use Rattle.std.proofs.lemmas.Bool.Decides.{nat_tests}
use Rattle.kmc_split.specs.Candidates.{unmarked}
use Rattle.kmc_split.specs.Rows.{IsRow, AreRowEnds, Last, MayFollow}

module _ (at : ℕ → ℕ) where
  -- one place
  row_of_one : (p : ℕ) → IsRow at p (p + 1)
  row_of_one p i from to = let e : i ≡ p = omega arith in ap at e

  -- the last value of a row
  row_end : (p q : ℕ) → p < q → IsRow at p q → at (q - 1) ≡ at p
  row_end p q some row = row (q - 1) (omega arith) (omega arith)

  longer : (p i : ℕ) → p < i → IsRow at p i → at i ≡ at (i - 1) → IsRow at p (i + 1)
  longer p i some row same j from to =
      elim (before_or_here j to) [
        | inl h ↦ row j from h
        | inr e ↦ ap at e ∙ same ∙ row_end p i some row
      ]
    where
      before_or_here : (j : ℕ) → j < i + 1 → (j < i) ⊎ (j ≡ i)
      before_or_here j to = grind arith

  -- one place more with the value of the place before
  pub row_goes_on : (p i : ℕ) (qs : List ℕ) → AreRowEnds at p i qs → at i ≡ at (i - 1) → AreRowEnds at p (i + 1) qs
  row_goes_on p i [] h same = (omega arith, longer p i h.0 h.1 same)
  row_goes_on p i (q ∷ qs) h same = (h.0, h.1, h.2, row_goes_on q i qs h.3 same)

  -- and with another value
  pub row_ends_here : (p i : ℕ) (qs : List ℕ) → AreRowEnds at p i qs → at i ≢ at (i - 1) → AreRowEnds at p (i + 1) (qs ++ i ∷ [])
  row_ends_here p i [] h other = (h.0, h.1, (λ e. other (sym e ∙ sym (row_end p i h.0 h.1))), (omega arith, row_of_one i))
  row_ends_here p i (q ∷ qs) h other = (h.0, h.1, h.2, row_ends_here q i qs h.3 other)

  -- a part of a row is a run
  pub run_of_row : (p q : ℕ) (n : Run) → IsRow at p q → p ≤ n.start → n.start + n.words ≤ q → 1 ≤ n.words → n.words ≤ 256 → n.signature ≡ at p → IsRunAt at n
  run_of_row p q n row from to some most is =
      record { some = some; most = most; one = λ i low high. row i (omega arith) (omega arith) ∙ sym is }

  pub add_run : (p i : ℕ) (rs : List Run) (n : Run) → AreRuns at p i rs → MayFollow n.signature rs → IsRunAt at n → n.start ≡ i → AreRuns at p
      (i + n.words) (rs ++ n ∷ [])
  add_run p i [] n h apart run start = (start ∙ sym h, run, tt, omega arith)
  add_run p i (r ∷ []) n h apart run start = (h.0, h.1, apart, (start ∙ sym h.3, run, tt, omega arith))
  add_run p i (r ∷ s ∷ rs) n h apart run start = (h.0, h.1, h.2, add_run (p + r.words) i (s ∷ rs) n h.3 apart run start)

pub last_is : (P : Run → Type 0) (rs : List Run) (n : Run) → P n → Last P (rs ++ n ∷ [])
last_is P [] n h = h
last_is P (r ∷ []) n h = h
last_is P (r ∷ s ∷ rs) n h = last_is P (s ∷ rs) n h

-- after a run of another signature
pub other_may_follow : (v w : ℕ) (rs : List Run) → v ≢ w → Last (λ r. r.signature ≡ v) rs → MayFollow w rs
other_may_follow v w [] apart h = tt
other_may_follow v w (r ∷ []) apart h = λ e. absurd (apart (sym h ∙ e))
other_may_follow v w (r ∷ s ∷ rs) apart h = other_may_follow v w (s ∷ rs) apart h

module _ (at : ℕ → ℕ) where
  -- the place i is written behind the ends so far, and counted where its value is new
  pub counted : (i count more : ℕ) (ends : List ℕ) → count < length ends → count < i → ((more ≡ 0) × (at i ≡ at (i - 1))) ⊎ ((more ≡ 1) × (at i ≢ at (i - 1)))
      → AreRowEnds at 0 i (take count ends) → (count + more < i + 1) × AreRowEnds at 0 (i + 1) (take (count + more) (set ends count i))
  counted i count more ends inside below cases h =
      elim cases [
        | inl same ↦
            let n : count + more ≡ count = omega (arith, same.0) in
            (omega (arith, same.0), rw (n, take-set ends count i) (row_goes_on at 0 i (take count ends) h same.1))
        | inr other ↦
            let n : count + more ≡ count + 1 = omega (arith, other.0) in
            (omega (arith, other.0), rw (n, take_more_set ends count i inside) (row_ends_here at 0 i (take count ends) h other.1))
      ]

  pub before_end : (p end : ℕ) (qs : List ℕ) → AreRowEnds at p end qs → p < end
  before_end p end [] h = h.0
  before_end p end (q ∷ qs) h = omega (arith, h.0, before_end q end qs h.3)

  -- the next row of those that are left, and the rows behind it
  pub next_row : (p end n : ℕ) (ends : List ℕ) → n < length ends → AreRowEnds at p end (drop n ends)
      → (p < get_or ends n 0) × (get_or ends n 0 ≤ end) × IsRow at p (get_or ends n 0) × (at p ≢ at (get_or ends n 0)) × AreRowEnds at
      (get_or ends n 0) end (drop (n + 1) ends)
  next_row p end n ends inside h =
      let split : drop n ends ≡ get_or ends n 0 ∷ drop (n + 1) ends = rw add-one (drop-cons ends n 0 inside) in
      let rows : AreRowEnds at p end (get_or ends n 0 ∷ drop (n + 1) ends) = subst (AreRowEnds at p end) split h in
      (rows.0, omega (arith, before_end (get_or ends n 0) end (drop (n + 1) ends) rows.3), rows.1, rows.2, rows.3)

one_value : (mark top a b : ℕ) → a < top → b < top → cond (nat_eq a mark) top a ≡ cond (nat_eq b mark) top b → a ≡ b
one_value mark top a b ha hb e = grind (arith, nat_tests)

-- other values are other signatures
pub unmarked_apart : (m a b : ℕ) → a < 4 ^ m → b < 4 ^ m → a ≢ b → unmarked m a ≢ unmarked m b
unmarked_apart m a b ha hb apart e = apart (one_value (4 ^ m - 1) (4 ^ m) a b ha hb e)
