-- What a sound row and a sound entry keep.
use Rattle.std.proofs.Common.{◌≡◌, ℕ, ◌+◌, ◌<◌, ◌≤◌, cond, Bool, true, false, nat_eq, nat_lt, nat_le, Option, Some, None, refl, ap, subst, ◌∙◌, arith}
use Rattle.std.proofs.lemmas.Bool.{eq-eqb, eqb-false, eqb-true, le-ltb, leb-false, lt-leb, lt-ltb, ltb-false, ltb-true}
use Rattle.std.specs.Prelude.{◌&&◌, ◌||◌}
use Rattle.kmc_database.specs.DumpText.{entry_fault, row_fault}
use Rattle.kmc_database.specs.declared.progress.Progress.{Progress}
use Rattle.kmc_database.specs.declared.reading.Header.{Header}
use Rattle.kmc_database.specs.declared.row_reading.Row.{Row}
use Rattle.kmc_database.specs.declared.unpack_error.UnpackError.TheVariants.{Entry, NotRising, ZeroCount}

-- where nothing is at fault the test failed
no_fault : {A : Type 0} (b : Bool) (x : A) (rest : Option A) → cond b (Some x) rest ≡ None → (b ≡ false) × (rest ≡ None)
no_fault true x rest e = absurd (cc)
no_fault false x rest e = (refl, e)

not_either : (a b : Bool) → (a || b) ≡ false → (a ≡ false) × (b ≡ false)
not_either true b e = absurd (cc)
not_either false b e = (refl, e)

not_second : (a b : Bool) → (a && b) ≡ false → a ≡ true → b ≡ false
not_second true b e t = e
not_second false b e t = absurd (cc)

pub sound_row : (at : Progress) (row : Row) → row_fault at row ≡ None → (1 ≤ at.row → at.last < row.packed) × (1 ≤ row.count)
sound_row at row e =
    let rises = no_fault (nat_lt 0 at.row && nat_le row.packed at.last) (NotRising (at.row + 1))
    (cond (nat_eq row.count 0) (Some (ZeroCount (at.row + 1))) None) e in
    let some = no_fault (nat_eq row.count 0) (ZeroCount (at.row + 1)) None rises.1 in
    let differ : row.count ≡ 0 → ⊥ = eqb-false row.count 0 some.0 in (
      λ before.
          leb-false row.packed at.last
          (not_second (nat_lt 0 at.row) (nat_le row.packed at.last) rises.0 (lt-ltb 0 at.row (omega (arith, before)))),
      omega (arith, differ),
    )

pub sound_entry : (h : Header) (at : Progress) (entry : ℕ) → entry_fault h at entry ≡ None
    → (at.row ≤ entry) × (at.entries ≡ 0 → entry ≡ 0) × (1 ≤ at.entries → entry ≤ h.rows)
sound_entry h at entry e =
    let most : ℕ = cond (nat_eq at.entries 0) 0 h.rows in
    let fine = not_either (nat_lt entry at.row) (nat_lt most entry)
    (no_fault (nat_lt entry at.row || nat_lt most entry) (Entry at.entries) None e).0 in
    let below : entry ≤ most = ltb-false most entry fine.1 in (
      ltb-false entry at.row fine.0,
      λ none. let zero : most ≡ 0 = ap (λ b. cond b 0 h.rows) (eq-eqb at.entries 0 none) in omega (arith, below, zero),
      λ some. at_most (nat_eq at.entries 0) refl below some,
    )
  where
    at_most : (b : Bool) → nat_eq at.entries 0 ≡ b → entry ≤ cond (nat_eq at.entries 0) 0 h.rows → 1 ≤ at.entries → entry ≤ h.rows
    at_most true is low some = let none : entry ≤ 0 = subst (λ c. entry ≤ cond c 0 h.rows) is low in omega (arith, none)
    at_most false is low some = subst (λ c. entry ≤ cond c 0 h.rows) is low

-- ---- and where these hold nothing is at fault

pub no_row_fault : (at : Progress) (row : Row) → (1 ≤ at.row → at.last < row.packed) → 1 ≤ row.count → row_fault at row ≡ None
no_row_fault at row above some = go (nat_lt 0 at.row) refl
  where
    counted : cond (nat_eq row.count 0) (Some (ZeroCount (at.row + 1))) None ≡ None
    counted = go (nat_eq row.count 0) refl
      where
        go : (b : Bool) → nat_eq row.count 0 ≡ b → cond b (Some (ZeroCount (at.row + 1))) None ≡ None
        go true e = absurd (omega (arith, some, eqb-true row.count 0 e))
        go false e = refl

    go : (b : Bool) → nat_lt 0 at.row ≡ b
        → cond (b && nat_le row.packed at.last) (Some (NotRising (at.row + 1))) (cond (nat_eq row.count 0) (Some (ZeroCount (at.row + 1))) None) ≡ None
    go true e =
        let up : nat_le row.packed at.last ≡ false = lt-leb row.packed at.last (above (omega (arith, ltb-true 0 at.row e))) in
        ap (λ t. cond t (Some (NotRising (at.row + 1))) (cond (nat_eq row.count 0) (Some (ZeroCount (at.row + 1))) None)) up ∙ counted
    go false e = counted

pub no_entry_fault : (h : Header) (at : Progress) (entry : ℕ) → at.row ≤ entry → (at.entries ≡ 0 → entry ≡ 0) → entry ≤ h.rows → entry_fault h at entry ≡ None
no_entry_fault h at entry least none most = go (nat_eq at.entries 0) refl
  where
    go : (b : Bool) → nat_eq at.entries 0 ≡ b
        → cond (nat_lt entry at.row || nat_lt (cond b 0 h.rows) entry) (Some (Entry at.entries)) None ≡ None
    go true e =
        let nothing : entry ≡ 0 = none (eqb-true at.entries 0 e) in
        (λ i. cond (le-ltb entry at.row least i || le-ltb 0 entry (omega (arith, nothing)) i) (Some (Entry at.entries)) None)
    go false e = (λ i. cond (le-ltb entry at.row least i || le-ltb h.rows entry most i) (Some (Entry at.entries)) None)
