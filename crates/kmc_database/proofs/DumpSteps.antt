-- The steps in which two files are read as a text.
use Rattle.std.proofs.Common.{◌≡◌, ℕ, suc, ◌+◌, ◌-◌, ◌^◌, ◌<◌, ◌≤◌, cond, Bool, true, false, List, [], ◌∷◌, ◌++◌, take, drop, Some, None, refl, ap, ◌∙◌, arith}
use Rattle.std.proofs.lemmas.Bool.{le-ltb, lt-ltb, le-leb, lt-leb}
use Rattle.std.specs.Prelude.{bytes_eq}
use Rattle.kmc_lists.specs.Line.{line_of}
use Rattle.kmc_database.specs.DumpText.{behind_entry, behind_row, Ends, end_step, entry_fault, entry_step, Fails, Goes, is_header, IsWithin, marker_step, row_fault, row_in, row_step, Step, step, steps_left, text_behind, text_from, text_in, unless}
use Rattle.kmc_database.specs.Files.{prefix_marker, suffix_marker}
use Rattle.kmc_database.specs.Numbers.{low_first}
use Rattle.kmc_database.specs.Numerals.{has_at, low_number}
use Rattle.kmc_database.specs.Rows.{row_long, row_of}
use Rattle.kmc_database.specs.TakenRow.{pair_of_row}
use Rattle.kmc_database.specs.declared.progress.Progress.{Progress}
use Rattle.kmc_database.specs.declared.reading.Header.{Header}
use Rattle.kmc_database.specs.declared.row_reading.Row.{Row}
use Rattle.kmc_database.specs.declared.unpack_error.UnpackError.{UnpackError}
use Rattle.kmc_database.specs.declared.unpack_error.UnpackError.TheVariants.{PrefixMarker, SuffixMarker, Cut, SuffixEnd, Changed}

-- a choice that is made
yes : {A : Type 0} (b : Bool) (x y : A) → b ≡ true → cond b x y ≡ x
yes b x y e = ap (λ t. cond t x y) e

no : {A : Type 0} (b : Bool) (x y : A) → b ≡ false → cond b x y ≡ y
no b x y e = ap (λ t. cond t x y) e

module _ (h : Header) (at : Progress) (p s : List ℕ) where
  -- ---- which step is next

  pub is_marker_step : at.begun ≡ false → step h at p s ≡ marker_step at p s
  unfolding step
  is_marker_step e = no _ _ _ e

  pub is_row_step : at.begun ≡ true → at.row < at.to → step h at p s ≡ row_step h at p s
  unfolding step
  is_row_step e inside = yes _ _ _ e ∙ yes _ _ _ (lt-ltb at.row at.to inside)

  pub is_entry_step : at.begun ≡ true → at.to ≤ at.row → at.entries < 4 ^ h.layout.prefix → step h at p s ≡ entry_step h at p s
  unfolding step
  is_entry_step e all more = yes _ _ _ e ∙ no _ _ _ (le-ltb at.row at.to all) ∙ yes _ _ _ (lt-ltb at.entries (4 ^ h.layout.prefix) more)

  pub is_last_part : at.begun ≡ true → at.to ≤ at.row → at.entries ≡ 4 ^ h.layout.prefix → step h at p s ≡ Goes [] (behind_entry at h.rows) p s
  unfolding step
  is_last_part e all last =
      yes _ _ _ e ∙ no _ _ _ (le-ltb at.row at.to all) ∙ no _ _ _ (le-ltb at.entries (4 ^ h.layout.prefix) (omega (arith, last)))
      ∙ yes _ _ _ (le-leb at.entries (4 ^ h.layout.prefix) (omega (arith, last)))

  pub is_end_step : at.begun ≡ true → at.to ≤ at.row → 4 ^ h.layout.prefix < at.entries → step h at p s ≡ end_step h p s
  unfolding step
  is_end_step e all over =
      yes _ _ _ e ∙ no _ _ _ (le-ltb at.row at.to all) ∙ no _ _ _ (le-ltb at.entries (4 ^ h.layout.prefix) (omega (arith, over)))
      ∙ no _ _ _ (lt-leb at.entries (4 ^ h.layout.prefix) over)

  -- ---- what it finds of the text

  pub text_goes : (line : List ℕ) (at' : Progress) (p' s' : List ℕ) → step h at p s ≡ Goes line at' p' s' → steps_left h at ≡ suc (steps_left h at')
      → text_from h at p s ≡ line ++ text_from h at' p' s'
  unfolding text_in
  text_goes line at' p' s' e more =
      ap (λ n. text_in h n at p s) more ∙ ap (text_behind (text_in h (steps_left h at'))) e

  some_left : steps_left h at ≡ suc (steps_left h at - 1)
  some_left = omega (arith, some at.begun)
    where
      some : (b : Bool) → 1 ≤ cond b 1 2
      some true = omega arith
      some false = omega arith

  pub text_fails : (e : UnpackError) → step h at p s ≡ Fails e → text_from h at p s ≡ 0 ∷ []
  unfolding text_in
  text_fails e is = ap (λ n. text_in h n at p s) some_left ∙ ap (text_behind (text_in h (steps_left h at - 1))) is

  pub text_ends : step h at p s ≡ Ends → text_from h at p s ≡ []
  unfolding text_in
  text_ends is = ap (λ n. text_in h n at p s) some_left ∙ ap (text_behind (text_in h (steps_left h at - 1))) is

  -- ---- each step

  pub row_cut : (row : Row) → row_in h.layout (at.entries - 2) s ≡ row → has_at s 0 (row_of h.layout (pair_of_row h.layout row)) ≡ false
      → row_step h at p s ≡ Fails (Cut (at.row + 1))
  row_cut row is none =
      ap (λ r. cond (has_at s 0 (row_of h.layout (pair_of_row h.layout r)))
      (unless (row_fault at r) (Goes (line_of (pair_of_row h.layout r)) (behind_row at r) p (drop (row_long h.layout) s))) (Fails (Cut (at.row + 1)))) is
      ∙ no _ _ _ none

  pub row_judged : (row : Row) → row_in h.layout (at.entries - 2) s ≡ row → has_at s 0 (row_of h.layout (pair_of_row h.layout row)) ≡ true
      → row_step h at p s
      ≡ unless (row_fault at row) (Goes (line_of (pair_of_row h.layout row)) (behind_row at row) p (drop (row_long h.layout) s))
  row_judged row is there =
      ap (λ r. cond (has_at s 0 (row_of h.layout (pair_of_row h.layout r)))
      (unless (row_fault at r) (Goes (line_of (pair_of_row h.layout r)) (behind_row at r) p (drop (row_long h.layout) s))) (Fails (Cut (at.row + 1)))) is
      ∙ yes _ _ _ there

  pub entry_judged : (entry : ℕ) → low_number (take 8 p) ≡ entry → has_at p 0 (low_first 8 entry) ≡ true
      → entry_step h at p s ≡ unless (entry_fault h at entry) (Goes [] (behind_entry at entry) (drop 8 p) s)
  entry_judged entry is there =
      ap (λ n. cond (has_at p 0 (low_first 8 n)) (unless (entry_fault h at n) (Goes [] (behind_entry at n) (drop 8 p) s)) (Fails Changed)) is
      ∙ yes _ _ _ there

  -- ---- what the text is then

  module _ (begun : at.begun ≡ true) (inside : at.row < at.to) where
    pub text_of_cut : has_at s 0 (row_of h.layout (pair_of_row h.layout (row_in h.layout (at.entries - 2) s))) ≡ false → text_from h at p s ≡ 0 ∷ []
    text_of_cut none =
        text_fails (Cut (at.row + 1)) (is_row_step begun inside ∙ row_cut (row_in h.layout (at.entries - 2) s) refl none)

    module _ (row : Row) (is : row_in h.layout (at.entries - 2) s ≡ row) (there : has_at s 0 (row_of h.layout (pair_of_row h.layout row)) ≡ true) where
      pub text_of_bad_row : (e : UnpackError) → row_fault at row ≡ Some e → text_from h at p s ≡ 0 ∷ []
      text_of_bad_row e fault =
          let next : Step = Goes (line_of (pair_of_row h.layout row)) (behind_row at row) p (drop (row_long h.layout) s) in
          text_fails e (is_row_step begun inside ∙ row_judged row is there ∙ ap (λ f. unless f next) fault)

      pub text_of_row : IsWithin h at → row_fault at row ≡ None
          → text_from h at p s ≡ line_of (pair_of_row h.layout row) ++ text_from h (behind_row at row) p (drop (row_long h.layout) s)
      text_of_row within sound =
          let next : Step = Goes (line_of (pair_of_row h.layout row)) (behind_row at row) p (drop (row_long h.layout) s) in
          text_goes (line_of (pair_of_row h.layout row)) (behind_row at row) p (drop (row_long h.layout) s)
          (is_row_step begun inside ∙ row_judged row is there ∙ ap (λ f. unless f next) sound) (omega (arith, within.rows, inside))

  module _ (begun : at.begun ≡ true) (all : at.to ≤ at.row) where
    module _ (more : at.entries < 4 ^ h.layout.prefix) where
      pub text_of_short_table : has_at p 0 (low_first 8 (low_number (take 8 p))) ≡ false → text_from h at p s ≡ 0 ∷ []
      text_of_short_table none = text_fails Changed (is_entry_step begun all more ∙ no _ _ _ none)

      module _ (entry : ℕ) (is : low_number (take 8 p) ≡ entry) (there : has_at p 0 (low_first 8 entry) ≡ true) where
        pub text_of_bad_entry : (e : UnpackError) → entry_fault h at entry ≡ Some e → text_from h at p s ≡ 0 ∷ []
        text_of_bad_entry e fault =
            let next : Step = Goes [] (behind_entry at entry) (drop 8 p) s in
            text_fails e (is_entry_step begun all more ∙ entry_judged entry is there ∙ ap (λ f. unless f next) fault)

        pub text_of_entry : entry_fault h at entry ≡ None → text_from h at p s ≡ text_from h (behind_entry at entry) (drop 8 p) s
        text_of_entry sound =
            let next : Step = Goes [] (behind_entry at entry) (drop 8 p) s in
            text_goes [] (behind_entry at entry) (drop 8 p) s
            (is_entry_step begun all more ∙ entry_judged entry is there ∙ ap (λ f. unless f next) sound) (omega (arith, more))

    pub text_of_last_part : at.entries ≡ 4 ^ h.layout.prefix → text_from h at p s ≡ text_from h (behind_entry at h.rows) p s
    text_of_last_part last = text_goes [] (behind_entry at h.rows) p s (is_last_part begun all last) (omega (arith, last))

    module _ (over : 4 ^ h.layout.prefix < at.entries) where
      pub text_of_bad_end : bytes_eq s suffix_marker ≡ false → text_from h at p s ≡ 0 ∷ []
      text_of_bad_end other = text_fails SuffixEnd (is_end_step begun all over ∙ no _ _ _ other)

      pub text_of_bad_header : bytes_eq s suffix_marker ≡ true → is_header h p ≡ false → text_from h at p s ≡ 0 ∷ []
      text_of_bad_header ends other = text_fails Changed (is_end_step begun all over ∙ yes _ _ _ ends ∙ no _ _ _ other)

      pub text_of_end : bytes_eq s suffix_marker ≡ true → is_header h p ≡ true → text_from h at p s ≡ []
      text_of_end ends header = text_ends (is_end_step begun all over ∙ yes _ _ _ ends ∙ yes _ _ _ header)

  module _ (fresh : at.begun ≡ false) where
    pub text_of_bad_prefix : has_at p 0 prefix_marker ≡ false → text_from h at p s ≡ 0 ∷ []
    text_of_bad_prefix other = text_fails PrefixMarker (is_marker_step fresh ∙ no _ _ _ other)

    pub text_of_bad_suffix : has_at p 0 prefix_marker ≡ true → has_at s 0 suffix_marker ≡ false → text_from h at p s ≡ 0 ∷ []
    text_of_bad_suffix first other = text_fails SuffixMarker (is_marker_step fresh ∙ yes _ _ _ first ∙ no _ _ _ other)

    pub text_of_begun : has_at p 0 prefix_marker ≡ true → has_at s 0 suffix_marker ≡ true
        → text_from h at p s ≡ text_from h (record at { begun = true }) (drop 4 p) (drop 4 s)
    text_of_begun first second =
        let two : ◌≡◌ {A = ℕ} (cond at.begun 1 2) 2 = ap (λ b. cond b 1 2) fresh in
        text_goes [] (record at { begun = true }) (drop 4 p) (drop 4 s) (is_marker_step fresh ∙ yes _ _ _ first ∙ yes _ _ _ second) (omega (arith, two))
