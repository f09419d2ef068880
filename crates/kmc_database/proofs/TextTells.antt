-- Two files whose text lists pairs are a database of these pairs.
use Rattle.std.proofs.Common.{◌≡◌, ℕ, zero, suc, ◌+◌, ◌-◌, ◌^◌, ◌<◌, ◌≤◌, ◌⊎◌, inl, inr, cond, Bool, true, false, nat_lt, nat_eq, decimal, map, List, [], ◌∷◌, ◌++◌, length, take, drop, Option, Some, None, refl, sym, ap, subst, ◌∙◌, arith, append_assoc, append-nil, length-drop, take-append-drop}
use Rattle.std.proofs.lemmas.Bool.{ltb-false, ltb-true}
use Rattle.std.proofs.lemmas.Bool.Decides.{Decides-eqb}
use Rattle.std.proofs.lemmas.List.{length-take-le}
use Rattle.std.proofs.lemmas.Slice.Eq.{bytes_eq-Decides}
use Rattle.std.specs.Prelude.{bytes_eq, ◌&&◌}
use Rattle.kmc_base.specs.Lemmas.Powers.{pow_some}
use Rattle.kmc_base.specs.Words.{letter}
use Rattle.kmc_lists.specs.Line.{line_of, text_of}
use Rattle.kmc_sum.specs.Laws.{TextListsOne}
use Rattle.kmc_sum.specs.Listed.{Lists}
use Rattle.kmc_database.specs.DumpText.{behind_entry, behind_row, end_step, Ends, entry_fault, entry_step, Fails, Goes, has_form, has_layout, is_header, row_fault, row_in, row_step, start, Step, step, steps_left, text_behind, text_in, text_of_files, unless}
use Rattle.kmc_database.specs.Files.{prefix_marker, suffix_marker}
use Rattle.kmc_database.specs.Header.{field, IsHeaderOf}
use Rattle.kmc_database.specs.Laws.{AreFilesOf}
use Rattle.kmc_database.specs.Layout.{IsLayout}
use Rattle.kmc_database.specs.Numbers.{low_first}
use Rattle.kmc_database.specs.Numerals.{has_at, low_number}
use Rattle.kmc_database.specs.Rows.{row_long, row_of}
use Rattle.kmc_database.specs.TakenRow.{pair_of_row}
use Rattle.kmc_database.specs.declared.progress.Progress.{Progress}
use Rattle.kmc_database.specs.declared.reading.Header.{Header}
use Rattle.kmc_database.specs.declared.unpack_error.UnpackError.{UnpackError}
use Rattle.kmc_database.specs.declared.unpack_error.UnpackError.TheVariants.{Changed, Cut, PrefixMarker, SuffixEnd, SuffixMarker}
use Rattle.kmc_database.proofs.DumpSteps.{is_end_step, is_entry_step, is_last_part, is_marker_step, is_row_step}
use Rattle.kmc_database.proofs.HeaderParts.{header_parts}
use Rattle.kmc_database.proofs.Numerals.{at_Decides}
use Rattle.kmc_database.proofs.ReadBack.{cut_end}
use Rattle.kmc_database.proofs.RowTold.{long_row}
use Rattle.kmc_database.proofs.SoundSteps.{sound_entry, sound_row}
use Rattle.kmc_database.proofs.TextPlaces.{begun_placed, end_placed, entry_placed, IsPlaced, last_placed, row_placed}

-- ---- byte 0 ends no dump

ends_in_line : (p : List ℕ × ℕ) (pairs : List (List ℕ × ℕ)) → (front : List ℕ) × (text_of (p ∷ pairs) ≡ front ++ 10 ∷ [])
ends_in_line p [] =
    let digits : List ℕ = map letter p.0 ++ 9 ∷ decimal p.1 in
    (digits, append-nil (line_of p))
ends_in_line p (q ∷ pairs) =
    let rest = ends_in_line q pairs in
    (line_of p ++ rest.0, ap (λ (t : List ℕ). line_of p ++ t) rest.1 ∙ sym (append_assoc (line_of p) rest.0 (10 ∷ [])))

no_fault_in : (pairs : List (List ℕ × ℕ)) (front : List ℕ) → text_of pairs ≡ front ++ 0 ∷ [] → ⊥
no_fault_in [] [] e = cc
no_fault_in [] (b ∷ front) e = cc
no_fault_in (p ∷ pairs) front e =
    let line = ends_in_line p pairs in
    let last : ◌≡◌ {A = List ℕ} (10 ∷ []) (0 ∷ []) = (cut_end line.0 (10 ∷ []) front (0 ∷ []) refl (sym line.1 ∙ e)).1 in
    cc

-- ---- a header that is told

and_both : (a b : Bool) → (a && b) ≡ true → (a ≡ true) × (b ≡ true)
and_both true b e = (refl, e)
and_both false b e = absurd (cc)

stands : (bytes : List ℕ) (place : ℕ) (part : List ℕ) → has_at bytes place part ≡ true → take (length part) (drop place bytes) ≡ part
stands bytes place part e = (at_Decides bytes place part).0 e

pub header_told : (h : Header) → IsLayout h.layout → h.rows < 2 ^ 64 → (p : List ℕ) → is_header h p ≡ true → IsHeaderOf p h
header_told h is few p e =
    let l = h.layout in
    let form = and_both (nat_eq (length p) 72 && has_layout l p && has_at p 24 (low_first 8 h.rows)) (has_form p) e in
    let rows = and_both (nat_eq (length p) 72 && has_layout l p) (has_at p 24 (low_first 8 h.rows)) form.0 in
    let size = and_both (nat_eq (length p) 72) (has_layout l p) rows.0 in
    let prefix = and_both (has_at p 0 (low_first 4 l.k) && has_at p 8 (low_first 4 l.counter)) (has_at p 12 (low_first 4 l.prefix)) size.1 in
    let counter = and_both (has_at p 0 (low_first 4 l.k)) (has_at p 8 (low_first 4 l.counter)) prefix.0 in
    let marker = and_both (has_at p 4 (low_first 4 0) && has_at p 60 (low_first 4 0) && has_at p 64 (low_first 4 64)) (has_at p 68 prefix_marker) form.1 in
    let head = and_both (has_at p 4 (low_first 4 0) && has_at p 60 (low_first 4 0)) (has_at p 64 (low_first 4 64)) marker.0 in
    let mode = and_both (has_at p 4 (low_first 4 0)) (has_at p 60 (low_first 4 0)) head.0 in
    let long : length p ≡ 72 = (Decides-eqb (length p) 72).0 size.0 in
    record {
      layout = is;
      few = few;
      limits = field p 16 8;
      limits_long = length-take-le 8 (drop 16 p) (omega (arith, long, length-drop 16 p));
      strands = field p 32 28;
      strands_long = length-take-le 28 (drop 32 p) (omega (arith, long, length-drop 32 p));
      is = header_parts p l h.rows long (stands p 0 (low_first 4 l.k) counter.0) (stands p 4 (low_first 4 0) mode.0)
          (stands p 8 (low_first 4 l.counter) counter.1) (stands p 12 (low_first 4 l.prefix) prefix.1) (stands p 24 (low_first 8 h.rows) rows.1)
          (stands p 60 (low_first 4 0) mode.1) (stands p 64 (low_first 4 64) head.1) (stands p 68 prefix_marker marker.1);
    }

-- ---- the text, step by step

module _ (h : Header) (is : IsLayout h.layout) (few : h.rows < 2 ^ 64) (prefix suffix : List ℕ) where
  -- the text is the lines of more pairs with which the files are those of a database, or it ends with byte 0
  abbrev IsOutcome : List (List ℕ × ℕ) → List ℕ → Type 0
  IsOutcome pairs text =
      ((more : List (List ℕ × ℕ)) × (text ≡ text_of more) × AreFilesOf h (pairs ++ more) prefix suffix)
      ⊎ ((front : List ℕ) × (text ≡ front ++ 0 ∷ []))

  same_outcome : (pairs : List (List ℕ × ℕ)) (text other : List ℕ) → other ≡ text → IsOutcome pairs text → IsOutcome pairs other
  same_outcome pairs text other e o = subst (IsOutcome pairs) (sym e) o

  fault_outcome : (pairs : List (List ℕ × ℕ)) → IsOutcome pairs (0 ∷ [])
  fault_outcome pairs = inr ([], refl)

  line_outcome : (pairs : List (List ℕ × ℕ)) (q : List ℕ × ℕ) (text : List ℕ) → IsOutcome (pairs ++ q ∷ []) text → IsOutcome pairs (line_of q ++ text)
  line_outcome pairs q text (inl o) =
      inl (
        q ∷ o.0,
        ap (λ (t : List ℕ). line_of q ++ t) o.1,
        subst (λ (t : List (List ℕ × ℕ)). AreFilesOf h t prefix suffix) (append_assoc pairs (q ∷ []) o.0) o.2,
      )
  line_outcome pairs q text (inr o) =
      inr (line_of q ++ o.0, ap (λ (t : List ℕ). line_of q ++ t) o.1 ∙ sym (append_assoc (line_of q) o.0 (0 ∷ [])))

  abbrev IsHere : Progress → List ℕ → List ℕ → List (List ℕ × ℕ) → Type 0
  IsHere at p s pairs = IsPlaced h is prefix suffix at p s pairs

  -- what the steps behind a place come to
  abbrev AreOutcomes : (Progress → List ℕ → List ℕ → List ℕ) → Type 0
  AreOutcomes next = (at : Progress) (p s : List ℕ) (pairs : List (List ℕ × ℕ)) → at.begun ≡ true → IsHere at p s pairs → IsOutcome pairs (next at p s)

  module _ (next : Progress → List ℕ → List ℕ → List ℕ) (later : AreOutcomes next) (at : Progress) (p s : List ℕ) (pairs : List (List ℕ × ℕ))
      (begun : at.begun ≡ true) (here : IsHere at p s pairs) where
    row_outcome : at.row < at.to → IsOutcome pairs (text_behind next (row_step h at p s))
    row_outcome inside =
        let l = h.layout in
        let row = row_in l (at.entries - 2) s in
        let found : Step = Goes (line_of (pair_of_row l row)) (behind_row at row) p (drop (row_long l) s) in
        let whole = row_of l (pair_of_row l row) in
        go (has_at s 0 whole) refl (row_fault at row) refl
      where
        go : (b : Bool) → has_at s 0 (row_of h.layout (pair_of_row h.layout (row_in h.layout (at.entries - 2) s))) ≡ b → (f : Option UnpackError)
            → row_fault at (row_in h.layout (at.entries - 2) s) ≡ f
            → IsOutcome pairs
            (text_behind next
            (cond b
            (unless f (Goes (line_of (pair_of_row h.layout (row_in h.layout (at.entries - 2) s))) (behind_row at (row_in h.layout (at.entries - 2) s)) p
            (drop (row_long h.layout) s))) (Fails (Cut (at.row + 1)))))
        go false there f fault = fault_outcome pairs
        go true there (Some e) fault = fault_outcome pairs
        go true there None fault =
            let l = h.layout in
            let row = row_in l (at.entries - 2) s in
            let front : take (row_long l) s ≡ row_of l (pair_of_row l row) =
            subst (λ n. take n s ≡ row_of l (pair_of_row l row)) (long_row l is row) (stands s 0 (row_of l (pair_of_row l row)) there) in
            let sound = sound_row at row fault in
            line_outcome pairs (pair_of_row l row) (next (behind_row at row) p (drop (row_long l) s))
            (later (behind_row at row) p (drop (row_long l) s) (pairs ++ pair_of_row l row ∷ []) begun
            (row_placed h is prefix suffix at p s pairs row here inside refl front sound.0 sound.1))

    entry_outcome : at.to ≤ at.row → at.entries < 4 ^ h.layout.prefix → IsOutcome pairs (text_behind next (entry_step h at p s))
    entry_outcome done more = go (has_at p 0 (low_first 8 (low_number (take 8 p)))) refl (entry_fault h at (low_number (take 8 p))) refl
      where
        go : (b : Bool) → has_at p 0 (low_first 8 (low_number (take 8 p))) ≡ b → (f : Option UnpackError)
            → entry_fault h at (low_number (take 8 p)) ≡ f
            → IsOutcome pairs
            (text_behind next (cond b (unless f (Goes [] (behind_entry at (low_number (take 8 p))) (drop 8 p) s)) (Fails Changed)))
        go false there f fault = fault_outcome pairs
        go true there (Some e) fault = fault_outcome pairs
        go true there None fault =
            let entry = low_number (take 8 p) in
            let front : take 8 p ≡ low_first 8 entry = stands p 0 (low_first 8 entry) there in
            let bytes : p ≡ low_first 8 entry ++ drop 8 p = sym (take-append-drop 8 p) ∙ ap (λ (t : List ℕ). t ++ drop 8 p) front in
            let sound = sound_entry h at entry fault in
            later (behind_entry at entry) (drop 8 p) s pairs begun
            (entry_placed h is prefix suffix at p (drop 8 p) s pairs entry here done more bytes sound.0 sound.1 sound.2)

    end_outcome : at.to ≤ at.row → 4 ^ h.layout.prefix < at.entries → IsOutcome pairs (text_behind next (end_step h p s))
    end_outcome done over = go (bytes_eq s suffix_marker) refl (is_header h p) refl
      where
        go : (a : Bool) → bytes_eq s suffix_marker ≡ a → (b : Bool) → is_header h p ≡ b
            → IsOutcome pairs (text_behind next (cond a (cond b Ends (Fails Changed)) (Fails SuffixEnd)))
        go false ends b header = fault_outcome pairs
        go true ends false header = fault_outcome pairs
        go true ends true header =
            inl (
              [],
              refl,
              subst (λ (t : List (List ℕ × ℕ)). AreFilesOf h t prefix suffix) (sym (append-nil pairs))
                  (end_placed h is prefix suffix at p s pairs here done over ((bytes_eq-Decides s suffix_marker).0 ends) (header_told h is few p header)),
            )

    step_outcome : IsOutcome pairs (text_behind next (step h at p s))
    step_outcome = by_row (nat_lt at.row at.to) refl
      where
        by_end : at.to ≤ at.row → 4 ^ h.layout.prefix ≤ at.entries → (b : Bool) → nat_lt (4 ^ h.layout.prefix) at.entries ≡ b
            → IsOutcome pairs (text_behind next (step h at p s))
        by_end done told true e =
            let over = ltb-true (4 ^ h.layout.prefix) at.entries e in
            same_outcome pairs _ _ (ap (text_behind next) (is_end_step h at p s begun done over)) (end_outcome done over)
        by_end done told false e =
            let last : at.entries ≡ 4 ^ h.layout.prefix = omega (arith, told, ltb-false (4 ^ h.layout.prefix) at.entries e) in
            same_outcome pairs _ _ (ap (text_behind next) (is_last_part h at p s begun done last))
            (later (behind_entry at h.rows) p s pairs begun
            (last_placed h is prefix suffix at p s pairs here done (pow_some h.layout.prefix) last))

        by_entry : at.to ≤ at.row → (b : Bool) → nat_lt at.entries (4 ^ h.layout.prefix) ≡ b → IsOutcome pairs (text_behind next (step h at p s))
        by_entry done true e =
            let more = ltb-true at.entries (4 ^ h.layout.prefix) e in
            same_outcome pairs _ _ (ap (text_behind next) (is_entry_step h at p s begun done more)) (entry_outcome done more)
        by_entry done false e =
            by_end done (ltb-false at.entries (4 ^ h.layout.prefix) e) (nat_lt (4 ^ h.layout.prefix) at.entries) refl

        by_row : (b : Bool) → nat_lt at.row at.to ≡ b → IsOutcome pairs (text_behind next (step h at p s))
        by_row true e =
            let inside = ltb-true at.row at.to e in
            same_outcome pairs _ _ (ap (text_behind next) (is_row_step h at p s begun inside)) (row_outcome inside)
        by_row false e = by_entry (ltb-false at.row at.to e) (nat_lt at.entries (4 ^ h.layout.prefix)) refl

  steps_outcome : (n : ℕ) → AreOutcomes (text_in h n)
  unfolding text_in
  steps_outcome zero at p s pairs begun here = fault_outcome pairs
  steps_outcome (suc n) at p s pairs begun here = step_outcome (text_in h n) (steps_outcome n) at p s pairs begun here

  -- the markers, and then the steps
  files_outcome : (n : ℕ) → IsOutcome [] (text_in h (suc n) start prefix suffix)
  unfolding text_in
  files_outcome n =
      same_outcome [] _ _ (ap (text_behind (text_in h n)) (is_marker_step h start prefix suffix refl))
      (go (has_at prefix 0 prefix_marker) refl (has_at suffix 0 suffix_marker) refl)
    where
      go : (a : Bool) → has_at prefix 0 prefix_marker ≡ a → (b : Bool) → has_at suffix 0 suffix_marker ≡ b
          → IsOutcome []
          (text_behind (text_in h n)
          (cond a (cond b (Goes [] (record start { begun = true }) (drop 4 prefix) (drop 4 suffix)) (Fails SuffixMarker)) (Fails PrefixMarker)))
      go false first b second = fault_outcome []
      go true first false second = fault_outcome []
      go true first true second = steps_outcome n (record start { begun = true }) (drop 4 prefix) (drop 4 suffix) [] refl (begun_here first second)
        where
          begun_here : has_at prefix 0 prefix_marker ≡ true → has_at suffix 0 suffix_marker ≡ true
              → IsHere (record start { begun = true }) (drop 4 prefix) (drop 4 suffix) []
          begun_here = begun_placed h is prefix suffix

  pub text_tells : TextListsOne → (k : ℕ) (pairs : List (List ℕ × ℕ)) → Lists k (text_of_files h prefix suffix) pairs → AreFilesOf h pairs prefix suffix
  text_tells one k pairs lists = go (files_outcome (steps_left h start - 1))
    where
      again : text_of_files h prefix suffix ≡ text_in h (suc (steps_left h start - 1)) start prefix suffix
      again = ap (λ n. text_in h n start prefix suffix) (omega arith)

      go : IsOutcome [] (text_in h (suc (steps_left h start - 1)) start prefix suffix) → AreFilesOf h pairs prefix suffix
      go (inl o) =
          let same : pairs ≡ o.0 =
          one k h.layout.k (text_of_files h prefix suffix) pairs o.0 lists (record { listed = o.2.listed; lines = again ∙ o.1 }) in
          subst (λ (t : List (List ℕ × ℕ)). AreFilesOf h t prefix suffix) (sym same) o.2
      go (inr o) = absurd (no_fault_in pairs o.0 (sym lists.lines ∙ again ∙ o.1))
