-- A scan that hands out symbols of its open read.
use Rattle.std.proofs.Common.{◌≡◌, ◌⊎◌, inl, inr, ℕ, ◌+◌, ◌-◌, ◌<◌, ◌≤◌, ◌==◌, Bool, true, false, cond, List, [], ◌∷◌, ◌++◌, length, take, drop, refl, sym, ap, subst, ◌∙◌, append-nil, length-append, length-drop, take_all, arith}
use Rattle.std.specs.List.{concat}
use Rattle.std.specs.Io.BufRead.{strip_last, ends_with_byte}
use Rattle.std.proofs.Math.Seq.{drop-append-add}
use Rattle.std.proofs.lemmas.List.{take-append-drop}
use Rattle.kmc_reads.specs.declared.scan.Scan.{Scan}
use Rattle.kmc_reads.specs.declared.line_kind.LineKind.{LineKind}
use Rattle.kmc_reads.specs.declared.line_kind.LineKind.TheVariants.{Body, Rest}
use Rattle.kmc_reads.specs.Rows.{rows_from, ends_from, AreEnds}
use Rattle.kmc_reads.specs.Stages.{Spot, begun_by}
use Rattle.kmc_reads.specs.Standing.{At, Hands, LeadsCut, kept}
use Rattle.kmc_reads.proofs.Feeding.{no_return}
use Rattle.kmc_reads.proofs.Rows.{concat_snoc, ends_snoc, ends_rise, rows_same}
use Rattle.kmc_reads.proofs.Seams.{spot, cut_between, cut_in_rest, cut_line, cut_rest}

-- the rows and the open symbols as one row more
module _ (rows : List (List ℕ)) (front ends bytes : List ℕ) (e : ends ≡ ends_from 0 rows) (b : bytes ≡ concat rows ++ front) where
  all_long : length bytes ≡ 0 + length (concat rows) + length front
  all_long = omega (arith, ap length b, length-append (concat rows) front)

  places : ends ++ length bytes ∷ [] ≡ ends_from 0 (rows ++ front ∷ [])
  places = (λ i. e i ++ all_long i ∷ []) ∙ sym (ends_snoc 0 rows front)

  pub rising : AreEnds 0 (ends ++ length bytes ∷ []) (length bytes)
  rising =
      let all : length (concat (rows ++ front ∷ [])) ≡ length (concat rows) + length front = ap length (concat_snoc rows front) ∙ length-append
      (concat rows) front in
      subst (λ t. AreEnds 0 t (length bytes)) (sym places) (ends_rise 0 (rows ++ front ∷ []) (length bytes) (omega (arith, all, all_long)))

  rows_and_open : rows_from 0 (ends ++ length bytes ∷ []) bytes ≡ rows ++ front ∷ []
  rows_and_open =
      let all : bytes ≡ concat (rows ++ front ∷ []) ++ [] = b ∙ sym (concat_snoc rows front) ∙ sym (append-nil (concat (rows ++ front ∷ []))) in
      (λ i. rows_from 0 (places i) (all i)) ∙ rows_same 0 (rows ++ front ∷ []) []

-- the last symbols of a buffer
pub last_of : (xs ys : List ℕ) (n o : ℕ) → xs ≡ ys → n ≡ length ys → take (length xs - (n - o)) (drop (n - o) xs) ≡ drop (length ys - o) ys
last_of xs ys n o e long =
    (λ i. take (length (e i) - (long i - o)) (drop (long i - o) (e i)))
    ∙ take_all (length ys - (length ys - o)) (drop (length ys - o) ys) (omega (arith, length-drop (length ys - o) ys))

any_read : (t : Bool) (read other : List ℕ) → cond t (read ∷ []) [] ≡ [] → cond t (other ∷ []) [] ≡ []
any_read true read other h = absurd (cc)
any_read false read other h = refl

-- the scan before and after, and what it handed out
pub record HasCut (overlap : ℕ) (old new : Scan) (reads : List (List ℕ)) : Type 0 where
  pub held : old.place.held ≡ false
  pub room : old.place.start + overlap ≤ length old.bytes.items
  pub bytes : new.bytes.items ≡ drop (length old.bytes.items - overlap) old.bytes.items
  pub ends : new.ends.items ≡ []
  pub between : old.place.length ≡ 0 → new.place.stage ≡ old.place.stage
  pub inside : 0 < old.place.length → new.place.stage ≡ Rest
  pub number : new.place.number ≡ old.place.number
  pub length_is : new.place.length ≡ 0
  pub held_is : new.place.held ≡ old.place.held
  pub start : new.place.start ≡ 0
  pub reads_are : reads ≡ rows_from 0 (old.ends.items ++ length old.bytes.items ∷ []) old.bytes.items

module _ (overlap n : ℕ) (rows : List (List ℕ)) (old new : Scan) (reads : List (List ℕ)) (cut : HasCut overlap old new reads) where
  module _ (open_read : List ℕ) (bytes : old.bytes.items ≡ concat rows ++ open_read) (start : old.place.start ≡ length (concat rows))
      (ends : old.ends.items ≡ ends_from 0 rows) where
    abbrev a : List ℕ
    a = take (length open_read - overlap) open_read

    abbrev b : List ℕ
    b = drop (length open_read - overlap) open_read

    parts : open_read ≡ a ++ b
    parts = sym (take-append-drop (length open_read - overlap) open_read)

    room : length (concat rows) + length open_read ≡ length old.bytes.items
    room = omega (arith, ap length bytes, length-append (concat rows) open_read)

    long : length b ≡ overlap
    long = omega (arith, length-drop (length open_read - overlap) open_read, room, cut.room, start)

    kept_is : new.bytes.items ≡ b
    kept_is =
        let place : length old.bytes.items - overlap ≡ length (concat rows) + (length open_read - overlap) = omega (arith, room, cut.room, start) in
        cut.bytes ∙ (λ i. drop (place i) (bytes i)) ∙ drop-append-add (concat rows) open_read (length open_read - overlap)

    given : reads ≡ rows ++ (a ++ b) ∷ []
    given = cut.reads_are ∙ rows_and_open rows open_read old.ends.items old.bytes.items ends bytes ∙ ap (λ (t : List ℕ). rows ++ t ∷ []) parts

    stands : (st : LineKind) → old.place.number ≡ n → new.place.stage ≡ st → kept st [] ≡ [] → begun_by st b [] ≡ [] → At [] (spot n st b) [] new
    stands st number is none settled = record {
      keeps = record {
        stage = is;
        number = cut.number ∙ number;
        bytes = kept_is ∙ sym (append-nil b) ∙ ap (λ (t : List ℕ). b ++ t) (sym none);
        ends = cut.ends;
        start = cut.start;
        many = cut.length_is;
        first = λ h. absurd (omega (arith, h));
      };
      held = cut.held_is ∙ cut.held;
      settled = settled;
    }

  -- what is handed out at a stage of an open read, where no line is open
  between_lines : (stage : LineKind) → kept stage [] ≡ [] → ((own : List ℕ) → begun_by stage own [] ≡ [])
      → ((own rest : List ℕ) → length rest ≡ overlap → LeadsCut overlap (spot n stage (own ++ rest)) [] [] ((own ++ rest) ∷ []) (spot n stage rest) [])
      → (read : List ℕ) → At rows (spot n stage read) [] old → Hands overlap rows (spot n stage read) [] reads new
  between_lines stage none settled lead read at =
      let k = at.keeps in
      let bytes : old.bytes.items ≡ concat rows ++ read = k.bytes ∙ ap (λ (t : List ℕ). concat rows ++ (read ++ t)) none ∙ ap
      (λ (t : List ℕ). concat rows ++ t) (append-nil read) in
      let own = a read bytes k.start k.ends in let rest = b read bytes k.start k.ends in
      record {
        more = (own ++ rest) ∷ [];
        next = spot n stage rest;
        left = [];
        given = given read bytes k.start k.ends;
        leads = subst (λ t. LeadsCut overlap (spot n stage t) [] [] ((own ++ rest) ∷ []) (spot n stage rest) [])
            (sym (parts read bytes k.start k.ends)) (lead own rest (long read bytes k.start k.ends));
        stands = stands read bytes k.start k.ends stage k.number (cut.between k.many ∙ k.stage) none (settled rest);
      }

  -- and where one is, which goes on behind the cut
  within_line : (stage : LineKind) (read front : List ℕ) → 0 < length front → kept stage (strip_last 13 front) ≡ strip_last 13 front
      → ((own rest : List ℕ) → length rest ≡ overlap → read ++ front ≡ own ++ rest → ends_with_byte 13 front ≡ false → LeadsCut overlap
      (spot n stage read) front [] ((own ++ rest) ∷ []) (spot n Rest rest) [])
      → At rows (spot n stage read) front old → Hands overlap rows (spot n stage read) front reads new
  within_line stage read front begun keeps lead at =
      let k = at.keeps in
      let none : ends_with_byte 13 front ≡ false = sym at.held ∙ cut.held in
      let same : strip_last 13 front ≡ front = no_return front none in
      let whole = read ++ front in
      let bytes : old.bytes.items ≡ concat rows ++ whole = k.bytes ∙ ap (λ (t : List ℕ). concat rows ++ (read ++ t)) (keeps ∙ same) in
      let own = a whole bytes k.start k.ends in let rest = b whole bytes k.start k.ends in
      let some : 0 < old.place.length = omega (arith, k.many, ap length same, begun) in
      record {
        more = (own ++ rest) ∷ [];
        next = spot n Rest rest;
        left = [];
        given = given whole bytes k.start k.ends;
        leads = lead own rest (long whole bytes k.start k.ends) (parts whole bytes k.start k.ends) none;
        stands = stands whole bytes k.start k.ends Rest k.number (cut.inside some) refl refl;
      }

  of_body : (read front : List ℕ) → At rows (spot n Body read) front old → Hands overlap rows (spot n Body read) front reads new
  of_body read [] at = between_lines Body refl (λ own. refl) (λ own rest l. cut_between overlap n own rest l) read at
  of_body read (x ∷ xs) at =
      within_line Body read (x ∷ xs) (omega arith) refl (λ own rest l whole none. cut_line overlap n own rest l read (x ∷ xs) whole
      (omega arith) none (λ r. any_read (x == 62) read r at.settled)) at

  of_rest : (read front : List ℕ) → At rows (spot n Rest read) front old → Hands overlap rows (spot n Rest read) front reads new
  of_rest read [] at = between_lines Rest refl (λ own. refl) (λ own rest l. cut_in_rest overlap n own rest l) read at
  of_rest read (x ∷ xs) at = within_line Rest read (x ∷ xs) (omega arith) refl
      (λ own rest l whole none. cut_rest overlap n own rest l read (x ∷ xs) whole (omega arith) none) at

-- what a cut hands out
pub hands : (overlap : ℕ) (rows : List (List ℕ)) (s : Spot) (front : List ℕ) (old new : Scan) (reads : List (List ℕ)) → HasCut overlap old new reads
    → (old.place.stage ≡ Body) ⊎ (old.place.stage ≡ Rest) → At rows s front old → Hands overlap rows s front reads new
hands overlap rows s front old new reads cut (inl is) at =
    let same : Body ≡ s.stage = sym is ∙ at.keeps.stage in
    subst (λ st. At rows (spot s.number st s.read) front old → Hands overlap rows (spot s.number st s.read) front reads new) same
    (of_body overlap s.number rows old new reads cut s.read front) at
hands overlap rows s front old new reads cut (inr is) at =
    let same : Rest ≡ s.stage = sym is ∙ at.keeps.stage in
    subst (λ st. At rows (spot s.number st s.read) front old → Hands overlap rows (spot s.number st s.read) front reads new) same
    (of_rest overlap s.number rows old new reads cut s.read front) at
