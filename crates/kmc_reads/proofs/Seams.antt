-- An open FASTA read in two pieces.
use Rattle.std.proofs.Common.{◌≡◌, ℕ, ◌+◌, ◌==◌, ◌<◌, Bool, true, false, cond, List, [], ◌∷◌, ◌++◌, length, None, Ok, refl, sym, ap, subst, ◌∙◌, append_assoc, append-nil, length-append, arith}
use Rattle.std.specs.Io.BufRead.{strip_last, ends_with_byte}
use Rattle.std.proofs.lemmas.List.Sums.{sum_by-cons}
use Rattle.kmc_reads.specs.declared.line_kind.LineKind.{LineKind}
use Rattle.kmc_reads.specs.declared.line_kind.LineKind.TheVariants.{Body, Rest}
use Rattle.kmc_reads.specs.Answer.{Answer, with_reads}
use Rattle.kmc_reads.specs.Cuts.{AreCut, IsCutAnswer}
use Rattle.kmc_reads.specs.Fasta.{is_header, onto_read, reads_after}
use Rattle.kmc_reads.specs.Lines.{line_past}
use Rattle.kmc_reads.specs.OpenLines.{whole_from, lines_from, last_line}
use Rattle.kmc_reads.specs.Stages.{Spot, fault_from, reads_from, begun_by}
use Rattle.kmc_reads.specs.Standing.{LeadsCut}
use Rattle.kmc_reads.proofs.Answers.{with_none}
use Rattle.kmc_reads.proofs.Bodies.{onto_onto}
use Rattle.kmc_reads.proofs.Ending.{bodies_same}
use Rattle.kmc_reads.proofs.Feeding.{strip_more, no_return}

abbrev pub spot : ℕ → LineKind → List ℕ → Spot
spot n st read = record { number = n; stage = st; read = read }

-- ---- no line is at fault inside a read

body_sound : (n : ℕ) (read : List ℕ) (ls : List (List ℕ)) → fault_from (spot n Body read) ls ≡ None
body_sound n read [] = refl
body_sound n read (l ∷ ls) = body_sound (line_past n 1) (cond (is_header l) [] (read ++ l)) ls

rest_sound : (n : ℕ) (read : List ℕ) (ls : List (List ℕ)) → fault_from (spot n Rest read) ls ≡ None
rest_sound n read [] = refl
rest_sound n read (l ∷ ls) = body_sound (line_past n 1) (read ++ l) ls

-- ---- the reads that follow in a line of symbols, whatever the open read is

abbrev rest_after : List ℕ → List ℕ → List (List ℕ)
rest_after left [] = strip_last 13 left ∷ []
rest_after left (x ∷ rest) = cond (x == 10) (onto_read (strip_last 13 left) (reads_after (lines_from [] rest))) (rest_after (left ++ x ∷ []) rest)

rest_end : (n : ℕ) (read left : List ℕ) → reads_from (spot n Rest read) (last_line left) ≡ Ok (onto_read read (strip_last 13 left ∷ []))
rest_end n read [] = ap (λ (t : List ℕ). Ok (t ∷ [])) (sym (append-nil read))
rest_end n read (x ∷ left) = refl

rest_is : (n : ℕ) (read left rest : List ℕ) → reads_from (spot n Rest read) (lines_from left rest) ≡ Ok (onto_read read (rest_after left rest))
rest_is n read left [] = rest_end n read left
rest_is n read left (x ∷ rest) = go (x == 10) (rest_is n read (left ++ x ∷ []) rest) where
  go : (t : Bool) → reads_from (spot n Rest read) (lines_from (left ++ x ∷ []) rest) ≡ Ok (onto_read read (rest_after (left ++ x ∷ []) rest))
      → reads_from (spot n Rest read) (cond t (strip_last 13 left ∷ lines_from [] rest) (lines_from (left ++ x ∷ []) rest))
      ≡ Ok (onto_read read (cond t (onto_read (strip_last 13 left) (reads_after (lines_from [] rest))) (rest_after (left ++ x ∷ []) rest)))
  go true more = with_none _ ∙ bodies_same (line_past n 1) (read ++ strip_last 13 left) (lines_from [] rest) ∙ ap Ok
      (sym (onto_onto read (strip_last 13 left) (reads_after (lines_from [] rest))))
  go false more = more

-- the same where this much of the line has come, which is no header
module _ (st : LineKind) (u : List ℕ) (some : 0 < length u)
    (onto : (n : ℕ) (read w : List ℕ) (ls : List (List ℕ)) → reads_from (spot n st read) ((u ++ w) ∷ ls) ≡ reads_from
    (spot (line_past n 1) Body (read ++ (u ++ w))) ls)
    (whole : (w : List ℕ) → strip_last 13 (u ++ w) ≡ u ++ strip_last 13 w) where
  line_of : (front : List ℕ) → 0 < length front → last_line front ≡ strip_last 13 front ∷ []
  line_of [] less = absurd (omega arith)
  line_of (x ∷ front) less = refl

  line_is : (n : ℕ) (read left : List ℕ) (ls : List (List ℕ)) → reads_from (spot n st read) (strip_last 13 (u ++ left) ∷ ls) ≡ Ok
      (onto_read (read ++ u) (onto_read (strip_last 13 left) (reads_after ls)))
  line_is n read left ls =
      let own = strip_last 13 left in
      ap (λ l. reads_from (spot n st read) (l ∷ ls)) (whole left) ∙ onto n read own ls
      ∙ bodies_same (line_past n 1) (read ++ (u ++ own)) ls
      ∙ ap (λ t. Ok (onto_read t (reads_after ls))) (sym (append_assoc read u own))
      ∙ ap Ok (sym (onto_onto (read ++ u) own (reads_after ls)))

  front_is : (n : ℕ) (read left rest : List ℕ) → reads_from (spot n st read) (lines_from (u ++ left) rest) ≡ Ok (onto_read (read ++ u) (rest_after left rest))
  front_is n read left [] =
      ap (reads_from (spot n st read)) (line_of (u ++ left) (omega (arith, some, length-append u left))) ∙ line_is n read left [] ∙ ap
      (λ (t : List ℕ). Ok (onto_read (read ++ u) (t ∷ []))) (append-nil (strip_last 13 left))
  front_is n read left (x ∷ rest) = go (x == 10) (front_is n read (left ++ x ∷ []) rest) where
    go : (t : Bool) → reads_from (spot n st read) (lines_from (u ++ (left ++ x ∷ [])) rest) ≡ Ok
        (onto_read (read ++ u) (rest_after (left ++ x ∷ []) rest)) → reads_from (spot n st read)
        (cond t (strip_last 13 (u ++ left) ∷ lines_from [] rest) (lines_from ((u ++ left) ++ x ∷ []) rest))
        ≡ Ok (onto_read (read ++ u) (cond t (onto_read (strip_last 13 left) (reads_after (lines_from [] rest))) (rest_after (left ++ x ∷ []) rest)))
    go true more = line_is n read left (lines_from [] rest)
    go false more = ap (λ t. reads_from (spot n st read) (lines_from t rest)) (append_assoc u left (x ∷ [])) ∙ more

-- ---- two pieces

module _ (overlap : ℕ) (a b : List ℕ) (long : length b ≡ overlap) where
  two_pieces : (rs : List (List ℕ)) → AreCut overlap (onto_read (a ++ b) rs) ((a ++ b) ∷ onto_read b rs)
  two_pieces [] F adds =
      let sum : F (a ++ (b ++ [])) ≡ F (a ++ b) + F (b ++ []) = adds a b [] long in
      let one = sum_by-cons F (a ++ b) [] in
      let two = sum_by-cons F (a ++ b) (b ∷ []) in
      let last = sum_by-cons F b [] in
      let same : F (a ++ (b ++ [])) ≡ F (a ++ b) = ap (λ t. F (a ++ t)) (append-nil b) in
      let same_b : F (b ++ []) ≡ F b = ap F (append-nil b) in
      omega (arith, sum, one, two, last, same, same_b)
  two_pieces (r ∷ rs) F adds =
      let sum : F (a ++ (b ++ r)) ≡ F (a ++ b) + F (b ++ r) = adds a b r long in
      let one = sum_by-cons F ((a ++ b) ++ r) rs in
      let two = sum_by-cons F (a ++ b) ((b ++ r) ∷ rs) in
      let last = sum_by-cons F (b ++ r) rs in
      let same : F ((a ++ b) ++ r) ≡ F (a ++ (b ++ r)) = ap F (append_assoc a b r) in
      omega (arith, sum, one, two, last, same)

  -- answers of one form, the one from the whole open read and the other from its last symbols
  cut_answer : (x y : Answer) (rs : List (List ℕ)) → x ≡ Ok (onto_read (a ++ b) rs) → y ≡ Ok (onto_read b rs) → IsCutAnswer overlap x
      (with_reads ((a ++ b) ∷ []) y)
  cut_answer x y rs ex ey = subst (λ x. IsCutAnswer overlap x (with_reads ((a ++ b) ∷ []) y)) (sym ex)
      (subst (λ y. IsCutAnswer overlap (Ok (onto_read (a ++ b) rs)) (with_reads ((a ++ b) ∷ []) y)) (sym ey) (two_pieces rs))

-- ---- the three places of an open line

header_onto : (t : Bool) (m : ℕ) (read l : List ℕ) (ls : List (List ℕ)) → cond t (read ∷ []) [] ≡ [] → with_reads (cond t (read ∷ []) [])
    (reads_from (spot m Body (cond t [] (read ++ l))) ls) ≡ reads_from (spot m Body (read ++ l)) ls
header_onto true m read l ls h = absurd (cc)
header_onto false m read l ls h = with_none _

body_onto : (u : List ℕ) → 0 < length u → ((read : List ℕ) → begun_by Body read u ≡ []) → (n : ℕ) (read w : List ℕ) (ls : List (List ℕ)) → reads_from
    (spot n Body read) ((u ++ w) ∷ ls) ≡ reads_from (spot (line_past n 1) Body (read ++ (u ++ w))) ls
body_onto [] some settled n read w ls = absurd (omega arith)
body_onto (x ∷ u) some settled n read w ls = header_onto (x == 62) (line_past n 1) read ((x ∷ u) ++ w) ls (settled read)

whole_of : (u : List ℕ) → ends_with_byte 13 u ≡ false → (w : List ℕ) → strip_last 13 (u ++ w) ≡ u ++ strip_last 13 w
whole_of u none [] = ap (strip_last 13) (append-nil u) ∙ no_return u none ∙ sym (append-nil u)
whole_of u none (y ∷ w) = strip_more u (y ∷ w) (omega arith)

module _ (overlap n : ℕ) (a b : List ℕ) (long : length b ≡ overlap) where
  pub cut_between : LeadsCut overlap (spot n Body (a ++ b)) [] [] ((a ++ b) ∷ []) (spot n Body b) []
  cut_between = record {
    fault = λ rest. body_sound n (a ++ b) (whole_from [] rest) ∙ sym (body_sound n b (whole_from [] rest));
    reads = λ rest. cut_answer overlap a b long _ _ (reads_after (lines_from [] rest)) (bodies_same n (a ++ b) (lines_from [] rest))
        (bodies_same n b (lines_from [] rest));
  }

  pub cut_in_rest : LeadsCut overlap (spot n Rest (a ++ b)) [] [] ((a ++ b) ∷ []) (spot n Rest b) []
  cut_in_rest = record {
    fault = λ rest. rest_sound n (a ++ b) (whole_from [] rest) ∙ sym (rest_sound n b (whole_from [] rest));
    reads = λ rest. cut_answer overlap a b long _ _ (rest_after [] rest) (rest_is n (a ++ b) [] rest) (rest_is n b [] rest);
  }

  module _ (read u : List ℕ) (parts : read ++ u ≡ a ++ b) (some : 0 < length u) (none : ends_with_byte 13 u ≡ false) where
    of_front : (st : LineKind) → ((m : ℕ) (r w : List ℕ) (ls : List (List ℕ)) → reads_from (spot m st r) ((u ++ w) ∷ ls) ≡ reads_from
        (spot (line_past m 1) Body (r ++ (u ++ w))) ls)
        → (rest : List ℕ) → reads_from (spot n st read) (lines_from u rest) ≡ Ok (onto_read (a ++ b) (rest_after [] rest))
    of_front st onto rest =
        ap (λ t. reads_from (spot n st read) (lines_from t rest)) (sym (append-nil u)) ∙ front_is st u some onto (whole_of u none) n read [] rest
        ∙ ap (λ t. Ok (onto_read t (rest_after [] rest))) parts

    pub cut_line : ((r : List ℕ) → begun_by Body r u ≡ []) → LeadsCut overlap (spot n Body read) u [] ((a ++ b) ∷ []) (spot n Rest b) []
    cut_line settled = record {
      fault = λ rest. body_sound n read (whole_from u rest) ∙ sym (rest_sound n b (whole_from [] rest));
      reads = λ rest. cut_answer overlap a b long _ _ (rest_after [] rest) (of_front Body (body_onto u some settled) rest) (rest_is n b [] rest);
    }

    pub cut_rest : LeadsCut overlap (spot n Rest read) u [] ((a ++ b) ∷ []) (spot n Rest b) []
    cut_rest = record {
      fault = λ rest. rest_sound n read (whole_from u rest) ∙ sym (rest_sound n b (whole_from [] rest));
      reads = λ rest. cut_answer overlap a b long _ _ (rest_after [] rest) (of_front Rest (λ m r w ls. with_none _) rest) (rest_is n b [] rest);
    }
