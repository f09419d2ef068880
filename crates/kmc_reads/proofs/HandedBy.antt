-- Ways over a text by how reads are handed out: whole, or some of them in pieces.
use Rattle.std.proofs.Common.{◌≡◌, ℕ, ◌+◌, List, [], ◌++◌, Ok, Err, None, Some, Option, refl, sym, ap, subst, ◌∙◌, append_assoc, append-nil}
use Rattle.std.specs.List.{sum_by}
use Rattle.std.proofs.lemmas.List.Sums.{sum_by-append}
use Rattle.kmc_reads.specs.declared.error.ReadsError.{ReadsError}
use Rattle.kmc_reads.specs.declared.format.Format.{Format}
use Rattle.kmc_reads.specs.declared.scan.Scan.{Scan}
use Rattle.kmc_reads.specs.Answer.{Answer, with_reads}
use Rattle.kmc_reads.specs.Cuts.{AreCut, AreReadsBy, IsCutAnswer}
use Rattle.kmc_reads.specs.OpenLines.{whole_from, last_line, lines_from}
use Rattle.kmc_reads.specs.Reads.{reads_of}
use Rattle.kmc_reads.specs.Stages.{Spot, first_spot, fault_from, reads_from}
use Rattle.kmc_reads.specs.Standing.{Leads, LeadsCut, LeadsBy, Hands, At}
use Rattle.kmc_reads.proofs.Answers.{with_none, reads_join}
use Rattle.kmc_reads.proofs.Ending.{reads_are}
use Rattle.kmc_reads.proofs.Walking.{then_leads}

-- ---- answers

module _ (overlap : ℕ) where
  same_answer : (x : Answer) → IsCutAnswer overlap x x
  same_answer (Ok reads) = λ F adds. refl
  same_answer (Err e) = refl

  before : (rs : List (List ℕ)) (x y : Answer) → IsCutAnswer overlap x y → IsCutAnswer overlap (with_reads rs x) (with_reads rs y)
  before rs (Ok xs) (Ok ys) h = λ F adds. sum_by-append F rs xs ∙ ap (λ n. sum_by F rs + n) (h F adds) ∙ sym (sum_by-append F rs ys)
  before rs (Ok xs) (Err e) h = h
  before rs (Err e) (Ok ys) h = h
  before rs (Err e) (Err f) h = h

  then_cuts : (x y z : Answer) → IsCutAnswer overlap x y → IsCutAnswer overlap y z → IsCutAnswer overlap x z
  then_cuts (Ok xs) (Ok ys) (Ok zs) h g = λ F adds. h F adds ∙ g F adds
  then_cuts (Ok xs) (Ok ys) (Err e) h g = g
  then_cuts (Ok xs) (Err e) z h g = absurd h
  then_cuts (Err e) (Ok ys) z h g = absurd h
  then_cuts (Err e) (Err f) (Ok zs) h g = g
  then_cuts (Err e) (Err f) (Err d) h g = h ∙ g

  of_same : (x y : Answer) → x ≡ y → IsCutAnswer overlap x y
  of_same x y e = subst (IsCutAnswer overlap x) e (same_answer x)

  cut_reads : (x : Answer) (cuts : List (List ℕ)) → IsCutAnswer overlap x (Ok cuts) → (whole : List (List ℕ)) × (x ≡ Ok whole) × AreCut overlap whole cuts
  cut_reads (Ok whole) cuts h = (whole, refl, h)
  cut_reads (Err e) cuts h = absurd h

  cut_refusal : (x : Answer) (e : ReadsError) → IsCutAnswer overlap x (Err e) → x ≡ Err e
  cut_refusal (Ok whole) e h = absurd h
  cut_refusal (Err f) e h = ap Err h

  -- ---- ways

  as_cut : (s t : Spot) (front left p : List ℕ) (more : List (List ℕ)) → Leads s front p more t left → LeadsCut overlap s front p more t left
  as_cut s t front left p more l = record { fault = l.fault; reads = λ rest. of_same _ _ (l.reads rest) }

  then_cut : (s t w : Spot) (front left last p q : List ℕ) (more others : List (List ℕ)) → LeadsCut overlap s front p more t left
      → LeadsCut overlap t left q others w last → LeadsCut overlap s front (p ++ q) (more ++ others) w last
  then_cut s t w front left last p q more others l m = record {
    fault = λ rest. ap (λ x. fault_from s (whole_from front x)) (append_assoc p q rest) ∙ l.fault (q ++ rest) ∙ m.fault rest;
    reads = λ rest.
        let first = subst (λ x. IsCutAnswer overlap (reads_from s (lines_from front x))
        (with_reads more (reads_from t (lines_from left (q ++ rest))))) (sym (append_assoc p q rest)) (l.reads (q ++ rest)) in
        let second = before more _ _ (m.reads rest) in
        then_cuts _ _ _ first (subst (IsCutAnswer overlap (with_reads more (reads_from t (lines_from left (q ++ rest)))))
        (reads_join more others (reads_from w (lines_from last rest))) second);
  }

-- what the scan went over
pub as_by : (cut : Option ℕ) (s t : Spot) (front left p : List ℕ) (more : List (List ℕ)) → Leads s front p more t left → LeadsBy cut s front p more t left
as_by None s t front left p more l = l
as_by (Some overlap) s t front left p more l = as_cut overlap s t front left p more l

pub then_by : (cut : Option ℕ) (s t w : Spot) (front left last p q : List ℕ) (more others : List (List ℕ)) → LeadsBy cut s front p more t left
    → LeadsBy cut t left q others w last → LeadsBy cut s front (p ++ q) (more ++ others) w last
then_by None s t w front left last p q more others l m = then_leads s t w front left last p q more others l m
then_by (Some overlap) s t w front left last p q more others l m = then_cut overlap s t w front left last p q more others l m

pub fault_by : (cut : Option ℕ) (s t : Spot) (front left p : List ℕ) (more : List (List ℕ)) → LeadsBy cut s front p more t left → (rest : List ℕ)
    → fault_from s (whole_from front (p ++ rest)) ≡ fault_from t (whole_from left rest)
fault_by None s t front left p more l = l.fault
fault_by (Some overlap) s t front left p more l = l.fault

-- the answer at the end of a text
module _ (format : Format) (text : List ℕ) (all : List (List ℕ)) (t : Spot) (left : List ℕ) where
  whole : reads_from (first_spot format) (lines_from [] (text ++ [])) ≡ reads_of format text
  whole = ap (λ x. reads_from (first_spot format) (lines_from [] x)) (append-nil text) ∙ reads_are format text

  cut_answer : (overlap : ℕ) → LeadsCut overlap (first_spot format) [] text all t left → (answer : Answer)
      → with_reads all (reads_from t (last_line left)) ≡ answer → IsCutAnswer overlap (reads_of format text) answer
  cut_answer overlap l answer e =
      subst (IsCutAnswer overlap (reads_of format text)) e
      (subst (λ x. IsCutAnswer overlap x (with_reads all (reads_from t (last_line left)))) whole (l.reads []))

  pub reads_by : (cut : Option ℕ) → LeadsBy cut (first_spot format) [] text all t left → (reads : List (List ℕ))
      → with_reads all (reads_from t (last_line left)) ≡ Ok reads → AreReadsBy cut (reads_of format text) reads
  reads_by None l reads e = sym whole ∙ l.reads [] ∙ e
  reads_by (Some overlap) l reads e = cut_reads overlap (reads_of format text) reads (cut_answer overlap l (Ok reads) e)

  pub refusal_by : (cut : Option ℕ) → LeadsBy cut (first_spot format) [] text all t left → (f : ReadsError)
      → with_reads all (reads_from t (last_line left)) ≡ Err f → reads_of format text ≡ Err f
  refusal_by None l f e = sym whole ∙ l.reads [] ∙ e
  refusal_by (Some overlap) l f e = cut_refusal overlap (reads_of format text) f (cut_answer overlap l (Err f) e)

-- handing out rows alone cuts nothing
pub hands_rows : (overlap : ℕ) (rows : List (List ℕ)) (spot : Spot) (front : List ℕ) (reads : List (List ℕ)) (v : Scan) → reads ≡ rows → At
    [] spot front v → Hands overlap rows spot front reads v
hands_rows overlap rows spot front reads v are at = record {
  more = [];
  next = spot;
  left = front;
  given = are ∙ sym (append-nil rows);
  leads = record { fault = λ rest. refl; reads = λ rest. of_same overlap _ _ (sym (with_none _)) };
  stands = at;
}
