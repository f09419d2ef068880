-- What a text has settled stays, whatever follows.
use Rattle.std.proofs.Common.{◌≡◌, ℕ, Bool, true, false, cond, ◌==◌, List, [], ◌∷◌, ◌++◌, refl, sym, ap, subst, ◌∙◌, Option, Some, None, Err}
use Rattle.std.proofs.lemmas.Bool.{eqb-true}
use Rattle.std.specs.Io.BufRead.{strip_last}
use Rattle.kmc_reads.specs.declared.error.ReadsError.{ReadsError}
use Rattle.kmc_reads.specs.declared.line_kind.LineKind.{LineKind}
use Rattle.kmc_reads.specs.declared.line_kind.LineKind.TheVariants.{Header, Sequence, Plus, Quality, FirstHeader, Body, Name, Rest}
use Rattle.kmc_reads.specs.Answer.{Answer, with_reads}
use Rattle.kmc_reads.specs.Laws.{FaultStays, EndedStay}
use Rattle.kmc_reads.specs.OpenLines.{whole_from, open_from, lines_from}
use Rattle.kmc_reads.specs.Stages.{Spot, first_spot, past, begun_by, given_by, fault_of, fault_from, ended_from, or_else, unless, reads_from, answer_past}
use Rattle.kmc_reads.proofs.Answers.{with_none, reads_join}
use Rattle.kmc_reads.proofs.Ending.{reads_are}
use Rattle.kmc_reads.proofs.Walking.{name_reads}

-- a fault, of the first line or of those behind it
first_fault : (o x : Option ReadsError) (given : List (List ℕ)) (y : Answer) (e : ReadsError) → or_else o x ≡ Some e → (x ≡ Some e → y ≡ Err e)
    → answer_past o given y ≡ Err e
first_fault None x given y e h rest = ap (with_reads given) (rest h)
first_fault (Some d) x given y e h rest = cc

pub fault_on : (s : Spot) (front bytes rest : List ℕ) (e : ReadsError) → fault_from s (whole_from front bytes) ≡ Some e → reads_from s
    (lines_from front (bytes ++ rest)) ≡ Err e
fault_on s front [] rest e h = cc
fault_on s front (b ∷ bs) rest e h =
    go (b == 10) h (fault_on (past s (strip_last 13 front)) [] bs rest e) (fault_on s (front ++ b ∷ []) bs rest e)
  where
    go : (t : Bool) → fault_from s (cond t (strip_last 13 front ∷ whole_from [] bs) (whole_from (front ++ b ∷ []) bs)) ≡ Some e
        → (fault_from (past s (strip_last 13 front)) (whole_from [] bs) ≡ Some e → reads_from (past s (strip_last 13 front))
        (lines_from [] (bs ++ rest)) ≡ Err e)
        → (fault_from s (whole_from (front ++ b ∷ []) bs) ≡ Some e → reads_from s (lines_from (front ++ b ∷ []) (bs ++ rest)) ≡ Err e)
        → reads_from s (cond t (strip_last 13 front ∷ lines_from [] (bs ++ rest)) (lines_from (front ++ b ∷ []) (bs ++ rest))) ≡ Err e
    go true h next more = first_fault (fault_of s.number s.stage s.read (strip_last 13 front)) _ (given_by s.stage s.read (strip_last 13 front)) _ e h next
    go false h next more = more h

-- the open line has ended a read
opened : (n : ℕ) (stage : LineKind) (read front rest : List ℕ)
    → (more : Answer) × (reads_from (record { number = n; stage = stage; read = read }) (lines_from front rest) ≡ with_reads (begun_by stage read front) more)
opened n Header read front rest = (_, sym (with_none _))
opened n Sequence read front rest = (_, sym (with_none _))
opened n Plus read front rest = (_, sym (with_none _))
opened n Quality read front rest = (_, sym (with_none _))
opened n FirstHeader read front rest = (_, sym (with_none _))
opened n Name read front rest = (_, sym (with_none _))
opened n Rest read front rest = (_, sym (with_none _))
opened n Body read [] rest = (_, sym (with_none _))
opened n Body read (c ∷ xs) rest = go (c == 62) refl
  where
    go : (t : Bool) → (c == 62) ≡ t → (more : Answer) × (reads_from (record { number = n; stage = Body; read = read }) (lines_from (c ∷ xs) rest)
        ≡ with_reads (cond t (read ∷ []) []) more)
    go false is = (_, sym (with_none _))
    go true is =
        let e : 62 ≡ c = sym (eqb-true c 62 is) in (
          _,
          subst (λ x. reads_from (record { number = n; stage = Body; read = read }) (lines_from (x ∷ xs) rest)
              ≡ with_reads (read ∷ []) (reads_from (record { number = n; stage = Name; read = [] }) (lines_from (x ∷ xs) rest))) e (name_reads n read xs rest),
        )

first_ended : (o : Option ReadsError) (given more : List (List ℕ)) (y : Answer) → (rest : Answer) × (y ≡ with_reads more rest)
    → (rest : Answer) × (answer_past o given y ≡ with_reads (unless o (given ++ more)) rest)
first_ended None given more y h = (h.0, ap (with_reads given) h.1 ∙ reads_join given more h.0)
first_ended (Some e) given more y h = (Err e, refl)

pub ended_on : (s : Spot) (front bytes rest : List ℕ)
    → (more : Answer) × (reads_from s (lines_from front (bytes ++ rest)) ≡ with_reads (ended_from s (whole_from front bytes) (open_from front bytes)) more)
ended_on s front [] rest = opened s.number s.stage s.read front rest
ended_on s front (b ∷ bs) rest =
    go (b == 10) (ended_on (past s (strip_last 13 front)) [] bs rest) (ended_on s (front ++ b ∷ []) bs rest)
  where
    go : (t : Bool)
        → ((more : Answer) × (reads_from (past s (strip_last 13 front)) (lines_from [] (bs ++ rest)) ≡ with_reads
        (ended_from (past s (strip_last 13 front)) (whole_from [] bs) (open_from [] bs)) more))
        → ((more : Answer) × (reads_from s (lines_from (front ++ b ∷ []) (bs ++ rest)) ≡ with_reads
        (ended_from s (whole_from (front ++ b ∷ []) bs) (open_from (front ++ b ∷ []) bs)) more))
        → (more : Answer) × (reads_from s (cond t (strip_last 13 front ∷ lines_from [] (bs ++ rest)) (lines_from (front ++ b ∷ []) (bs ++ rest)))
        ≡ with_reads (ended_from s (cond t (strip_last 13 front ∷ whole_from [] bs) (whole_from (front ++ b ∷ []) bs))
        (cond t (open_from [] bs) (open_from (front ++ b ∷ []) bs))) more)
    go true next more = first_ended (fault_of s.number s.stage s.read (strip_last 13 front)) (given_by s.stage s.read (strip_last 13 front)) _ _ next
    go false next more = more

pub fault_stays : FaultStays
fault_stays = λ format text rest e h. sym (reads_are format (text ++ rest)) ∙ fault_on (first_spot format) [] text rest e h

pub ended_stay : EndedStay
ended_stay = λ format text rest. let h = ended_on (first_spot format) [] text rest in (h.0, sym (reads_are format (text ++ rest)) ∙ h.1)
