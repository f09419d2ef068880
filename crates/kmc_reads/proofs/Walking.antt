-- A scan goes over a block line by line.
use Rattle.std.proofs.Common.{◌≡◌, ℕ, suc, Bool, true, false, cond, ◌==◌, List, [], ◌∷◌, ◌++◌, length, take, drop, get_or, refl, sym, ap, subst, ◌∙◌, arith, append_assoc, append-nil, take_all, Some, None}
use Rattle.std.proofs.lemmas.Bool.{ne_eqb}
use Rattle.std.specs.Io.BufRead.{strip_last}
use Rattle.kmc_reads.specs.declared.scan.Scan.{Scan}
use Rattle.kmc_reads.specs.declared.error.ReadsError.{ReadsError}
use Rattle.kmc_reads.specs.declared.line_kind.LineKind.TheVariants.{Body, Name}
use Rattle.kmc_reads.specs.Answer.{with_reads}
use Rattle.kmc_reads.specs.Fasta.{is_header}
use Rattle.kmc_reads.specs.Lines.{line_past}
use Rattle.kmc_reads.specs.OpenLines.{whole_from, open_from, lines_from}
use Rattle.kmc_reads.specs.Stages.{Spot, past, given_by, fault_of, fault_from, ended_from, or_else, unless, reads_from, answer_past}
use Rattle.kmc_reads.specs.Standing.{At, Goes, Leads, HasFault, HasNoFeed, IsCutOfText}
use Rattle.kmc_reads.proofs.Answers.{with_none, reads_join}
use Rattle.kmc_reads.proofs.Feeding.{header_stripped}

-- a part of the block, with which the rest makes the block, was gone over
pub record IsOver (block rest : List ℕ) (rows : List (List ℕ)) (spot : Spot) (front : List ℕ) (v : Scan) : Type 0 where
  pub over : List ℕ
  pub whole : over ++ rest ≡ block
  pub goes : Goes rows spot front over v

-- the scan went over what stands before the rest of the block, and nothing that it had was lost
pub record IsUnder (block rest : List ℕ) (old new : Scan) : Type 0 where
  pub goes : (rows : List (List ℕ)) (spot : Spot) (front : List ℕ) → At rows spot front old → IsOver block rest rows spot front new
  pub bytes : take (length old.bytes.items) new.bytes.items ≡ old.bytes.items
  pub ends : take (length old.ends.items) new.ends.items ≡ old.ends.items

-- bytes without a line feed go onto the open line, whatever is made of the lines
module _ {A : Type 0} (made : List ℕ → List ℕ → A) (ended : List ℕ → List ℕ → A)
    (step : (front : List ℕ) (b : ℕ) (rest : List ℕ) → made front (b ∷ rest) ≡ cond (b == 10) (ended front rest) (made (front ++ b ∷ []) rest)) where
  onto_open : (front p rest : List ℕ) → HasNoFeed p → made front (p ++ rest) ≡ made (front ++ p) rest
  onto_open front [] rest unbroken = ap (λ t. made t rest) (sym (append-nil front))
  onto_open front (b ∷ p) rest unbroken =
      let e = ne_eqb b 10 (unbroken 0 (grind arith)) in
      step front b (p ++ rest)
      ∙ ap (λ t. cond t (ended front (p ++ rest)) (made (front ++ b ∷ []) (p ++ rest))) e
      ∙ onto_open (front ++ b ∷ []) p rest (λ k h. unbroken (suc k) (grind arith))
      ∙ ap (λ t. made t rest) (append_assoc front (b ∷ []) p)

pub whole_open : (front p rest : List ℕ) → HasNoFeed p → whole_from front (p ++ rest) ≡ whole_from (front ++ p) rest
whole_open = onto_open whole_from (λ front rest. strip_last 13 front ∷ whole_from [] rest) (λ front b rest. refl)

pub open_open : (front p rest : List ℕ) → HasNoFeed p → open_from front (p ++ rest) ≡ open_from (front ++ p) rest
open_open = onto_open open_from (λ front rest. open_from [] rest) (λ front b rest. refl)

pub lines_open : (front p rest : List ℕ) → HasNoFeed p → lines_from front (p ++ rest) ≡ lines_from (front ++ p) rest
lines_open = onto_open lines_from (λ front rest. strip_last 13 front ∷ lines_from [] rest) (λ front b rest. refl)

pub open_leads : (s : Spot) (front p : List ℕ) → HasNoFeed p → Leads s front p [] s (front ++ p)
open_leads s front p unbroken = record {
  fault = λ rest. ap (fault_from s) (whole_open front p rest unbroken);
  ended = λ rest. (λ i. ended_from s (whole_open front p rest unbroken i) (open_open front p rest unbroken i));
  reads = λ rest. ap (reads_from s) (lines_open front p rest unbroken) ∙ sym (with_none (reads_from s (lines_from (front ++ p) rest)));
}

-- a line feed ends the open line
module _ (s : Spot) (front : List ℕ) where
  pub feed_leads : fault_of s.number s.stage s.read (strip_last 13 front) ≡ None → Leads s front (10 ∷ [])
      (given_by s.stage s.read (strip_last 13 front)) (past s (strip_last 13 front)) []
  feed_leads fine =
      let t = past s (strip_last 13 front) in
      let given = given_by s.stage s.read (strip_last 13 front) in
      record {
        fault = λ rest. ap (λ o. or_else o (fault_from t (whole_from [] rest))) fine;
        ended = λ rest. ap (λ o. unless o (given ++ ended_from t (whole_from [] rest) (open_from [] rest))) fine;
        reads = λ rest. ap (λ o. answer_past o given (reads_from t (lines_from [] rest))) fine;
      }

  pub feed_faults : (e : ReadsError) → fault_of s.number s.stage s.read (strip_last 13 front) ≡ Some e → HasFault s front (10 ∷ []) e
  feed_faults e faulty = λ rest. ap (λ o. or_else o (fault_from (past s (strip_last 13 front)) (whole_from [] rest))) faulty

-- the first byte of a header ends the open read, and what else the line has changes nothing
module _ (n : ℕ) (read : List ℕ) where
  abbrev pub body : Spot
  body = record { number = n; stage = Body; read = read }

  abbrev pub named : Spot
  named = record { number = n; stage = Name; read = [] }

  header_is : (xs : List ℕ) → is_header (strip_last 13 (62 ∷ xs)) ≡ true
  header_is xs = header_stripped (62 ∷ xs)

  past_same : (l : List ℕ) → is_header l ≡ true → past body l ≡ past named l
  past_same l h = λ i. record { number = line_past n 1; stage = Body; read = cond (h i) [] (read ++ l) }

  given_is : (l : List ℕ) → is_header l ≡ true → given_by Body read l ≡ read ∷ []
  given_is l h = ap (λ t. cond t (read ∷ []) []) h

  name_fault : (xs rest : List ℕ) → fault_from body (whole_from (62 ∷ xs) rest) ≡ fault_from named (whole_from (62 ∷ xs) rest)
  name_fault xs [] = refl
  name_fault xs (b ∷ bs) = go (b == 10) (name_fault (xs ++ b ∷ []) bs)
    where
      go : (t : Bool) → fault_from body (whole_from (62 ∷ (xs ++ b ∷ [])) bs) ≡ fault_from named (whole_from (62 ∷ (xs ++ b ∷ [])) bs)
          → fault_from body (cond t (strip_last 13 (62 ∷ xs) ∷ whole_from [] bs) (whole_from (62 ∷ (xs ++ b ∷ [])) bs))
          ≡ fault_from named (cond t (strip_last 13 (62 ∷ xs) ∷ whole_from [] bs) (whole_from (62 ∷ (xs ++ b ∷ [])) bs))
      go false h = h
      go true h = ap (λ u. fault_from u (whole_from [] bs)) (past_same (strip_last 13 (62 ∷ xs)) (header_is xs))

  name_ended : (xs rest : List ℕ) → ended_from body (whole_from (62 ∷ xs) rest) (open_from (62 ∷ xs) rest) ≡ read ∷ ended_from named
      (whole_from (62 ∷ xs) rest) (open_from (62 ∷ xs) rest)
  name_ended xs [] = refl
  name_ended xs (b ∷ bs) = go (b == 10) (name_ended (xs ++ b ∷ []) bs)
    where
      go : (t : Bool) → ended_from body (whole_from (62 ∷ (xs ++ b ∷ [])) bs) (open_from (62 ∷ (xs ++ b ∷ [])) bs) ≡ read ∷ ended_from named
          (whole_from (62 ∷ (xs ++ b ∷ [])) bs) (open_from (62 ∷ (xs ++ b ∷ [])) bs)
          → ended_from body (cond t (strip_last 13 (62 ∷ xs) ∷ whole_from [] bs) (whole_from (62 ∷ (xs ++ b ∷ [])) bs))
          (cond t (open_from [] bs) (open_from (62 ∷ (xs ++ b ∷ [])) bs))
          ≡ read ∷ ended_from named (cond t (strip_last 13 (62 ∷ xs) ∷ whole_from [] bs) (whole_from (62 ∷ (xs ++ b ∷ [])) bs))
          (cond t (open_from [] bs) (open_from (62 ∷ (xs ++ b ∷ [])) bs))
      go false h = h
      go true h = λ i. given_is (strip_last 13 (62 ∷ xs)) (header_is xs) i ++ ended_from (past_same (strip_last 13 (62 ∷ xs)) (header_is xs) i)
          (whole_from [] bs) (open_from [] bs)

  name_line : (l : List ℕ) (ls : List (List ℕ)) → is_header l ≡ true → reads_from body (l ∷ ls) ≡ with_reads (read ∷ []) (reads_from named (l ∷ ls))
  name_line l ls h =
      (λ i. with_reads (given_is l h i) (reads_from (past_same l h i) ls))
      ∙ ap (with_reads (read ∷ [])) (sym (with_none (reads_from (past named l) ls)))

  pub name_reads : (xs rest : List ℕ) → reads_from body (lines_from (62 ∷ xs) rest) ≡ with_reads (read ∷ []) (reads_from named (lines_from (62 ∷ xs) rest))
  name_reads xs [] = name_line (strip_last 13 (62 ∷ xs)) [] (header_is xs)
  name_reads xs (b ∷ bs) = go (b == 10) (name_reads (xs ++ b ∷ []) bs)
    where
      go : (t : Bool) → reads_from body (lines_from (62 ∷ (xs ++ b ∷ [])) bs) ≡ with_reads (read ∷ []) (reads_from named (lines_from (62 ∷ (xs ++ b ∷ [])) bs))
          → reads_from body (cond t (strip_last 13 (62 ∷ xs) ∷ lines_from [] bs) (lines_from (62 ∷ (xs ++ b ∷ [])) bs))
          ≡ with_reads (read ∷ []) (reads_from named (cond t (strip_last 13 (62 ∷ xs) ∷ lines_from [] bs) (lines_from (62 ∷ (xs ++ b ∷ [])) bs)))
      go false h = h
      go true h = name_line (strip_last 13 (62 ∷ xs)) (lines_from [] bs) (header_is xs)

  pub name_leads : (p : List ℕ) → is_header p ≡ true → HasNoFeed p → Leads (record { number = n; stage = Body; read = read }) [] p (read ∷ [])
      (record { number = n; stage = Name; read = [] }) p
  name_leads [] header unbroken = cc
  name_leads (c ∷ xs) header unbroken =
      let is : c ≡ 62 = grind arith in
      let first : c ∷ xs ≡ 62 ∷ xs = ap (λ t. t ∷ xs) is in
      let from = subst (λ t. Leads body [] t [] body t) first (open_leads body [] (c ∷ xs) unbroken) in
      subst (λ t. Leads body [] t (read ∷ []) named t) (sym first) (record {
        fault = λ rest. from.fault rest ∙ name_fault xs rest;
        ended = λ rest. from.ended rest ∙ name_ended xs rest;
        reads = λ rest. from.reads rest ∙ with_none _ ∙ name_reads xs rest;
      })

pub then_leads : (s t u : Spot) (front left last p q : List ℕ) (more others : List (List ℕ)) → Leads s front p more t left
    → Leads t left q others u last → Leads s front (p ++ q) (more ++ others) u last
then_leads s t u front left last p q more others a b = record {
  fault = λ rest. ap (λ x. fault_from s (whole_from front x)) (append_assoc p q rest) ∙ a.fault (q ++ rest) ∙ b.fault rest;
  ended = λ rest. ap (λ x. ended_from s (whole_from front x) (open_from front x)) (append_assoc p q rest) ∙ a.ended (q ++ rest) ∙ ap (λ x. more ++ x)
      (b.ended rest) ∙ sym (append_assoc more others _);
  reads = λ rest. ap (λ x. reads_from s (lines_from front x)) (append_assoc p q rest) ∙ a.reads (q ++ rest) ∙ ap (with_reads more) (b.reads rest)
      ∙ reads_join more others (reads_from u (lines_from last rest));
}

pub then_faults : (s t : Spot) (front left p q : List ℕ) (more : List (List ℕ)) (e : ReadsError) → Leads s front p more t left → HasFault t left q e
    → HasFault s front (p ++ q) e
then_faults s t front left p q more e a b = λ rest. ap (λ x. fault_from s (whole_from front x)) (append_assoc p q rest) ∙ a.fault (q ++ rest) ∙ b rest

-- a fault stays whatever follows
pub faults_on : (s : Spot) (front p q : List ℕ) (e : ReadsError) → HasFault s front p e → HasFault s front (p ++ q) e
faults_on s front p q e h = λ rest. ap (λ x. fault_from s (whole_from front x)) (append_assoc p q rest) ∙ h (q ++ rest)

-- nothing was gone over yet
pub none_leads : (s : Spot) (front : List ℕ) → Leads s front [] [] s front
none_leads s front = record { fault = λ rest. refl; ended = λ rest. refl; reads = λ rest. sym (with_none (reads_from s (lines_from front rest))) }

pub here : (rows : List (List ℕ)) (s : Spot) (front : List ℕ) (v : Scan) → At rows s front v → Goes rows s front [] v
here rows s front v at = record {
  more = [];
  next = s;
  left = front;
  leads = none_leads s front;
  stands = subst (λ t. At t s front v)
      (sym (append-nil rows)) at;
}

-- one way and then another
pub then_goes : (rows : List (List ℕ)) (s : Spot) (front p q : List ℕ) (v w : Scan) (g : Goes rows s front p v) → Goes
    (rows ++ g.more) g.next g.left q w → Goes rows s front (p ++ q) w
then_goes rows s front p q v w g h = record {
  more = g.more ++ h.more;
  next = h.next;
  left = h.left;
  leads = then_leads s g.next h.next front g.left h.left p q g.more h.more g.leads h.leads;
  stands = subst (λ t. At t h.next h.left w) (append_assoc rows g.more h.more) h.stands;
}

-- the line feed behind it
pub fed : (rows : List (List ℕ)) (s : Spot) (front : List ℕ) (w : Scan) → fault_of s.number s.stage s.read (strip_last 13 front) ≡ None
    → At (rows ++ given_by s.stage s.read (strip_last 13 front)) (past s (strip_last 13 front)) [] w → Goes rows s front (10 ∷ []) w
fed rows s front w fine at = record {
  more = given_by s.stage s.read (strip_last 13 front);
  next = past s (strip_last 13 front);
  left = [];
  leads = feed_leads s front fine;
  stands = at;
}

-- the line, its line feed and what follows make the rest
pub over_split : (over line after rest block : List ℕ) → IsCutOfText rest line after → over ++ rest ≡ block → (over ++ (line ++ 10 ∷ [])) ++ after ≡ block
over_split over line after rest block cut whole =
    append_assoc over (line ++ 10 ∷ []) after ∙ ap (λ (t : List ℕ). over ++ t) (append_assoc line (10 ∷ []) after ∙ sym cut.text_is) ∙ whole

-- what stood at the front stays there
pub take_front : (a b c : List ℕ) → take (length a) b ≡ a → take (length b) c ≡ b → take (length a) c ≡ a
take_front [] b c p q = refl
take_front (x ∷ a) [] c p q = cc
take_front (x ∷ a) (y ∷ b) [] p q = cc
take_front (x ∷ a) (y ∷ b) (z ∷ c) p q =
    let heads : y ≡ x = ap (λ t. get_or t 0 0) p in
    let more : z ≡ y = ap (λ t. get_or t 0 0) q in
    λ i. (more ∙ heads) i ∷ take_front a b c (ap (drop 1) p) (ap (drop 1) q) i

pub take_whole : (xs : List ℕ) → take (length xs) xs ≡ xs
take_whole xs = take_all (length xs) xs (omega arith)
