-- What a feeder's standing says, and how it moves.
use Rattle.std.proofs.Common.{◌≡◌, ℕ, List, [], ◌++◌, Option, Some, None, sym, ap, subst, ◌∙◌, append_assoc, append-nil}
use Rattle.kmc_reads.specs.declared.error.ReadsError.{ReadsError}
use Rattle.kmc_reads.specs.declared.format.Format.{Format}
use Rattle.kmc_reads.specs.OpenLines.{whole_from, open_from}
use Rattle.kmc_reads.specs.Stages.{first_spot, fault, fault_from, ended, ended_from}
use Rattle.kmc_reads.specs.Standing.{FeederState, Stands, LeadsBy, Goes, Hands, HasFault, At}
use Rattle.kmc_reads.proofs.HandedBy.{as_by, then_by, fault_by}

-- the reads that have ended, where all were handed out whole
pub ended_are : (format : Format) (text : List ℕ) (taken : List (List ℕ)) (v : FeederState) (s : Stands None format text taken v)
    → ended format text ≡ taken ++ s.rows
ended_are format text taken v s =
    ap (λ t. ended_from (first_spot format) (whole_from [] t) (open_from [] t)) (sym (append-nil text)) ∙ s.leads.ended []
    ∙ ap (λ (t : List (List ℕ)). (taken ++ s.rows) ++ t) s.stands.settled ∙ append-nil (taken ++ s.rows)

module _ (cut : Option ℕ) (format : Format) (text : List ℕ) (taken : List (List ℕ)) (v : FeederState) (s : Stands cut format text taken v) where
  goes_to : (rest : List ℕ) → fault_from (first_spot format) (whole_from [] (text ++ rest)) ≡ fault_from s.spot (whole_from s.front rest)
  goes_to = fault_by cut (first_spot format) s.spot [] s.front text (taken ++ s.rows) s.leads

  -- the text has no fault so far
  pub no_fault : fault format text ≡ None
  no_fault = ap (λ t. fault_from (first_spot format) (whole_from [] t)) (sym (append-nil text)) ∙ goes_to []

  -- it went over a block
  pub goes_on : (block : List ℕ) (w : FeederState) → Goes s.rows s.spot s.front block w.scan → w.refusal ≡ None → Stands cut format (text ++ block) taken w
  goes_on block w g sound = record {
    rows = s.rows ++ g.more;
    spot = g.next;
    front = g.left;
    leads = subst (λ t. LeadsBy cut (first_spot format) [] (text ++ block) t g.next g.left) (append_assoc taken s.rows g.more)
        (then_by cut (first_spot format) s.spot g.next [] s.front g.left text block (taken ++ s.rows) g.more s.leads
        (as_by cut s.spot g.next s.front g.left block g.more g.leads));
    stands = g.stands;
    sound = sound;
  }

  -- it met a fault
  pub meets_fault : (block : List ℕ) (e : ReadsError) → HasFault s.spot s.front block e → fault format (text ++ block) ≡ Some e
  meets_fault block e h = goes_to block ∙ ap (λ t. fault_from s.spot (whole_from s.front t)) (sym (append-nil block)) ∙ h []

  -- its rows were taken
  pub rows_taken : (reads : List (List ℕ)) (w : FeederState) → reads ≡ s.rows → At [] s.spot s.front w.scan → w.refusal ≡ None
      → Stands cut format text (taken ++ reads) w
  rows_taken reads w are at sound = record {
    rows = [];
    spot = s.spot;
    front = s.front;
    leads = subst (λ t. LeadsBy cut (first_spot format) [] text t s.spot s.front)
        (ap (λ (t : List (List ℕ)). taken ++ t) (sym are) ∙ sym (append-nil (taken ++ reads))) s.leads;
    stands = at;
    sound = sound;
  }

-- it handed out its rows and what it could of the open read
pub pieces_taken : (overlap : ℕ) (format : Format) (text : List ℕ) (taken : List (List ℕ)) (v : FeederState) (s : Stands (Some overlap) format text taken v)
    (reads : List (List ℕ)) (w : FeederState)
    → Hands overlap s.rows s.spot s.front reads w.scan → w.refusal ≡ None → Stands (Some overlap) format text (taken ++ reads) w
pieces_taken overlap format text taken v s reads w h sound =
    let all : (taken ++ s.rows) ++ h.more ≡ (taken ++ reads) ++ [] = append_assoc taken s.rows h.more ∙ ap (λ (t : List (List ℕ)). taken ++ t)
    (sym h.given) ∙ sym (append-nil (taken ++ reads)) in
    let leads = then_by (Some overlap) (first_spot format) s.spot h.next [] s.front h.left text [] (taken ++ s.rows) h.more s.leads h.leads in
    record {
      rows = [];
      spot = h.next;
      front = h.left;
      leads = subst (λ t. LeadsBy (Some overlap) (first_spot format) [] t ((taken ++ reads) ++ []) h.next h.left) (append-nil text)
          (subst (λ t. LeadsBy (Some overlap) (first_spot format) [] (text ++ []) t h.next h.left) all leads);
      stands = h.stands;
      sound = sound;
    }
