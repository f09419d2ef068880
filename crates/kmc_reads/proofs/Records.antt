-- Whole lines of a FASTQ record.
use Rattle.std.proofs.Common.{◌≡◌, ◌-◌, ℕ, cond, List, [], ◌∷◌, ◌++◌, length, refl, sym, ap, subst, ◌∙◌, arith, append_assoc, append-nil, length-append, eq-eqb, Some, None}
use Rattle.std.specs.List.{concat}
use Rattle.std.specs.Io.BufRead.{strip_last}
use Rattle.kmc_reads.specs.declared.scan.Scan.{Scan}
use Rattle.kmc_reads.specs.declared.error.ReadsError.{ReadsError}
use Rattle.kmc_reads.specs.declared.error.ReadsError.TheVariants.{QualityLength}
use Rattle.kmc_reads.specs.declared.line_kind.LineKind.{LineKind}
use Rattle.kmc_reads.specs.declared.line_kind.LineKind.TheVariants.{Header, Sequence, Plus, Quality, FirstHeader, Body, Name, Rest}
use Rattle.kmc_reads.specs.Lines.{line_past}
use Rattle.kmc_reads.specs.Stages.{Spot, past, given_by, fault_of}
use Rattle.kmc_reads.specs.Standing.{At, Goes, Leads, HasFault, HasNoFeed, kept}
use Rattle.kmc_reads.specs.Records.{TookLine}
use Rattle.kmc_reads.proofs.Walking.{open_leads, feed_leads, then_leads, feed_faults, then_faults}

-- of an empty line nothing is kept
pub none_kept : (st : LineKind) → kept st [] ≡ []
none_kept Header = refl
none_kept Sequence = refl
none_kept Plus = refl
none_kept Quality = refl
none_kept FirstHeader = refl
none_kept Body = refl
none_kept Name = refl
none_kept Rest = refl

-- symbols go onto the open read
pub more_bytes : (a read content rest : List ℕ) → rest ≡ [] → (a ++ (read ++ rest)) ++ content ≡ a ++ ((read ++ content) ++ rest)
more_bytes a read content rest none =
    (λ i. (a ++ (read ++ none i)) ++ content) ∙ ap (λ (t : List ℕ). (a ++ t) ++ content) (append-nil read) ∙ append_assoc a read content
    ∙ ap (λ (t : List ℕ). a ++ t) (sym (append-nil (read ++ content)) ∙ ap (λ (t : List ℕ). (read ++ content) ++ t) (sym none))

-- how long it is
pub open_length : (rows : List (List ℕ)) (read rest bytes : List ℕ) (start : ℕ) → rest ≡ [] → bytes ≡ concat rows ++ (read ++ rest)
    → start ≡ length (concat rows) → length bytes - start ≡ length read
open_length rows read rest bytes start none is from =
    omega (arith, ap length is, length-append (concat rows) (read ++ rest), length-append read rest, ap length none, from)

module _ (rows : List (List ℕ)) (s : Spot) (v : Scan) where
  -- the same spot, by its stage
  at_stage : (st : LineKind) (line : List ℕ) → s.stage ≡ st → TookLine rows (record { number = s.number; stage = st; read = s.read }) line v
      → TookLine rows s line v
  at_stage st line is h = subst (λ t. TookLine rows (record { number = s.number; stage = t; read = s.read }) line v) (sym is) h

  none_given : (t : Spot) → At rows t [] v → At (rows ++ []) t [] v
  none_given t at = subst (λ r. At r t [] v) (sym (append-nil rows)) at

  pub took_sequence : (line : List ℕ) → s.stage ≡ Sequence
      → At rows (record { number = line_past s.number 1; stage = Plus; read = s.read ++ line }) [] v → TookLine rows s line v
  took_sequence line is at = at_stage Sequence line is (record { fine = refl; stands = none_given _ at })

  pub took_quality : (line : List ℕ) → s.stage ≡ Quality → length line ≡ length s.read
      → At (rows ++ s.read ∷ []) (record { number = line_past s.number 1; stage = Header; read = [] }) [] v → TookLine rows s line v
  took_quality line is long at = at_stage Quality line is
      (record { fine = ap (λ b. cond b None (Some (QualityLength s.number))) (eq-eqb (length line) (length s.read) long); stands = at })

-- such a line, of which nothing came before, and its line feed
module _ (rows : List (List ℕ)) (s : Spot) (front line content : List ℕ) (empty : front ≡ []) (is : content ≡ strip_last 13 line) (unbroken : HasNoFeed line) where
  pub took_goes : (v : Scan) → TookLine rows s content v → Goes rows s front (line ++ 10 ∷ []) v
  took_goes v took =
      let given = given_by s.stage s.read content in let next = past s content in
      let fine : fault_of s.number s.stage s.read (strip_last 13 line) ≡ None = ap (fault_of s.number s.stage s.read) (sym is) ∙ took.fine in
      let fed = subst (λ t. Leads s line (10 ∷ []) (given_by s.stage s.read t) (past s t) []) (sym is) (feed_leads s line fine) in
      subst (λ t. Goes rows s t (line ++ 10 ∷ []) v) (sym empty) (record {
        more = given;
        next = next;
        left = [];
        leads = then_leads s s next [] line [] line (10 ∷ []) [] given (open_leads s [] line unbroken) fed;
        stands = took.stands;
      })

  pub took_faults : (e : ReadsError) → fault_of s.number s.stage s.read content ≡ Some e → HasFault s front (line ++ 10 ∷ []) e
  took_faults e faulty =
      subst (λ t. HasFault s t (line ++ 10 ∷ []) e) (sym empty)
      (then_faults s s [] line line (10 ∷ []) [] e (open_leads s [] line unbroken)
      (feed_faults s line e (ap (fault_of s.number s.stage s.read) (sym is) ∙ faulty)))
