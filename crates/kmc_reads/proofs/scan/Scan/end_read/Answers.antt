use Rattle.std.proofs.Common.{◌≡◌, ℕ, List, [], ◌++◌, Ok, refl, sym, ap, subst, ◌∙◌, append-nil, rules}
use Rattle.kmc_reads.proofs.Walking.{take_whole}
use Rattle.kmc_reads.specs.declared.scan.Scan.{Scan}
use Rattle.kmc_reads.specs.declared.line_kind.LineKind.{LineKind}
use Rattle.kmc_reads.specs.declared.line_kind.LineKind.TheVariants.{Header, FirstHeader}
use Rattle.kmc_reads.specs.Stages.{Spot, answer_at_end}
use Rattle.kmc_reads.specs.Standing.{At, EndsRead, Lies, kept}
use Rattle.kmc_reads.proofs.scan.Scan.end_read.Goals as goal

-- at a stage that has no read at its end
none_open : (stage : LineKind) → ((n : ℕ) (read : List ℕ) → answer_at_end n stage read ≡ Ok []) → (v : Scan) → v.place.stage ≡ stage
    → (rows : List (List ℕ)) (spot : Spot) → At rows spot [] v → EndsRead rows spot v
none_open stage none v is rows spot at = let k = at.keeps in record {
  more = [];
  answer = ap (λ st. answer_at_end spot.number st spot.read) (sym k.stage ∙ is) ∙ none spot.number spot.read;
  behind = spot.read ++ kept spot.stage [];
  lies = subst (λ t. Lies t (spot.read ++ kept spot.stage []) v) (sym (append-nil rows)) (record { bytes = k.bytes; ends = k.ends });
}

pub returns-in-Header-clause-whole : goal.returns-in-Header-clause-whole
returns-in-Header-clause-whole c = none_open Header (λ n read. refl) c.args.self.now c.in-Header.is

pub returns-in-FirstHeader-clause-whole : goal.returns-in-FirstHeader-clause-whole
returns-in-FirstHeader-clause-whole c = none_open FirstHeader (λ n read. refl) c.args.self.now c.in-FirstHeader.is

pub returns-in-Header-clause-ends : goal.returns-in-Header-clause-ends
returns-in-Header-clause-ends c = take_whole _

pub returns-in-FirstHeader-clause-ends : goal.returns-in-FirstHeader-clause-ends
returns-in-FirstHeader-clause-ends c = take_whole _

pub returns-in-Sequence-clause-ends : goal.returns-in-Sequence-clause-ends
returns-in-Sequence-clause-ends c = take_whole _

pub returns-in-Sequence-clause-refused : goal.returns-in-Sequence-clause-refused
returns-in-Sequence-clause-refused c = search rules
