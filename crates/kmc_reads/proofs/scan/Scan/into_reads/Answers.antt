use Rattle.std.proofs.Common.{◌+◌, ◌≤◌, length, sym, ap, subst, ◌∙◌, arith, length-append}
use Rattle.std.specs.List.{concat}
use Rattle.kmc_reads.specs.Rows.{rows_from, AreEnds}
use Rattle.kmc_reads.proofs.Rows.{rows_same, ends_rise}
use Rattle.kmc_reads.proofs.scan.Scan.into_reads.Goals as goal

pub of_rows-requires : goal.of_rows-requires
of_rows-requires c =
    let rows = c.requires.0 in let lies = c.requires.2 in let bytes = c.args.self.bytes.items in
    let within : 0 + length (concat rows) ≤ length bytes = omega (arith, ap length lies.bytes, length-append (concat rows) c.requires.1) in
    subst (λ t. AreEnds 0 t (length bytes)) (sym lies.ends) (ends_rise 0 rows (length bytes) within)

pub returns : goal.returns
returns c = λ rows behind lies. c.of_rows.ensures ∙ (λ i. rows_from 0 (lies.ends i) (lies.bytes i)) ∙ rows_same 0 rows behind
