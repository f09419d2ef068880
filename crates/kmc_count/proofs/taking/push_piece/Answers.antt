use Rattle.std.proofs.Common.{◌≡◌, ℕ, List, length, take, sym, subst, ◌∙◌, arith}
use Rattle.std.proofs.lemmas.List.{length-take-le}
use Rattle.kmc_base.specs.Record.{codes_in}
use Rattle.kmc_record.specs.RecordKeys.{GainsWords}
use Rattle.kmc_base.specs.Lemmas.Codes.{length_codes}
use Rattle.kmc_record.specs.Lemmas.Taken.{gains_key}
use Rattle.kmc_count.proofs.Pieces.{front_is_record}
use Rattle.kmc_count.proofs.taking.push_piece.Goals as goal

pub returns : goal.returns
returns c =
    let rule = c.args.rule in
    let bs = c.args.bytes.now in
    let n = c.args.symbols in
    let s : List ℕ = take n (codes_in bs) in
    let long : length s ≡ n = length-take-le n (codes_in bs) (omega (arith, length_codes bs, c.requires.inside)) in
    subst (λ (ns : List ℕ). GainsWords rule.strands rule.k c.args.numbers.now.items ns s) (sym c.in_ok-push.ensures.items)
    (gains_key rule.strands rule.k c.args.numbers.now.items s c.record_key.result
    (front_is_record rule.k n bs c.requires.long c.requires.inside)
    (c.record_key.ensures.symbols ∙ sym long) c.record_key.ensures.codes)
