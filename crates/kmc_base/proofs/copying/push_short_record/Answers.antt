use Rattle.std.proofs.Common.{◌≡◌, ◌-◌, List, [], ◌++◌, ◌∷◌, ℕ, length, take, ap, ◌∙◌, append_assoc, arith, rules, vec_len}
use Rattle.std.specs.Int.{bytes_high_first}
use Rattle.kmc_base.specs.Words.{window}
use Rattle.kmc_base.specs.Record.{codes_in, size_of}
use Rattle.kmc_base.specs.Lemmas.Windows.{length_window}
use Rattle.kmc_base.specs.Lemmas.Codes.{length_codes}
use Rattle.kmc_base.proofs.Copied.{record_kept}
use Rattle.kmc_base.proofs.Halves.{of_halves}
use Rattle.kmc_base.proofs.copying.push_short_record.Goals as goal

pub returns-clause-ok : goal.returns-clause-ok
returns-clause-ok c =
    let old = c.args.out.now.items in
    let n = c.args.symbols in
    let w = window n (codes_in c.args.bytes.now) c.args.skipped in
    let counted : vec_len c.args.out.now ≡ length old = search rules in
    let long : length w ≡ n = length_window n c.args.skipped (codes_in c.args.bytes.now) (omega (arith, length_codes c.args.bytes.now, c.told-bytes)) in
    let count : n - c.args.k ≡ length w - c.args.k = omega (arith, long) in
    let high = c.to_be_bytes.result in
    let low = c.to_be_bytes-2.result in
    let pushed = c.push_reserved.new.self.items in
    let number = c.moved_codes-codes.result in
    let both : high ++ low ≡ bytes_high_first 16 number = (λ i. c.to_be_bytes.ensures i ++ c.to_be_bytes-2.ensures i) ∙ of_halves number in
    let all : c.extend_from_slice-2.new.self.items ≡ pushed ++ (high ++ low) =
    c.in_ok-extend_from_slice-2.ensures.items ∙ ap (λ (t : List ℕ). t ++ low) c.in_ok-extend_from_slice.ensures.items ∙ append_assoc pushed high low in
    record_kept old pushed c.extend_from_slice-2.new.self.items (high ++ low) _ (n - c.args.k) (size_of n) _
    (c.push_reserved.ensures.items ∙ ap (λ (t : List ℕ). t ++ (n - c.args.k) ∷ []) c.in_ok-reserve.ensures.items)
    all (omega (arith, counted, c.len.ensures, c.in_ok-reserve.ensures.len)) c.truncate.ensures.items
    ∙ (λ i. old ++ count i ∷ (ap (take (size_of n)) both ∙ c.moved_codes-codes.ensures) i)
