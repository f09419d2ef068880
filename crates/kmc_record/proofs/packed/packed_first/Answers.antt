use Rattle.std.proofs.Common.{◌≡◌, ◌-◌, ◌*◌, ◌/◌, ◌%◌, ◌^◌, length, ap, ◌∙◌, arith}
use Rattle.kmc_base.specs.Strands.{packed_key}
use Rattle.kmc_base.specs.Record.{codes_in}
use Rattle.kmc_base.specs.Lemmas.Codes.{are_codes, length_codes}
use Rattle.kmc_base.specs.Lemmas.NumberBytes.{number_of_bytes}
use Rattle.kmc_base.specs.Lemmas.Spelled.{bytes_each}
use Rattle.kmc_record.proofs.PackedBytes.{front_is, other_is, key_of_both}
use Rattle.kmc_record.proofs.packed.packed_first.Goals as goal

pub returns : goal.returns
returns c =
    let bs = c.args.bytes.now in
    let n = c.args.symbols in
    let shift = 2 ^ (128 - 2 * n) in
    let all : length (codes_in bs) ≡ 64 = omega (arith, length_codes bs, c.told-bytes) in
    let front = ap (λ x. x / shift * shift % 2 ^ 128) (c.from_be_bytes.ensures ∙ number_of_bytes bs c.told-bytes (bytes_each bs c.fits-bytes))
    ∙ front_is (codes_in bs) (are_codes bs) all n c.requires.most in
    let other = ap (λ x. x * shift % 2 ^ 128) c.other_strand.ensures ∙ other_is (codes_in bs) (are_codes bs) all n c.requires.most in
    c.packed_key.ensures ∙ (λ i. packed_key c.args.strands (front i) (other i))
    ∙ key_of_both (codes_in bs) (are_codes bs) all n c.requires.most c.args.strands
