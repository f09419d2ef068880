use Rattle.std.proofs.Common.{◌≡◌, ◌∷◌, [], ◌+◌, take, drop, get_or, sym, ap, ◌∙◌, arith}
use Rattle.kmc_base.specs.Record.{packed_codes, codes_in}
use Rattle.kmc_base.proofs.Copied.{codes_of_two, front_is}
use Rattle.kmc_base.proofs.copying.last_byte_from.Goals as goal

pub returns : goal.returns
returns c =
    let bytes = c.args.packed.now in
    let i = c.args.i in
    let s = c.args.skipped in
    let whole : packed_codes (take 4 (drop s (codes_in (get_or bytes i 0 ∷ get_or bytes (i + 1) 0 ∷ [])))) ≡ c.four_codes-byte.result ∷ [] =
    ap (λ r. packed_codes (take 4 (drop s (codes_in (get_or bytes i 0 ∷ r ∷ []))))) (sym c.byte_or_zero.ensures) ∙ c.four_codes-byte.ensures in
    ap packed_codes (codes_of_two bytes i s c.args.kept (omega arith) (omega arith) (omega arith))
    ∙ front_is (get_or bytes i 0) (get_or bytes (i + 1) 0) s c.args.kept c.four_codes-byte.result c.requires.skipped c.requires.some c.requires.most whole
