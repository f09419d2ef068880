use Rattle.std.proofs.Common.{reverse, ap, ◌∙◌, arith}
use Rattle.std.proofs.lemmas.List.{length-reverse}
use Rattle.kmc_base.specs.Packed.{pack}
use Rattle.kmc_base.specs.Lemmas.NumberBytes.{number_low_first}
use Rattle.kmc_base.specs.Lemmas.Spelled.{bytes_each}
use Rattle.kmc_record.proofs.Bytewise.{parts_turned, codes_turned, bytes_reverse}
use Rattle.kmc_record.proofs.packed.other_strand.Goals as goal

pub returns : goal.returns
returns c =
    let bs = c.args.bytes.now in
    let all =
    parts_turned (reverse bs) (length-reverse bs ∙ c.told-bytes) (bytes_reverse bs (bytes_each bs c.fits-bytes)) c.from_le_bytes-back.result
    (c.from_le_bytes-back.ensures ∙ number_low_first bs c.told-bytes) in
    omega (arith, all, ap pack (codes_turned bs))
