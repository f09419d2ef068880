use Rattle.std.proofs.Common.{◌∙◌, arith}
use Rattle.kmc_base.specs.Record.{codes_in}
use Rattle.kmc_base.specs.Lemmas.Codes.{are_codes, length_codes}
use Rattle.kmc_base.specs.Lemmas.NumberBytes.{number_of_bytes}
use Rattle.kmc_base.specs.Lemmas.Spelled.{bytes_each}
use Rattle.kmc_base.proofs.Shifted.{bytes_begin}
use Rattle.kmc_base.proofs.copying.moved_codes.Goals as goal

pub returns : goal.returns
returns c =
    let bytes = c.args.bytes.now in
    bytes_begin (codes_in bytes) (are_codes bytes) (omega (arith, length_codes bytes, c.told-bytes)) c.args.skipped c.args.symbols c.requires.some
    c.requires.inside c.from_be_bytes.result
    (c.from_be_bytes.ensures ∙ number_of_bytes bytes c.told-bytes (bytes_each bytes c.fits-bytes))
