use Rattle.std.proofs.Common.{sym}
use Rattle.kmc_database.proofs.Numerals.{number_there}
use Rattle.kmc_database.proofs.next_parts.has_number.Goals as goal

pub returns : goal.returns
returns c =
    sym
    (number_there c.args.bytes.now c.args.place c.args.size c.number_at.result c.args.number c.number_at.ensures.fits c.requires.fits
    c.number_at.ensures.bytes)
