use Rattle.std.proofs.Common.{◌≡◌, ◌-◌, ◌/◌, length, take, subst, ◌∙◌, arith}
use Rattle.std.proofs.lemmas.List.{length-take-le}
use Rattle.std.specs.Int.{bytes_high_first}
use Rattle.kmc_database.proofs.RowBytes.{row_whole}
use Rattle.kmc_database.specs.Lemmas.Words.{part_is}
use Rattle.kmc_database.proofs.row_reading.row_at.Goals as goal

pub returns-clause-part : goal.returns-clause-part
returns-clause-part c =
    part_is c.args.layout.now c.requires.layout c.word_at.result c.word_at.ensures.fits ∙ c.word_at.ensures.part

pub returns-clause-is : goal.returns-clause-is
returns-clause-is c =
    let l = c.args.layout.now in
    let bytes = c.args.bytes.now in
    let s = (l.k - l.prefix) / 4 in
    let long : length (take s bytes) ≡ s = length-take-le s bytes (omega (arith, c.requires.inside)) in
    row_whole l c.requires.layout c.word_at.result c.number_at.result bytes
    (subst (λ (i : _). bytes_high_first i c.word_at.result ≡ take s bytes) long c.word_at.ensures.rest) c.number_at.ensures.bytes
