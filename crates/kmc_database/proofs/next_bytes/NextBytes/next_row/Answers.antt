use Rattle.std.proofs.Common.{◌≡◌, length, sym, ap, ◌∙◌, arith, take}
use Rattle.kmc_database.specs.DumpText.{row_in}
use Rattle.kmc_database.specs.LeftOf.{held_of}
use Rattle.kmc_database.specs.Rows.{row_long, row_of}
use Rattle.kmc_database.specs.TakenRow.{pair_of_row}
use Rattle.kmc_database.proofs.NextParts.{front_held}
use Rattle.kmc_database.proofs.Numerals.{short_at}
use Rattle.kmc_database.proofs.RowTold.{long_row, row_there, row_told}
use Rattle.kmc_database.proofs.next_bytes.NextBytes.next_row.Goals as goal

pub returns-then-not-branch-clause-told : goal.returns-then-not-branch-clause-told
returns-then-not-branch-clause-told g c = λ bytes known.
    let l = c.args.layout.now in
    let row = row_in l c.args.part bytes in
    let short = c.in_ok-fill.ensures.short c.if-not-branch.true in
    short_at bytes (row_of l (pair_of_row l row)) (omega (arith, short.0, ap length (short.1 bytes known), long_row l c.requires.layout row))

pub returns-clause-told : goal.returns-clause-told
returns-clause-told g c = λ bytes known.
    let l = c.args.layout.now in
    let row = c.row_at.result in
    let held = held_of c.fill.new.self in
    let there = c.in_ok-fill.ensures.there c.if-not-branch.false in
    let front : take (row_long l) bytes ≡ row_of l (pair_of_row l row) =
    front_held held (g.R.Read.remaining c.fill.new.self.reader) bytes known (row_long l) there
    ∙ ap (take (row_long l)) (sym c.held.ensures) ∙ c.row_at.ensures.is in (
      row_told l c.requires.layout c.args.part row bytes front c.row_at.ensures.part c.row_at.ensures.fits c.row_at.ensures.count,
      row_there l c.requires.layout c.args.part row bytes front,
    )
