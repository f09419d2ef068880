use Rattle.std.proofs.Common.{ap, ◌∙◌, take}
use Rattle.kmc_database.specs.LeftOf.{held_of}
use Rattle.kmc_database.specs.Numerals.{low_number}
use Rattle.kmc_database.proofs.NextParts.{entry_told, short_number}
use Rattle.kmc_database.proofs.next_bytes.NextBytes.next_entry.Goals as goal

pub returns-then-not-branch-clause-told : goal.returns-then-not-branch-clause-told
returns-then-not-branch-clause-told g c = λ bytes known.
    let short = c.in_ok-fill.ensures.short c.if-not-branch.true in
    short_number (held_of c.fill.new.self) bytes (short.1 bytes known) 8 (low_number (take 8 bytes)) short.0

pub returns-clause-told : goal.returns-clause-told
returns-clause-told g c = λ bytes known.
    let there = c.in_ok-fill.ensures.there c.if-not-branch.false in
    entry_told (held_of c.fill.new.self) (g.R.Read.remaining c.fill.new.self.reader) bytes known c.number_at.result there c.number_at.ensures.fits
    (c.number_at.ensures.bytes ∙ ap (take 8) c.held.ensures)
