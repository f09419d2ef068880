use Rattle.std.proofs.Common.{sym, ap, ◌∙◌, arith}
use Rattle.kmc_database.specs.LeftOf.{held_of}
use Rattle.kmc_database.specs.Numbers.{low_first}
use Rattle.kmc_database.specs.Numerals.{has_at}
use Rattle.kmc_database.specs.Lemmas.Bytes.{length_low}
use Rattle.kmc_database.proofs.NextParts.{begins_as, short_number}
use Rattle.kmc_database.proofs.next_bytes.NextBytes.begins_with.Goals as goal

pub returns-then-not-branch-clause-told : goal.returns-then-not-branch-clause-told
returns-then-not-branch-clause-told g c = λ bytes known.
    let short = c.in_ok-fill.ensures.short c.if-not-branch.true in
    sym (short_number (held_of c.fill.new.self) bytes (short.1 bytes known) 4 c.args.marker short.0)

pub returns-clause-told : goal.returns-clause-told
returns-clause-told g c = λ bytes known.
    let held = held_of c.fill.new.self in
    let part = low_first 4 c.args.marker in
    let there = c.in_ok-fill.ensures.there c.if-not-branch.false in
    c.has_number.ensures ∙ ap (λ t. has_at t 0 part) c.held.ensures
    ∙ begins_as held (g.R.Read.remaining c.fill.new.self.reader) bytes known part (omega (arith, there, length_low 4 c.args.marker))
