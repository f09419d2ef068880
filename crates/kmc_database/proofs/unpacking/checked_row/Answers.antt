use Rattle.std.proofs.Common.{◌<◌, ◌≤◌, ◌++◌, arith}
use Rattle.kmc_sum.specs.Source.{unread}
use Rattle.kmc_database.specs.Rows.{row_of}
use Rattle.kmc_database.specs.TakenRow.{pair_of_row}
use Rattle.kmc_database.proofs.RowExits.{read_on, row_cut, row_falls, row_has_none, row_read}
use Rattle.kmc_database.proofs.unpacking.checked_row.Goals.{else-rows-gt0-via-then-rows-gt0+else-row-last, else-rows-gt0-via-else-rows-gt0}
use Rattle.kmc_database.proofs.unpacking.checked_row.Goals as goal

pub returns-then-row-last-clause-cause : goal.returns-then-row-last-clause-cause
returns-then-row-last-clause-cause g c = λ s p tr pairs b.
    let h = c.args.header.now in
    let row = c.in-Ok-Some.row in
    let taken = rw c.in-Ok-Some.field-0-is at c.in-Ok-Some.ensures.ok in
    record {
      rest = row_of h.layout (pair_of_row h.layout row) ++ unread c.next_row.new.room;
      given = read_on h s c.args.part p tr _ _ _ c.args.rows c.args.last pairs b _ taken.goes;
      cause = λ first prefix writer. (
        row_falls h s c.args.part p tr _ _ _ c.args.rows c.args.last pairs b _ row taken (omega (arith, c.if-rows-gt0.true)) c.if-row-last.true,
        λ i. record { first = first; prefix = prefix; suffix = c.in-Ok-Some.ensures.kept i; writer = writer },
      );
    }

pub returns-then-row-eq0-clause-cause : goal.returns-then-row-eq0-clause-cause
returns-then-row-eq0-clause-cause g c = λ s p tr pairs b.
    let h = c.args.header.now in
    let row = c.in-Ok-Some.row in
    let taken = rw c.in-Ok-Some.field-0-is at c.in-Ok-Some.ensures.ok in
    record {
      rest = row_of h.layout (pair_of_row h.layout row) ++ unread c.next_row.new.room;
      given = read_on h s c.args.part p tr _ _ _ c.args.rows c.args.last pairs b _ taken.goes;
      cause = λ first prefix writer. (
        row_has_none h s c.args.part p tr _ _ _ c.args.rows c.args.last pairs b _ row taken c.if-row-eq0.true,
        λ i. record { first = first; prefix = prefix; suffix = c.in-Ok-Some.ensures.kept i; writer = writer },
      );
    }

pub returns-else-row-eq0-clause-ok : goal.returns-else-row-eq0-clause-ok
returns-else-row-eq0-clause-ok g c = λ s p tr pairs b.
    let h = c.args.header.now in
    let row = c.in-Ok-Some.row in
    let taken = rw c.in-Ok-Some.field-0-is at c.in-Ok-Some.ensures.ok in
    let above : 1 ≤ c.args.rows → c.args.last < row.packed = λ some. elim c.else-rows-gt0.branch [
      | else-rows-gt0-via-then-rows-gt0+else-row-last w ↦ omega (arith, w.if-row-last.false)
      | else-rows-gt0-via-else-rows-gt0 w ↦ absurd (omega (arith, w.if-rows-gt0.false, some))
    ] in
    row_read h s c.args.part p tr _ _ _ c.args.rows c.args.last pairs b _ row taken c.requires.layout above (omega (arith, c.if-row-eq0.false))

pub returns-in-Ok-None-clause-cause : goal.returns-in-Ok-None-clause-cause
returns-in-Ok-None-clause-cause g c = λ s p tr pairs b.
    let h = c.args.header.now in
    let end = rw c.in-Ok-None.field-0-is at c.in-Ok-None.ensures.ok in
    record {
      rest = unread c.next_row.new.room;
      given = read_on h s c.args.part p tr _ _ _ c.args.rows c.args.last pairs b _ end.0;
      cause = λ first prefix writer.
          let cut = row_cut h s c.args.part p tr _ _ _ c.args.rows c.args.last pairs b _ end.0 end.1 end.2 in (
            cut.0,
            cut.1,
            cut.2,
            λ i. record { first = first; prefix = prefix; suffix = c.in-Ok-None.ensures.kept i; writer = writer },
          );
    }
