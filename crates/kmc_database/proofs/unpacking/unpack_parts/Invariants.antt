use Rattle.std.proofs.Common.{◌≡◌, ◌≤◌, ◌+◌}
use Rattle.kmc_sum.specs.Source.{IsRoom, unread}
use Rattle.kmc_database.specs.Given.{Starts}
use Rattle.kmc_database.specs.UnpackState.{IsUnpackedSoFar}
use Rattle.kmc_database.proofs.unpacking.unpack_parts.Given as goal

-- the rows of the first parts so far are read and written
abbrev pub invariant-loop-number : goal.invariant-loop-number
invariant-loop-number g l = record {
  table : IsRoom l.table;
  body : IsRoom l.body;
  prefix : l.prefix.failures ≡ l.initial.prefix.failures;
  suffix : l.suffix.failures ≡ l.initial.suffix.failures;
  kept : l.writer.failures ≡ l.initial.writer.failures;
  few : l.row ≤ l.header.rows;
  so : (s : Starts)
      → IsUnpackedSoFar l.header.layout s 1 0 (g.R.Read.remaining l.initial.prefix.inner) (unread l.initial.table)
      (g.R.Read.remaining l.initial.suffix.inner) (unread l.initial.body) (g.W.Write.contents l.initial.writer.inner) l.initial.buffer
      l.initial.row l.initial.last
      → IsUnpackedSoFar l.header.layout s (l.number + 1) l.number (g.R.Read.remaining l.prefix.inner) (unread l.table)
      (g.R.Read.remaining l.suffix.inner) (unread l.body) (g.W.Write.contents l.writer.inner) l.buffer l.row l.last;
}
