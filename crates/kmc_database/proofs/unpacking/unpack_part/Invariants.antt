use Rattle.std.proofs.Common.{◌≡◌, ◌+◌, List, ℕ, Option}
use Rattle.kmc_sum.specs.Source.{IsRoom, unread}
use Rattle.kmc_database.specs.Given.{EndsAt, Starts}
use Rattle.kmc_database.specs.UnpackState.{IsUnpackedSoFar}
use Rattle.kmc_database.proofs.unpacking.unpack_part.Given as goal

-- the rows so far are read and their lines put
abbrev pub invariant-loop-row : goal.invariant-loop-row
invariant-loop-row g l = record {
  room : IsRoom l.room;
  read : l.reader.failures ≡ l.initial.reader.failures;
  kept : l.writer.failures ≡ l.initial.writer.failures;
  so : (s : Starts) (p : Option (List ℕ)) (tr : List ℕ)
      → IsUnpackedSoFar l.header.layout s (l.number + 1) (l.number + 1) p tr (g.R.Read.remaining l.initial.reader.inner) (unread l.initial.room)
      (g.W.Write.contents l.initial.writer.inner) l.initial.buffer l.from l.initial.above
      → EndsAt l.header.layout l.header.rows l.number l.to tr
      → IsUnpackedSoFar l.header.layout s (l.number + 1) (l.number + 1) p tr (g.R.Read.remaining l.reader.inner) (unread l.room)
      (g.W.Write.contents l.writer.inner) l.buffer l.row l.above;
}
