-- Seats of a queue before and after parts were put or taken.
use Rattle.std.specs.Prelude.{◌≡◌, List, map}
use Rattle.kmc_partcore.specs.declared.event.Received.{Received}
use Rattle.kmc_partqueue.specs.Seats.{WriterState, ReaderState}

-- the parts that a reader got, in order
abbrev pub items_of : {T : Type 0} → List (Received T) → List T
items_of {T} got = map (λ (e : Received T). e.item) got

-- the seat is the same one
pub record IsSameWriter {T : Type 0} (s r : WriterState T) : Type 0 where
  pub table : r.table ≡ s.table
  pub number : r.number ≡ s.number
  pub per_writer : r.per_writer ≡ s.per_writer

pub record IsSameReader {T : Type 0} (s r : ReaderState T) : Type 0 where
  pub table : r.table ≡ s.table
  pub number : r.number ≡ s.number
  pub per_writer : r.per_writer ≡ s.per_writer
  pub writers : r.writers ≡ s.writers
