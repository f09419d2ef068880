use Rattle.std.proofs.Common.{◌≡◌, vec_len}
use Rattle.kmc_partqueue.specs.Seats.{IsReaderOf, IsWriterOf}
use Rattle.kmc_partqueue.specs.Gathered.{Pairs, WriterPairs}
use Rattle.kmc_partqueue.proofs.Joining.{Joined}
use Rattle.kmc_partqueue.proofs.lanes.Lanes.join_all.Given as goal

abbrev pub invariant-loop-reader : goal.invariant-loop-reader
invariant-loop-reader g l =
    (l.seat.table_id ≡ l.fn.seat.table_id) × (l.seat.id ≡ l.fn.seat.id) × (l.seat.me.0.writers ≡ l.fn.seat.me.0.writers)
    × Joined (IsReaderOf l.self.table.shared.table_id l.self.shape) Pairs l.fn.seat.me.0.readers l.seat.me.0.readers l.fn.readers.items l.readers.items

abbrev pub decreases-loop-reader : goal.decreases-loop-reader
decreases-loop-reader g l = vec_len l.readers

abbrev pub invariant-loop-writer : goal.invariant-loop-writer
invariant-loop-writer g l = (l.seat.table_id ≡ l.initial.seat.table_id) × (l.seat.id ≡ l.initial.seat.id) × (l.seat.me.0.readers ≡ l.initial.seat.me.0.readers)
    × Joined (IsWriterOf l.self.table.shared.table_id l.self.shape) WriterPairs l.initial.seat.me.0.writers l.seat.me.0.writers l.fn.writers.items l.writers.items

abbrev pub decreases-loop-writer : goal.decreases-loop-writer
decreases-loop-writer g l = vec_len l.writers
