use Rattle.std.proofs.Common.{◌≡◌, ℕ, ◌+◌, []}
use Rattle.kmc_partqueue.specs.Seats.{new_writer}
use Rattle.kmc_partqueue.specs.Dealing.{row_from, fresh_writer, fresh_reader}
use Rattle.kmc_partqueue.proofs.lanes.Lanes.deal_writers.Given as goal

abbrev pub invariant-loop-number : goal.invariant-loop-number
invariant-loop-number g l = (l.seat.table_id ≡ l.self.table.shared.table_id)
    × ((left : ℕ) × (l.number + left ≡ l.self.shape.writers) × (l.seat.me
    ≡ (
      record {
        writers = row_from (fresh_writer l.self.table.shared.key) l.number left;
        readers = row_from
            (fresh_reader l.self.table.shared.key) 0 l.self.shape.readers;
      },
      [],
    )))
    × (l.seats.items ≡ row_from (new_writer l.self.table.shared.table_id l.self.shape) 0 l.number)
