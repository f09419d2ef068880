-- What a splitter is given, and what it hands back.
use Rattle.std.specs.Prelude.{◌≡◌, ℕ, ◌+◌, ◌-◌, ◌/◌, List, [], length}
use Rattle.kmc_record.specs.Shapes.{Sizes}
use Rattle.kmc_record.specs.Parts.{Parcel}
use Rattle.kmc_partcore.specs.declared.shape.QueueShape.{QueueShape}
use Rattle.atomic_table.specs.Seated.{TableId}
use Rattle.kmc_partqueue.specs.Seats.{WriterState, IsWriterOf}
use Rattle.kmc_partqueue.specs.SameSeats.{IsSameWriter}
use Rattle.kmc_store.specs.Deals.{AreDealt}

-- into how many chunks so many reads are cut
abbrev pub chunks_of : ℕ → ℕ → ℕ
chunks_of batch n = (n + batch - 1) / batch

-- a seat of the queue that has put nothing
abbrev pub IsFreshWriter : TableId → QueueShape → WriterState Parcel → Type 0
IsFreshWriter id q s = IsWriterOf id q s × (s.sent ≡ [])

-- the seat is back, completed, and has put the parts of its chunks, which are those dealt to its number
pub record IsDone (shape : Sizes) (batch : ℕ) (reads : List (List ℕ)) (sp : ℕ) (s d : WriterState Parcel) : Type 0 where
  pub seat : IsSameWriter s d
  pub sent : AreDealt shape batch reads sp s.number (chunks_of batch (length reads)) d.sent
