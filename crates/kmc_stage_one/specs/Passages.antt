-- How parts came from reads to bins.
use Rattle.std.specs.Prelude.{◌≡◌, ℕ, ◌<◌, List, Some, length, slice_get}
use Rattle.std.specs.List.{flat_map}
use Rattle.kmc_record.specs.Shapes.{Sizes}
use Rattle.kmc_record.specs.Parts.{Parcel}
use Rattle.kmc_partcore.specs.History.{History}
use Rattle.kmc_partcore.specs.declared.shape.QueueShape.{QueueShape}
use Rattle.kmc_partqueue.specs.Counts.{Each, total_of, same}
use Rattle.kmc_partqueue.specs.Seats.{WriterState, ReaderState}
use Rattle.kmc_partqueue.specs.Gathered.{IsGathered}
use Rattle.kmc_partqueue.specs.Told.{IsHistoryOf}
use Rattle.kmc_store.specs.Bodies.{AreAdded}
use Rattle.kmc_store.specs.Deals.{AreDealt}
use Rattle.kmc_partqueue.specs.SameSeats.{items_of}
use Rattle.kmc_stage_one.specs.Splitters.{chunks_of}

-- a legal history of the queue tells how the parts came to the bins: each writer put the parts of its chunks, which all
-- left, each to one reader, and what the readers took is added to the bins as they were before; the totals are how many
-- parts each writer put
pub record IsPassage (shape : Sizes) (batch : ℕ) (reads : List (List ℕ)) (q : QueueShape) (before bodies : List (List ℕ)) (totals : List ℕ) : Type 0 where
  pub writers : List (WriterState Parcel)
  pub readers : List (ReaderState Parcel)
  pub history : History Parcel
  pub told : IsHistoryOf q writers readers history
  pub dealt : Each (λ (s : WriterState Parcel). AreDealt shape batch reads q.writers s.number (chunks_of batch (length reads)) s.sent) writers
  pub every_writer : (w : ℕ) → w < q.writers → total_of (λ (s : WriterState Parcel). same s.number w) writers ≡ 1
  pub every_reader : (r : ℕ) → r < q.readers → total_of (λ (s : ReaderState Parcel). same s.number r) readers ≡ 1
  pub gathered : IsGathered writers readers
  pub counted : (length totals ≡ q.writers) × Each (λ (s : WriterState Parcel). slice_get totals s.number ≡ Some (length s.sent)) writers
  pub stored : AreAdded shape before bodies (flat_map (λ (s : ReaderState Parcel). items_of s.got) readers)
