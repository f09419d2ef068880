-- What storers are given, and what they hand back.
use Rattle.std.specs.Prelude.{◌≡◌, List, [], ◌∷◌, map}
use Rattle.std.specs.List.{flat_map}
use Rattle.kmc_record.specs.Shapes.{Sizes}
use Rattle.kmc_record.specs.Parts.{Parcel}
use Rattle.atomic_table.specs.Seated.{TableId}
use Rattle.kmc_partcore.specs.declared.shape.QueueShape.{QueueShape}
use Rattle.kmc_partqueue.specs.Seats.{ReaderState, AllEnded, IsReaderOf}
use Rattle.kmc_store.specs.Bins.{BinList, empty_bins}
use Rattle.kmc_store.specs.Bodies.{AreAdded}
use Rattle.kmc_partqueue.specs.SameSeats.{items_of, IsSameReader}
use Rattle.kmc_stage_one.specs.declared.shard.Shard.{Shard}

-- a seat of the queue that has got nothing
abbrev pub IsFreshReader : TableId → QueueShape → ReaderState Parcel → Type 0
IsFreshReader id q s = IsReaderOf id q s × (s.got ≡ [])

-- the seats with bins: the first goes on with those that there are, each other has empty ones
abbrev pub begun : BinList → List (ReaderState Parcel) → List Shard
begun bins [] = []
begun bins (s ∷ seats) = record { seat = s; bins = bins } ∷ map (λ t. record { seat = t; bins = empty_bins bins.shape }) seats

-- a storer's seat has got nothing, and its bins have this shape
abbrev pub IsFreshShard : TableId → QueueShape → Sizes → Shard → Type 0
IsFreshShard id q shape h = IsFreshReader id q h.seat × (h.bins.shape ≡ shape)

-- the seat is back, told that the queue is finished, and to its bins the parts that it got are added, in their order
pub record IsShard (s h : Shard) : Type 0 where
  pub seat : IsSameReader s.seat h.seat
  pub ended : AllEnded h.seat.writers h.seat.totals
  pub shaped : h.bins.shape ≡ s.bins.shape
  pub added : AreAdded s.bins.shape s.bins.bodies h.bins.bodies (items_of h.seat.got)

-- the parts that all seats got, seat after seat
abbrev pub all_got : List (ReaderState Parcel) → List Parcel
all_got seats = flat_map (λ (s : ReaderState Parcel). items_of s.got) seats

-- the bins of the first storer are these with what it got added, those of each other what it got alone
abbrev pub AreGrown : BinList → List Shard → Type 0
AreGrown bins [] = Unit {0}
AreGrown bins (h ∷ shards) = (h.bins.shape ≡ bins.shape) × AreAdded bins.shape bins.bodies h.bins.bodies (items_of h.seat.got) × AreGrown
    (empty_bins bins.shape) shards
