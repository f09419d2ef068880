-- What clauses see of a seat, and what its type keeps between two calls.
use Rattle.std.specs.Prelude.{◌≡◌, ℕ, ◌<◌, ◌≤◌, Bool, true, false, List, [], ◌∷◌, length, replicate, Option, Some, None, slice_get}
use Rattle.atomic_table.specs.Seated.{TableId}
use Rattle.kmc_partcore.specs.declared.shape.TheConstants.{MAX_WRITERS, MAX_ITEMS}
use Rattle.kmc_partcore.specs.declared.shape.QueueShape.{QueueShape}
use Rattle.kmc_partcore.specs.declared.event.Received.{Received}
use Rattle.kmc_partqueue.specs.declared.views.Writing.{Writing}
use Rattle.kmc_partqueue.specs.declared.views.Reading.{Reading}
use Rattle.kmc_partqueue.specs.declared.views.Ending.{Ending}
use Rattle.kmc_partqueue.specs.declared.views.View.{View}
use Rattle.kmc_partqueue.specs.Counts.{Each, Among}
use Rattle.kmc_partqueue.specs.Dealing.{one_of_writers, one_of_readers}
use Rattle.kmc_partqueue.specs.Plays.{Seated}

-- the queue's table, the number, the slots of a lane, and the parts that the writer put, in order
pub record WriterState (T : Type 0) : Type 0 where
  pub table : TableId
  pub number : ℕ
  pub per_writer : ℕ
  pub sent : List T

-- the queue's table, the number, the slots of a lane, the lanes, what the reader got, in order, and the total of each lane that it has seen at its end
pub record ReaderState (T : Type 0) : Type 0 where
  pub table : TableId
  pub number : ℕ
  pub per_writer : ℕ
  pub writers : ℕ
  pub got : List (Received T)
  pub totals : List (Option ℕ)

-- a total is kept for each lane
abbrev pub AllEnded : ℕ → List (Option ℕ) → Type 0
AllEnded writers totals = (w : ℕ) → w < writers → (t : ℕ) × (slice_get totals w ≡ Some (Some t))

-- these are the totals that are kept
abbrev pub AreKeptTotals : ℕ → List (Option ℕ) → List ℕ → Type 0
AreKeptTotals writers totals counts =
    (length counts ≡ writers) × ((w : ℕ) → w < writers → (t : ℕ) × (slice_get totals w ≡ Some (Some t)) × (slice_get counts w ≡ Some t))

module _ {T : Type 0} where
  -- a seat of a queue with this table and shape
  abbrev pub IsWriterOf : TableId → QueueShape → WriterState T → Type 0
  IsWriterOf id shape s = (s.table ≡ id) × (s.per_writer ≡ shape.per_writer) × (s.number < shape.writers)

  abbrev pub IsReaderOf : TableId → QueueShape → ReaderState T → Type 0
  IsReaderOf id shape s = (s.table ≡ id) × (s.per_writer ≡ shape.per_writer) × (s.writers ≡ shape.writers)

  -- a total that was kept is kept
  abbrev pub KeepsNotes : ReaderState T → ReaderState T → Type 0
  KeepsNotes old new = (w t : ℕ) → slice_get old.totals w ≡ Some (Some t) → slice_get new.totals w ≡ Some (Some t)

  -- the seats of a new queue
  abbrev pub new_writer : TableId → QueueShape → ℕ → WriterState T
  new_writer id shape number = record { table = id; number = number; per_writer = shape.per_writer; sent = [] }

  abbrev pub new_reader : TableId → QueueShape → ℕ → ReaderState T
  new_reader id shape number =
      record { table = id; number = number; per_writer = shape.per_writer; writers = shape.writers; got = []; totals = replicate MAX_WRITERS None }

-- the notes of totals in a view are those that the seat keeps
pub record Noted (ends : List Ending) (totals : List (Option ℕ)) : Type 0 where
  pub kept : (w t : ℕ) → slice_get totals w ≡ Some (Some t) → Among record { writer = w; total = t } ends
  pub all : Each (λ (e : Ending). slice_get totals e.writer ≡ Some (Some e.total)) ends

module _ {T : Type 0} where
  -- a writer between two calls: its hand is empty
  abbrev pub open_writer : ℕ → ℕ → List T → Bool → Writing T
  open_writer number per_writer sent done = record { number = number; per_writer = per_writer; sent = sent; held = false; done = done }

  abbrev pub sent_first : List (Writing T) → List T
  sent_first [] = []
  sent_first (a ∷ more) = a.sent

  abbrev pub sent_of : View T → List T
  sent_of v = sent_first v.writers

  abbrev pub slots_first : List (Writing T) → ℕ
  slots_first [] = 0
  slots_first (a ∷ more) = a.per_writer

  abbrev pub per_writer_of : View T → ℕ
  per_writer_of v = slots_first v.writers

  abbrev pub got_first : List (Reading T) → List (Received T)
  got_first [] = []
  got_first (b ∷ more) = b.got

  abbrev pub got_of : View T → List (Received T)
  got_of v = got_first v.readers

  -- the seat of a writer between two calls
  abbrev pub AtRest : Seated T → ℕ → ℕ → ℕ → Type 0
  AtRest me number per_writer count =
      (me ≡ (one_of_writers (open_writer number per_writer (sent_of me.0) false), [])) × (length (sent_of me.0) ≡ count) × (count ≤ MAX_ITEMS)

  -- the seat of a writer that has completed
  abbrev pub AtEnd : Seated T → ℕ → Type 0
  AtEnd me number = me ≡ (one_of_writers (open_writer number (per_writer_of me.0) (sent_of me.0) true), [])

  -- the seat of a reader of a queue of this shape, with an empty hand
  abbrev pub Rests : QueueShape → Seated T → Reading T → Type 0
  Rests k me b = (me ≡ (one_of_readers b, [])) × (b.writers ≡ k.writers) × (b.per_writer ≡ k.per_writer) × (b.held ≡ false)

  -- the seat of a reader between two calls: its hand is empty
  pub record Between (me : Seated T) (number per_writer next writers : ℕ) (totals : List (Option ℕ)) : Type 0 where
    pub view : Reading T
    pub is : me ≡ (one_of_readers view, [])
    pub number_is : view.number ≡ number
    pub writers_is : view.writers ≡ writers
    pub per_writer_is : view.per_writer ≡ per_writer
    pub empty : view.held ≡ false
    pub noted : Noted view.ends totals
    pub long : length totals ≡ MAX_WRITERS
    pub near : next < writers
    pub few : writers ≤ MAX_WRITERS
