-- The state of the queue that the lanes show.
use Rattle.std.specs.Prelude.{◌≡◌, ℕ, ◌<◌, true, length, slice_index, Option}
use mathlib.Core.Option.{some}
use lib.ListN.{get_elem?}
use Rattle.atomic_table.specs.Table.{State}
use Rattle.kmc_partcore.specs.declared.shape.QueueShape.{QueueShape}
use Rattle.kmc_partcore.specs.declared.event.Received.{Received}
use Rattle.kmc_partcore.specs.State.{QueueState}
use Rattle.kmc_partqueue.specs.declared.views.Writing.{Writing}
use Rattle.kmc_partqueue.specs.declared.views.Reading.{Reading}
use Rattle.kmc_partqueue.specs.declared.views.View.{View}
use Rattle.kmc_partqueue.specs.Counts.{Each}
use Rattle.kmc_partqueue.specs.Rule.{head_at}

module _ {T : Type 0} where
  -- what a writer put was accepted, and it has completed where its view says so
  abbrev pub WriterShows : QueueState T → Writing T → Type 0
  WriterShows q a = (a.sent ≡ (q a.number).accepted_items) × (a.done ≡ (q a.number).completed)

  -- what a reader got has left, to this reader
  abbrev pub ReaderShows : QueueState T → Reading T → Type 0
  ReaderShows q b = Each (λ (e : Received T). get_elem? (q e.writer).left_items e.number ≡ some (b.number, e.number, e.item)) b.got

  -- all writers are registered; of each as many items have left as its head says; what the views of writers have is what was accepted, and what those
  -- of readers have is what has left
  pub record IsShown (k : QueueShape) (s : State (Option T) (View T)) (q : QueueState T) : Type 0 where
    pub registered : (w : ℕ) → w < k.writers → (q w).registered ≡ true
    pub heads : (w : ℕ) → w < k.writers → length (q w).left_items ≡ slice_index s.words (head_at k w)
    pub writers : (j : ℕ) (v : View T) → get_elem? s.views j ≡ some v → Each (WriterShows q) v.writers
    pub readers : (j : ℕ) (v : View T) → get_elem? s.views j ≡ some v → Each (ReaderShows q) v.readers
