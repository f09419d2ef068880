-- The kinds of step, and the entry of the queue's history that each makes, if any.
use Rattle.std.specs.Prelude.{◌≡◌, ℕ, suc, ◌+◌, ◌*◌, ◌/◌, ◌%◌, ◌<◌, true, false, List, [], ◌∷◌, ◌++◌, length, slice_index, slice_set, Option, Some, None, Ok}
use mathlib.Core.Option.{none, some}
use mathlib.Core.Option as maybe
use lib.ListN.{get_elem?}
use Rattle.atomic_table.specs.Table.{State}
use Rattle.kmc_partcore.specs.declared.shape.TheConstants.{MAX_ITEMS}
use Rattle.kmc_partcore.specs.declared.shape.QueueShape.{QueueShape}
use Rattle.kmc_partcore.specs.declared.event.Event.TheVariants as event
use Rattle.kmc_partcore.specs.declared.event.Reply.TheVariants as reply
use Rattle.kmc_partcore.specs.declared.event.Taken.TheVariants.{Got, Finished}
use Rattle.kmc_partcore.specs.History.{Entry, History}
use Rattle.kmc_partqueue.specs.declared.views.Writing.{Writing}
use Rattle.kmc_partqueue.specs.declared.views.Reading.{Reading}
use Rattle.kmc_partqueue.specs.declared.views.View.{View}
use Rattle.kmc_partqueue.specs.Ends.{SawAllEnds, AreSeenTotals}
use Rattle.kmc_partqueue.specs.Rule.{end_at, head_at, mark_at}
use Rattle.kmc_partqueue.specs.Plays.{next_slot_of, seen_slot_of, holding, sending, completed, looking, seeing, received, taking, freeing, ending}
use Rattle.kmc_partqueue.specs.Dealing.{one_of_writers, one_of_readers, no_writer, its_writer, no_reader, its_reader, both, spent}

-- the entries of calls that were answered Ok, Got and Finished
module _ {T : Type 0} where
  abbrev pub was_registered : ℕ → Entry T
  was_registered w = (event.Register w, reply.Register (Ok tt))

  abbrev pub was_put : Writing T → T → Entry T
  was_put a x = (event.Put a.number x, reply.Put (Ok (length a.sent)))

  abbrev pub was_completed : Writing T → Entry T
  was_completed a = (event.Complete a.number, reply.Complete (Ok tt))

  abbrev pub was_taken : Reading T → T → Entry T
  was_taken b x = (event.Take b.number, reply.Take (Ok (Got (received b x))))

  abbrev pub was_finished : ℕ → List ℕ → Entry T
  was_finished r totals = (event.Take r, reply.Take (Ok (Finished totals)))

module _ {T : Type 0} (k : QueueShape) (s s' : State (Option T) (View T)) where
  -- the words of the slot of a writer's next part, and of the slot of the part that a reader saw
  abbrev next_mark : Writing T → ℕ
  next_mark a = mark_at k a.number (length a.sent % k.per_writer)

  abbrev seen_mark : Reading T → ℕ
  seen_mark b = mark_at k b.lane (b.head % k.per_writer)

  abbrev word : ℕ → ℕ
  word i = slice_index s.words i

  -- the seat has one writer, or one reader, which knows this
  abbrev IsWriter : ℕ → Writing T → Type 0
  IsWriter id a = get_elem? s.views id ≡ some (one_of_writers a)

  abbrev IsReader : ℕ → Reading T → Type 0
  IsReader id b = get_elem? s.views id ≡ some (one_of_readers b)

  -- these are the words, the slots and the seats after the step
  abbrev Leaves : List ℕ → List (maybe.Option (Option T)) → List (View T) → Type 0
  Leaves words homes views = s' ≡ record { words = words; homes = homes; views = views }

  abbrev with_writer : ℕ → Writing T → List (View T)
  with_writer id a = slice_set s.views id (one_of_writers a)

  abbrev with_reader : ℕ → Reading T → List (View T)
  with_reader id b = slice_set s.views id (one_of_readers b)

  pub data IsStep : History T → Type 0 where
    claims_free_slot : (id : ℕ) (a : Writing T) → IsWriter id a → a.held ≡ false
        → word (next_mark a) ≡ 2 * (length a.sent / k.per_writer)
        → Leaves s.words (slice_set s.homes (next_slot_of a) none) (with_writer id (holding a))
        → IsStep []
    publishes_part : (id : ℕ) (a : Writing T) (x : T) → IsWriter id a → a.held ≡ true → a.done ≡ false
        → length a.sent < MAX_ITEMS
        → Leaves (slice_set s.words (next_mark a) (2 * (length a.sent / k.per_writer) + 1))
        (slice_set s.homes (next_slot_of a) (some (Some x)))
        (with_writer id (sending a x))
        → IsStep (was_put a x ∷ [])
    closes_lane : (id : ℕ) (a : Writing T) → IsWriter id a → a.done ≡ false
        → Leaves (slice_set s.words (end_at k a.number) (suc (length a.sent))) s.homes (with_writer id (completed a))
        → IsStep (was_completed a ∷ [])
    reads_head : (id : ℕ) (b : Reading T) (w : ℕ) → IsReader id b → w < k.writers → b.held ≡ false
        → Leaves s.words s.homes (with_reader id (looking b w (word (head_at k w))))
        → IsStep []
    sees_published_part : (id : ℕ) (b : Reading T) → IsReader id b
        → word (seen_mark b) ≡ 2 * (b.head / k.per_writer) + 1
        → Leaves s.words s.homes (with_reader id (seeing b))
        → IsStep []
    claims_part : (id : ℕ) (b : Reading T) (x : T) → IsReader id b → b.ready ≡ true → b.held ≡ false
        → word (head_at k b.lane) ≡ b.head → get_elem? s.homes (seen_slot_of b) ≡ some (some (Some x))
        → Leaves (slice_set s.words (head_at k b.lane) (b.head + 1))
        (slice_set s.homes (seen_slot_of b) none)
        (with_reader id (taking b x))
        → IsStep (was_taken b x ∷ [])
    releases_slot : (id : ℕ) (b : Reading T) → IsReader id b → b.held ≡ true
        → Leaves (slice_set s.words (seen_mark b) (2 * (b.head / k.per_writer) + 2))
        (slice_set s.homes (seen_slot_of b) (some None))
        (with_reader id (freeing b))
        → IsStep []
    -- a load that finds a lane at its end, where another lane is still to be seen at its end
    reads_end : (id : ℕ) (b : Reading T) → IsReader id b → word (end_at k b.lane) ≡ suc b.head
        → ¬ SawAllEnds k.writers (ending b).ends
        → Leaves s.words s.homes (with_reader id (ending b))
        → IsStep []
    -- a load that finds the last lane at its end: the reader is told that the queue is finished
    reads_last_end : (id : ℕ) (b : Reading T) (totals : List ℕ) → IsReader id b
        → word (end_at k b.lane) ≡ suc b.head
        → ¬ SawAllEnds k.writers b.ends → AreSeenTotals k.writers (ending b).ends totals
        → Leaves s.words s.homes (with_reader id (ending b))
        → IsStep (was_finished b.number totals ∷ [])
    -- a load that finds nothing new, and leaves all as it is
    finds_nothing : s' ≡ s → IsStep []
    splits_writer : (id : ℕ) (v : View T) → get_elem? s.views id ≡ some v
        → Leaves s.words s.homes (slice_set s.views id (no_writer v) ++ its_writer v ∷ [])
        → IsStep []
    splits_reader : (id : ℕ) (v : View T) → get_elem? s.views id ≡ some v
        → Leaves s.words s.homes (slice_set s.views id (no_reader v) ++ its_reader v ∷ [])
        → IsStep []
    joins_seat : (id other : ℕ) (v w : View T) → get_elem? s.views id ≡ some v → ¬ (other ≡ id)
        → get_elem? s.views other ≡ some w
        → Leaves s.words s.homes (slice_set (slice_set s.views id (both v w)) other spent)
        → IsStep []

-- a list of steps of any seats, and the entries that they make, the newest first
pub data AreSteps {T : Type 0} (k : QueueShape) (s : State (Option T) (View T)) : State (Option T) (View T) → History T → Type 0 where
  still : {s' : State (Option T) (View T)} {e : History T} → s ≡ s' → e ≡ [] → AreSteps k s s' e
  then : {s' : State (Option T) (View T)} {e : History T} (t : State (Option T) (View T)) (d f : History T)
      → AreSteps k s t d → IsStep k t s' f → e ≡ f ++ d
      → AreSteps k s s' e
