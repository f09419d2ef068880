-- Where a part is that was put, and what a reader's hold of a slot means.
use Rattle.std.specs.Prelude.{◌≡◌, ℕ, ◌+◌, ◌*◌, ◌/◌, ◌%◌, ◌≤◌, true, slice_index, Option, Some}
use mathlib.Core.Option.{none, some}
use mathlib.Core.Option as maybe
use lib.ListN.{get_elem?}
use Rattle.atomic_table.specs.Table.{State}
use Rattle.kmc_partcore.specs.declared.shape.QueueShape.{QueueShape}
use Rattle.kmc_partcore.specs.declared.event.Received.{Received}
use Rattle.kmc_partqueue.specs.declared.views.Writing.{Writing}
use Rattle.kmc_partqueue.specs.declared.views.Reading.{Reading}
use Rattle.kmc_partqueue.specs.declared.views.View.{View}
use Rattle.kmc_partqueue.specs.Counts.{Among, total_of}
use Rattle.kmc_partqueue.specs.Rule.{slot_at, mark_at, entries}
use Rattle.kmc_partqueue.specs.Plays.{next_slot_of, seen_slot_of}

module _ {T : Type 0} where
  -- some seat of the queue has this writer, or this reader
  abbrev pub HasWriter : State (Option T) (View T) → Writing T → Type 0
  HasWriter s a = (j : ℕ) × (v : View T) × (get_elem? s.views j ≡ some v) × Among a v.writers

  abbrev pub HasReader : State (Option T) (View T) → Reading T → Type 0
  HasReader s b = (j : ℕ) × (v : View T) × (get_elem? s.views j ≡ some v) × Among b v.readers

  -- the reader holds the slot of the part n of writer w
  abbrev pub HoldsSlot : Reading T → ℕ → ℕ → Type 0
  HoldsSlot b w n = (b.held ≡ true) × (b.lane ≡ w) × (b.head ≡ n)

  module _ (k : QueueShape) (s : State (Option T) (View T)) (w n : ℕ) (x : T) where
    -- what lies in the slot of the part, and the slot's mark
    abbrev in_slot : maybe.Option (maybe.Option (Option T))
    in_slot = get_elem? s.homes (slot_at k w (n % k.per_writer))

    abbrev mark : ℕ
    mark = slice_index s.words (mark_at k w (n % k.per_writer))

    -- how often the part stands in the lists of all readers
    abbrev times_got : ℕ
    times_got = total_of (entries w n) s.views

    abbrev the_part : Received T
    the_part = record { writer = w; number = n; item = x }

    -- the part lies in its slot, whose mark says so, and no reader has got it
    pub record IsInSlot : Type 0 where
      pub marked : mark ≡ 2 * (n / k.per_writer) + 1
      pub lies : in_slot ≡ some (some (Some x))
      pub got : times_got ≡ 0

    -- one reader has got the part and holds its slot, of which the table has nothing
    pub record IsInHand : Type 0 where
      pub reader : Reading T
      pub seated : HasReader s reader
      pub holds : HoldsSlot reader w n
      pub listed : Among the_part reader.got
      pub marked : mark ≡ 2 * (n / k.per_writer) + 1
      pub out : in_slot ≡ some none
      pub got : times_got ≡ 1

    -- one reader has got the part, and its slot was given back: the slot's mark is that of a later use
    pub record IsGivenBack : Type 0 where
      pub reader : Reading T
      pub seated : HasReader s reader
      pub listed : Among the_part reader.got
      pub marked : 2 * (n / k.per_writer) + 2 ≤ mark
      pub got : times_got ≡ 1

    pub data IsSomewhere : Type 0 where
      in_its_slot : IsInSlot → IsSomewhere
      in_a_hand : IsInHand → IsSomewhere
      given_back : IsGivenBack → IsSomewhere

    abbrev pub IsInOnePlace : Type 0
    IsInOnePlace = IsSomewhere × ¬ (IsInSlot × IsInHand) × ¬ (IsInSlot × IsGivenBack) × ¬ (IsInHand × IsGivenBack)

  -- the table has nothing of the slot that the reader holds, and no writer and no other reader holds it
  pub record IsHeldAlone (s : State (Option T) (View T)) (b : Reading T) : Type 0 where
    pub out : get_elem? s.homes (seen_slot_of b) ≡ some none
    pub writers : (a : Writing T) → HasWriter s a → a.held ≡ true → ¬ (next_slot_of a ≡ seen_slot_of b)
    pub readers : (c : Reading T) → HasReader s c → c.held ≡ true → seen_slot_of c ≡ seen_slot_of b
        → c.number ≡ b.number
