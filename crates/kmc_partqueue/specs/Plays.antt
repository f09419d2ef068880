-- What each step tells: of the step, the seat before, the number found and the seat after.
use Rattle.std.specs.Prelude.{◌≡◌, ◌≢◌, ℕ, suc, ◌+◌, ◌*◌, ◌/◌, ◌%◌, ◌≤◌, true, false, List, [], ◌∷◌, ◌++◌, length, Option, Some, None}
use Rattle.atomic_table.specs.Table.{Me, Step}
use Rattle.kmc_partcore.specs.declared.shape.TheConstants.{MAX_ITEMS}
use Rattle.kmc_partqueue.specs.declared.views.Writing.{Writing}
use Rattle.kmc_partqueue.specs.declared.views.Reading.{Reading}
use Rattle.kmc_partcore.specs.declared.event.Received.{Received}
use Rattle.kmc_partqueue.specs.declared.views.View.{View}
use Rattle.kmc_partqueue.specs.Dealing.{one_of_writers, one_of_readers}

abbrev pub Seated : Type 0 → Type 0
Seated T = Me (Option T) (View T)

module _ {T : Type 0} where
  -- the slot of the writer's next part, and of the part that the reader saw
  abbrev pub next_slot_of : Writing T → ℕ
  next_slot_of a = a.number * a.per_writer + length a.sent % a.per_writer

  abbrev pub seen_slot_of : Reading T → ℕ
  seen_slot_of b = b.lane * b.per_writer + b.head % b.per_writer

  abbrev pub holding : Writing T → Writing T
  holding a = record a { held = true }

  abbrev pub sending : Writing T → T → Writing T
  sending a x = record a { sent = a.sent ++ x ∷ []; held = false }

  abbrev pub completed : Writing T → Writing T
  completed a = record a { done = true }

  abbrev pub looking : Reading T → ℕ → ℕ → Reading T
  looking b w h = record b { lane = w; head = h; ready = false }

  abbrev pub seeing : Reading T → Reading T
  seeing b = record b { ready = true }

  abbrev pub received : Reading T → T → Received T
  received b x = record { writer = b.lane; number = b.head; item = x }

  abbrev pub taking : Reading T → T → Reading T
  taking b x = record b { got = b.got ++ received b x ∷ []; held = true }

  abbrev pub freeing : Reading T → Reading T
  freeing b = record b { held = false }

  abbrev pub ending : Reading T → Reading T
  ending b = record b { ends = b.ends ++ record { writer = b.lane; total = b.head } ∷ [] }

  -- load of a mark by the writer: a free slot goes into the hand
  abbrev pub claimed_free_slot : Step (Option T) → Seated T → ℕ → Seated T → Type 0
  claimed_free_slot st m r m' = (a : Writing T) → m.0 ≡ one_of_writers a →
      (r ≡ 2 * (length a.sent / a.per_writer) → m' ≡ (one_of_writers (holding a), (next_slot_of a, None) ∷ m.1))
      × (r ≢ 2 * (length a.sent / a.per_writer) → (m' ≡ m) × (a.per_writer ≤ length a.sent))

  -- store of the mark: the part is put
  abbrev pub published_part : Step (Option T) → Seated T → ℕ → Seated T → Type 0
  published_part st m r m' =
      (a : Writing T) (x : T) (c : List (ℕ × Option T)) → m ≡ (one_of_writers a, (next_slot_of a, Some x) ∷ c) → m' ≡ (one_of_writers (sending a x), c)

  -- store of the end
  abbrev pub closed_lane : Step (Option T) → Seated T → ℕ → Seated T → Type 0
  closed_lane st m r m' = (a : Writing T) → m.0 ≡ one_of_writers a → m' ≡ (one_of_writers (completed a), m.1)

  -- load of the head of a lane
  abbrev pub read_head : Step (Option T) → Seated T → ℕ → Seated T → Type 0
  read_head st m r m' =
      (b : Reading T) (w : ℕ) → m.0 ≡ one_of_readers b → st.word ≡ b.writers + w → (m' ≡ (one_of_readers (looking b w r), m.1)) × (r ≤ MAX_ITEMS)

  -- load of the mark at the head that was seen
  abbrev pub saw_published_part : Step (Option T) → Seated T → ℕ → Seated T → Type 0
  saw_published_part st m r m' = (b : Reading T) → m.0 ≡ one_of_readers b →
      (r ≡ 2 * (b.head / b.per_writer) + 1 → m' ≡ (one_of_readers (seeing b), m.1)) × (r ≢ 2 * (b.head / b.per_writer) + 1 → m' ≡ m)

  -- exchange of the head: the part is taken
  abbrev pub claimed_part : Step (Option T) → Seated T → ℕ → Seated T → Type 0
  claimed_part st m r m' = (b : Reading T) → m.0 ≡ one_of_readers b →
      (r ≡ b.head → (x : T) × (m' ≡ (one_of_readers (taking b x), (seen_slot_of b, Some x) ∷ m.1))) × (r ≢ b.head → m' ≡ m)

  -- store of the mark: the slot is free again
  abbrev pub released_slot : Step (Option T) → Seated T → ℕ → Seated T → Type 0
  released_slot st m r m' =
      (b : Reading T) (c : List (ℕ × Option T)) → m ≡ (one_of_readers b, (seen_slot_of b, None) ∷ c) → m' ≡ (one_of_readers (freeing b), c)

  -- load of the end of the lane that was seen
  abbrev pub read_end : Step (Option T) → Seated T → ℕ → Seated T → Type 0
  read_end st m r m' = (b : Reading T) → m.0 ≡ one_of_readers b →
      (r ≡ suc b.head → m' ≡ (one_of_readers (ending b), m.1)) × (r ≢ suc b.head → m' ≡ m)
