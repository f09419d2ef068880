-- The rule of the lanes: what is true of all words, slots and views between any two atomic steps, wherever the steps lead.
-- With W writers and c slots a lane, word w is the end of lane w, word W + w its head, and word 2 W + (w c + i) the mark of its slot i, which is slot
-- w c + i of the table.
use Rattle.std.specs.Prelude.{◌≡◌, ℕ, ◌+◌, ◌*◌, ◌%◌, ◌<◌, ◌≤◌, true, List, [], ◌∷◌, ◌++◌, length, slice_index, Option}
use mathlib.Core.Option.{some}
use lib.ListN.{get_elem?}
use Rattle.atomic_table.specs.Table.{State}
use Rattle.kmc_partqueue.specs.declared.views.Writing.{Writing}
use Rattle.kmc_partqueue.specs.declared.views.Reading.{Reading}
use Rattle.kmc_partcore.specs.declared.event.Received.{Received}
use Rattle.kmc_partqueue.specs.declared.views.Ending.{Ending}
use Rattle.kmc_partqueue.specs.declared.views.View.{View}
use Rattle.kmc_partcore.specs.declared.shape.QueueShape.{QueueShape}
use Rattle.kmc_partqueue.specs.Counts.{Each, total_of, same, once_below}
use Rattle.kmc_partqueue.specs.Lane.{reading, Lane, LaneOk}

-- Where the words and slots lie
abbrev pub end_at : QueueShape → ℕ → ℕ
end_at k w = w

abbrev pub head_at : QueueShape → ℕ → ℕ
head_at k w = k.writers + w

abbrev pub slot_at : QueueShape → ℕ → ℕ → ℕ
slot_at k w i = w * k.per_writer + i

abbrev pub mark_at : QueueShape → ℕ → ℕ → ℕ
mark_at k w i = 2 * k.writers + slot_at k w i

module _ {T : Type 0} where
  -- the entry of the part n of writer w, counted
  abbrev pub is_entry : ℕ → ℕ → Received T → ℕ
  is_entry w n e = same e.writer w * same e.number n

  abbrev pub got_once : ℕ → ℕ → Reading T → ℕ
  got_once w n r = total_of (is_entry w n) r.got

  abbrev pub entries : ℕ → ℕ → View T → ℕ
  entries w n v = total_of (got_once w n) v.readers

  abbrev pub writers_of : ℕ → View T → ℕ
  writers_of w v = total_of (λ (a : Writing T). same a.number w) v.writers

  abbrev pub readers_of : ℕ → View T → ℕ
  readers_of r v = total_of (λ (b : Reading T). same b.number r) v.readers

  -- in a reader's list the numbers of one writer rise
  abbrev pub Rises : List (Received T) → Type 0
  Rises [] = Unit {0}
  Rises (e ∷ es) = Each (λ (f : Received T). f.writer ≡ e.writer → e.number < f.number) es × Rises es

  module _ (k : QueueShape) (lanes : ℕ → Lane T) (heads : ℕ → ℕ) where
    pub record WriterOk (a : Writing T) : Type 0 where
      pub known : a.number < k.writers
      pub per_writer : a.per_writer ≡ k.per_writer
      pub sent : a.sent ≡ (lanes a.number).sent
      pub held : a.held ≡ (lanes a.number).held
      pub done : a.done ≡ (lanes a.number).done

    pub record GotOk (e : Received T) : Type 0 where
      pub known : e.writer < k.writers
      pub taken : e.number < heads e.writer
      pub put : get_elem? (lanes e.writer).sent e.number ≡ some e.item

    pub record EndOk (e : Ending) : Type 0 where
      pub known : e.writer < k.writers
      pub done : (lanes e.writer).done ≡ true
      pub sent : length (lanes e.writer).sent ≡ e.total
      pub taken : heads e.writer ≡ e.total

    pub record ReaderOk (b : Reading T) : Type 0 where
      pub known : b.number < k.readers
      pub writers : b.writers ≡ k.writers
      pub per_writer : b.per_writer ≡ k.per_writer
      pub lane : b.lane < k.writers
      pub head : b.head ≤ heads b.lane
      pub ready : b.ready ≡ true → b.head < length (lanes b.lane).sent
      pub shown : Each GotOk b.got
      pub rises : Rises b.got
      pub ends : Each EndOk b.ends
      pub held : b.held ≡ true
          → ((lanes b.lane).cells (b.head % k.per_writer) ≡ (b.head, reading b.number))
          × ((before : List (Received T)) × (x : T) × (b.got ≡ before ++ record { writer = b.lane; number = b.head; item = x } ∷ []))

    abbrev pub ViewOk : View T → Type 0
    ViewOk v = Each WriterOk v.writers × Each ReaderOk v.readers

  pub record LanesRule (k : QueueShape) (s : State (Option T) (View T)) : Type 0 where
    pub lanes : ℕ → Lane T
    pub some_room : 0 < k.per_writer
    pub some_writer : 0 < k.writers
    pub wide : length s.words ≡ 2 * k.writers + k.writers * k.per_writer
    pub slots : length s.homes ≡ k.writers * k.per_writer
    pub each_lane : (w : ℕ) → w < k.writers
        → LaneOk k.per_writer (lanes w) (slice_index s.words (head_at k w)) (slice_index s.words (end_at k w))
        (λ i. slice_index s.words (mark_at k w i)) (λ i. get_elem? s.homes (slot_at k w i))
    pub each_seat : (j : ℕ) (v : View T) → get_elem? s.views j ≡ some v → ViewOk k lanes (λ w. slice_index s.words (head_at k w)) v
    pub one_writer : (w : ℕ) → w < k.writers → total_of (writers_of w) s.views ≡ 1
    pub one_reader : (r : ℕ) → r < k.readers → total_of (readers_of r) s.views ≡ 1
    pub taken_once : (w n : ℕ) → w < k.writers → total_of (entries w n) s.views ≡ once_below n (slice_index s.words (head_at k w))
