-- The history of a queue, as its seats tell it once all of them are back.
use Rattle.std.specs.Prelude.{◌≡◌, ℕ, true, List, length, Ok}
use mathlib.Core.Option.{some}
use lib.ListN.{get_elem?}
use Rattle.kmc_partcore.specs.declared.shape.QueueShape.{QueueShape}
use Rattle.kmc_partcore.specs.declared.event.Event.TheVariants as event
use Rattle.kmc_partcore.specs.declared.event.Reply.TheVariants as reply
use Rattle.kmc_partcore.specs.declared.event.Received.{Received}
use Rattle.kmc_partcore.specs.declared.event.Taken.TheVariants.{Finished}
use Rattle.kmc_partcore.specs.History.{Entry, History, accepted, left, has_completed}
use Rattle.kmc_partcore.specs.Legal.{IsLegal}
use Rattle.kmc_partqueue.specs.Counts.{Each, Among, total_of, same}
use Rattle.kmc_partqueue.specs.Steps.{was_finished}
use Rattle.kmc_partqueue.specs.Seats.{WriterState, ReaderState, AllEnded, AreKeptTotals}

module _ {T : Type 0} where
  -- 1 where the entry tells this reader that the queue is finished, and else 0
  abbrev pub tells_finished : ℕ → Entry T → ℕ
  tells_finished r (event.Take p, reply.Take (Ok (Finished totals))) = same p r
  tells_finished r _ = 0

  -- how often the history tells this reader that the queue is finished
  abbrev pub times_finished : ℕ → History T → ℕ
  times_finished r h = total_of (tells_finished r) h

  -- all that the writer put was accepted, in order, all of it has left, and the writer has completed
  pub record HistoryOfWriter (h : History T) (s : WriterState T) : Type 0 where
    pub put : accepted s.number h ≡ s.sent
    pub completed : has_completed s.number h ≡ true
    pub all_left : length (left s.number h) ≡ length s.sent

  -- each part that the reader got has left to this reader, at its number. A reader that has the total of each lane was told once that the queue is
  -- finished, with these totals; any other was never told it
  pub record HistoryOfReader (q : QueueShape) (h : History T) (r : ReaderState T) : Type 0 where
    pub got : Each (λ (e : Received T). get_elem? (left e.writer h) e.number ≡ some (r.number, e.number, e.item)) r.got
    pub told : AllEnded q.writers r.totals
        → (counts : List ℕ) × AreKeptTotals q.writers r.totals counts × Among (was_finished r.number counts) h
    pub told_once : AllEnded q.writers r.totals → times_finished r.number h ≡ 1
    pub never_told : ¬ AllEnded q.writers r.totals → times_finished r.number h ≡ 0

  -- a legal history of the queue whose seats came back as these
  pub record IsHistoryOf (q : QueueShape) (writers : List (WriterState T)) (readers : List (ReaderState T)) (h : History T) : Type 0 where
    pub legal : IsLegal q h
    pub of_writers : Each (HistoryOfWriter h) writers
    pub of_readers : Each (HistoryOfReader q h) readers
