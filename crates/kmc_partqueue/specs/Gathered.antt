-- What stands in the lists of all readers, once all seats are back.
use Rattle.std.specs.Prelude.{◌≡◌, ℕ, ◌<◌, List, [], ◌∷◌, length, true}
use mathlib.Core.Option.{some}
use lib.ListN.{get_elem?}
use Rattle.kmc_partqueue.specs.declared.views.Writing.{Writing}
use Rattle.kmc_partqueue.specs.declared.views.Reading.{Reading}
use Rattle.kmc_partcore.specs.declared.event.Received.{Received}
use Rattle.kmc_partqueue.specs.Counts.{Each, total_of, Among}
use Rattle.kmc_partqueue.specs.Rule.{is_entry, Rises}
use Rattle.kmc_partqueue.specs.Seats.{WriterState, ReaderState, Noted}

module _ {T : Type 0} where
  -- the view of a reader's seat
  pub record Tells (b : Reading T) (s : ReaderState T) : Type 0 where
    pub number : b.number ≡ s.number
    pub got : b.got ≡ s.got
    pub noted : Noted b.ends s.totals

  abbrev pub Pairs : List (Reading T) → List (ReaderState T) → Type 0
  Pairs [] [] = Unit {0}
  Pairs [] (s ∷ ss) = ⊥
  Pairs (b ∷ bs) [] = ⊥
  Pairs (b ∷ bs) (s ∷ ss) = Tells b s × Pairs bs ss

  pub record WriterTells (a : Writing T) (s : WriterState T) : Type 0 where
    pub number : a.number ≡ s.number
    pub sent : a.sent ≡ s.sent
    pub done : a.done ≡ true

  abbrev pub WriterPairs : List (Writing T) → List (WriterState T) → Type 0
  WriterPairs [] [] = Unit {0}
  WriterPairs [] (s ∷ ss) = ⊥
  WriterPairs (a ∷ more) [] = ⊥
  WriterPairs (a ∷ more) (s ∷ ss) = WriterTells a s × WriterPairs more ss

  abbrev pub in_list : ℕ → ℕ → ReaderState T → ℕ
  in_list w n r = total_of (is_entry w n) r.got

  -- Each part that was put stands once in the lists of all readers, and nothing else does. In each list the numbers of one writer rise
  pub record IsGathered (writers : List (WriterState T)) (readers : List (ReaderState T)) : Type 0 where
    pub once : Each (λ (s : WriterState T). (n : ℕ) → n < length s.sent → total_of (in_list s.number n) readers ≡ 1) writers
    pub others : Each (λ (r : ReaderState T). Each (λ (e : Received T). (s : WriterState T) × Among s writers × (s.number ≡ e.writer)
        × (get_elem? s.sent e.number ≡ some e.item)) r.got × Rises r.got) readers
