-- One lane: what its words and slots show.
-- The part n of a writer lies in the slot n % c, for the use n / c. The mark of a slot is 2 j while it is free for the use j, and 2 j + 1 from the
-- store that puts that part until the store that frees the slot for the next use.
use Rattle.std.specs.Prelude.{◌≡◌, ℕ, suc, ◌+◌, ◌*◌, ◌/◌, ◌%◌, ◌<◌, ◌≤◌, Bool, true, false, List, length, Option, Some, None}
use mathlib.Core.Option.{none, some}
use mathlib.Core.Option as maybe
use lib.ListN.{get_elem?}
use Rattle.kmc_partcore.specs.declared.shape.TheConstants.{MAX_ITEMS}

-- A slot is free, or in the hand of its writer, or at home with a part, or in the hand of the reader with that number
pub data Phase : Type 0 where
  free : Phase
  writing : Phase
  full : Phase
  reading : ℕ → Phase

-- The number of the part that a slot has or waits for, and its phase
abbrev pub Cell : Type 0
Cell = ℕ × Phase

-- A home: none where the slot is out, some None where it is at home and empty
abbrev pub Home : Type 0 → Type 0
Home T = maybe.Option (Option T)

pub record Lane (T : Type 0) : Type 0 where
  pub sent : List T
  pub held : Bool
  pub done : Bool
  pub cells : ℕ → Cell

module _ {T : Type 0} (c head : ℕ) (sent : List T) (mark : ℕ) (home : maybe.Option (Home T)) (n : ℕ) where
  abbrev pub InPhase : Phase → Type 0
  InPhase free = (mark ≡ 2 * (n / c)) × (length sent ≤ n) × (home ≡ some (some None))
  InPhase writing = (mark ≡ 2 * (n / c)) × (n ≡ length sent) × (home ≡ some none)
  InPhase full =
      (mark ≡ 2 * (n / c) + 1) × (head ≤ n) × (n < length sent) × ((x : T) × (get_elem? sent n ≡ some x) × (home ≡ some (some (Some x))))
  InPhase (reading r) = (mark ≡ 2 * (n / c) + 1) × (n < head) × (home ≡ some none)

pub record CellOk {T : Type 0} (c head : ℕ) (sent : List T) (held : Bool) (i mark : ℕ) (home : maybe.Option (Home T)) (cell : Cell) : Type 0 where
  pub lies : cell.0 % c ≡ i
  pub freed : cell.0 < head + c
  pub waits : length sent ≤ cell.0 + c
  pub phase : InPhase c head sent mark home cell.0 cell.1
  pub in_hand : cell.1 ≡ writing → held ≡ true

abbrev pub end_word : Bool → ℕ → ℕ
end_word false n = 0
end_word true n = suc n

pub record LaneOk {T : Type 0} (c : ℕ) (l : Lane T) (head ending : ℕ) (mark : ℕ → ℕ) (home : ℕ → maybe.Option (Home T)) : Type 0 where
  pub ended : ending ≡ end_word l.done (length l.sent)
  pub behind : head ≤ length l.sent
  pub within : length l.sent ≤ head + c
  pub limit : length l.sent ≤ MAX_ITEMS
  pub each_cell : (i : ℕ) → i < c → CellOk c head l.sent l.held i (mark i) (home i) (l.cells i)
  pub writes : l.held ≡ true → l.cells (length l.sent % c) ≡ (length l.sent, writing)
