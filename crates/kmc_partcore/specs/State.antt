-- The state of the queue: what a history shows of each writer, and its live part, which an object can hold without its past.
use Rattle.std.specs.Prelude.{ℕ, ◌+◌, Bool, ◌||◌, List, ◌++◌, length, drop}
use Rattle.kmc_partcore.specs.History.{Entry, History, Leaving, accepted, left, is_registered, has_completed, registers, completes, item_accepted, item_left}

-- what a history shows of one writer
pub record ShownWriter (T : Type 0) : Type 0 where
  pub registered : Bool
  pub completed : Bool
  pub accepted_items : List T
  pub left_items : List (Leaving T)

-- the state of each writer, by its number
abbrev pub QueueState : Type 0 → Type 0
QueueState T = ℕ → ShownWriter T

-- the live part of it
pub record LiveWriter (T : Type 0) : Type 0 where
  pub registered : Bool
  pub completed : Bool
  pub accepted_count : ℕ
  pub left_count : ℕ
  pub outstanding_items : List T

abbrev pub LiveQueue : Type 0 → Type 0
LiveQueue T = ℕ → LiveWriter T

module _ {T : Type 0} where
  -- what a history shows
  abbrev pub state_of : History T → QueueState T
  state_of h w = record { registered = is_registered w h; completed = has_completed w h; accepted_items = accepted w h; left_items = left w h }

  -- the flags, the two lengths, and the items that are outstanding
  abbrev pub live_of : QueueState T → LiveQueue T
  live_of s w = record {
    registered = (s w).registered;
    completed = (s w).completed;
    accepted_count = length (s w).accepted_items;
    left_count = length (s w).left_items;
    outstanding_items = drop (length (s w).left_items) (s w).accepted_items;
  }

  -- the live part of one writer, when an entry registers or completes it, adds these items, and lets these leave
  abbrev pub advanced : Bool → Bool → List T → List (Leaving T) → LiveWriter T → LiveWriter T
  advanced registering completing added leaving l = record {
    registered = registering || l.registered;
    completed = completing || l.completed;
    accepted_count = l.accepted_count + length added;
    left_count = l.left_count + length leaving;
    outstanding_items = drop (length leaving) (l.outstanding_items ++ added);
  }

  -- the live part after an entry
  abbrev pub live_after : Entry T → LiveQueue T → LiveQueue T
  live_after e live w = advanced (registers w e) (completes w e) (item_accepted w e) (item_left w e) (live w)
