-- What a contract sees of the queue object, and what an answered call makes of it.
use Rattle.std.specs.Prelude.{◌≡◌, ℕ, ◌+◌, ◌<◌, ◌≤◌, true, false, cond, eqb, List, [], ◌∷◌, ◌++◌, length, slice_index_or, slice_set, replicate, Ok}
use Rattle.kmc_partcore.specs.declared.shape.TheConstants.{MAX_ITEMS}
use Rattle.kmc_partcore.specs.declared.shape.QueueShape.{QueueShape}
use Rattle.kmc_partcore.specs.declared.part_core.Counters.{Counters}
use Rattle.kmc_partcore.specs.declared.part_core.Queued.{Queued}
use Rattle.kmc_partcore.specs.declared.event.Event.TheVariants as event
use Rattle.kmc_partcore.specs.declared.event.Reply.TheVariants as reply
use Rattle.kmc_partcore.specs.declared.event.Taken.TheVariants.{Got}
use Rattle.kmc_partcore.specs.History.{Entry, History}
use Rattle.kmc_partcore.specs.State.{LiveWriter, LiveQueue, state_of, live_of}
use Rattle.kmc_partcore.specs.Legal.{IsLegal}

-- the counters of each writer, and the items in the queue in the order in which they were accepted
pub record CoreState (T : Type 0) : Type 0 where
  pub shape : QueueShape
  pub writers : List Counters
  pub queue : List (Queued T)

-- a writer of which nothing was heard
abbrev pub unknown : Counters
unknown = record { registered = false; completed = false; accepted_count = 0; left_count = 0 }

abbrev pub counters_of : List Counters → ℕ → Counters
counters_of counters w = slice_index_or counters w unknown

module _ {T : Type 0} where
  -- the items of writer w among those in the queue, in order
  abbrev pub items_of : ℕ → List (Queued T) → List T
  items_of w [] = []
  items_of w (x ∷ xs) = cond (eqb x.writer w) (x.item ∷ items_of w xs) (items_of w xs)

  abbrev pub live_writer : Counters → List T → LiveWriter T
  live_writer c items = record {
    registered = c.registered;
    completed = c.completed;
    accepted_count = c.accepted_count;
    left_count = c.left_count;
    outstanding_items = items;
  }

  -- the live part that the object holds
  abbrev pub live_in : CoreState T → LiveQueue T
  live_in s w = live_writer (counters_of s.writers w) (items_of w s.queue)

  abbrev pub AllKnown : ℕ → List (Queued T) → Type 0
  AllKnown n [] = Unit {0}
  AllKnown n (x ∷ xs) = (x.writer < n) × AllKnown n xs

  -- what is true of every queue: of each writer, what was accepted has left or is in the queue, which has room for it
  pub record IsCore (q : QueueShape) (counters : List Counters) (queue : List (Queued T)) : Type 0 where
    pub all_writers : length counters ≡ q.writers
    pub known : AllKnown q.writers queue
    pub counted : (w : ℕ) → w < q.writers → (counters_of counters w).accepted_count ≡ (counters_of counters w).left_count + length (items_of w queue)
    pub room : (w : ℕ) → w < q.writers → length (items_of w queue) ≤ q.per_writer
    pub numbers : (w : ℕ) → w < q.writers → (counters_of counters w).accepted_count ≤ MAX_ITEMS

  -- a queue of which no call was made
  abbrev pub opening : QueueShape → CoreState T
  opening q = record { shape = q; writers = replicate q.writers unknown; queue = [] }

  abbrev pub queued : ℕ → T → Queued T
  queued w x = record { writer = w; item = x }

  -- what an answered call makes of the queue: a refusal, and a take that gives no item, leave it as it was
  abbrev pub Becomes : CoreState T → Entry T → CoreState T → Type 0
  Becomes s (event.Register w, reply.Register (Ok u)) s' = s' ≡ record s
      { writers = slice_set s.writers w (record (counters_of s.writers w) { registered = true }) }
  Becomes s (event.Put w x, reply.Put (Ok n)) s' = s' ≡ record s {
    writers = slice_set s.writers w
        (record (counters_of s.writers w) { accepted_count = n + 1 });
    queue = s.queue ++ queued w x ∷ [];
  }
  Becomes s (event.Take r, reply.Take (Ok (Got g))) s' = (rest : List (Queued T)) × (s.queue ≡ queued g.writer g.item ∷ rest)
      × (s' ≡ record s { writers = slice_set s.writers g.writer (record (counters_of s.writers g.writer) { left_count = g.number + 1 }); queue = rest })
  Becomes s (event.Complete w, reply.Complete (Ok u)) s' = s' ≡ record s
      { writers = slice_set s.writers w (record (counters_of s.writers w) { completed = true }) }
  Becomes s _ s' = s' ≡ s

  -- the object holds the live part of what the history shows
  abbrev pub Holds : CoreState T → History T → Type 0
  Holds s h = (w : ℕ) → w < s.shape.writers → live_of (state_of h) w ≡ live_in s w

  -- after every legal history whose live part the object holds, the entry is legal, and then the object holds the live part with it
  abbrev pub MovesOn : CoreState T → Entry T → CoreState T → Type 0
  MovesOn s e s' = (h : History T) → IsLegal s.shape h → Holds s h → IsLegal s.shape (e ∷ h) × Holds s' (e ∷ h)
