-- When a history is legal: each entry fits what the entries before it show.
use Rattle.std.specs.Prelude.{◌≡◌, ℕ, ◌<◌, ◌≤◌, true, false, List, [], ◌∷◌, length, reverse, zip, slice_get, Some, Result, Ok, Err}
use Rattle.kmc_partcore.specs.declared.shape.TheConstants.{MAX_ITEMS}
use Rattle.kmc_partcore.specs.declared.shape.QueueShape.{QueueShape}
use Rattle.kmc_partcore.specs.declared.event.Event.{Event}
use Rattle.kmc_partcore.specs.declared.event.Event.TheVariants as event
use Rattle.kmc_partcore.specs.declared.event.Reply.{Reply}
use Rattle.kmc_partcore.specs.declared.event.Reply.TheVariants as reply
use Rattle.kmc_partcore.specs.declared.event.Taken.{Taken}
use Rattle.kmc_partcore.specs.declared.event.Taken.TheVariants.{Got, Empty, Finished}
use Rattle.kmc_partcore.specs.declared.event.RegisterError.{RegisterError}
use Rattle.kmc_partcore.specs.declared.event.RegisterError.TheVariants as no_register
use Rattle.kmc_partcore.specs.declared.event.PutError.{PutError}
use Rattle.kmc_partcore.specs.declared.event.PutError.TheVariants as no_put
use Rattle.kmc_partcore.specs.declared.event.TakeError.{TakeError}
use Rattle.kmc_partcore.specs.declared.event.TakeError.TheVariants.{NoSuchReader}
use Rattle.kmc_partcore.specs.declared.event.CompleteError.{CompleteError}
use Rattle.kmc_partcore.specs.declared.event.CompleteError.TheVariants as no_complete
use Rattle.kmc_partcore.specs.History.{Entry, History}
use Rattle.kmc_partcore.specs.State.{QueueState, LiveQueue, state_of, live_of}

module _ {T : Type 0} (q : QueueShape) (live : LiveQueue T) where
  abbrev pub IsDry : Type 0
  IsDry = (w : ℕ) → w < q.writers → (live w).outstanding_items ≡ []

  abbrev pub AllCompleted : Type 0
  AllCompleted = (w : ℕ) → w < q.writers → (live w).completed ≡ true

  -- the number of items accepted of each writer
  abbrev pub AreTotals : List ℕ → Type 0
  AreTotals counts = (length counts ≡ q.writers) × ((w : ℕ) → w < q.writers → slice_get counts w ≡ Some (live w).accepted_count)

  -- the answers that fit a register of writer w
  abbrev pub FitsRegister : ℕ → Result (Unit {0}) RegisterError → Type 0
  FitsRegister w (Ok u) = (w < q.writers) × ((live w).registered ≡ false)
  FitsRegister w (Err no_register.NoSuchWriter) = q.writers ≤ w
  FitsRegister w (Err no_register.AlreadyRegistered) = (w < q.writers) × ((live w).registered ≡ true)

  -- writer w may put items
  abbrev pub IsOpen : ℕ → Type 0
  IsOpen w = (w < q.writers) × ((live w).registered ≡ true) × ((live w).completed ≡ false)

  -- the answers that fit a put of x by writer w; a refusal carries x
  abbrev pub FitsPut : ℕ → T → Result ℕ (PutError × T) → Type 0
  FitsPut w x (Ok n) = IsOpen w × ((live w).accepted_count < MAX_ITEMS) × (length (live w).outstanding_items < q.per_writer) × (n ≡ (live w).accepted_count)
  FitsPut w x (Err (no_put.NoSuchWriter, y)) = (q.writers ≤ w) × (y ≡ x)
  FitsPut w x (Err (no_put.NotRegistered, y)) = (w < q.writers) × ((live w).registered ≡ false) × (y ≡ x)
  FitsPut w x (Err (no_put.Completed, y)) = (w < q.writers) × ((live w).registered ≡ true) × ((live w).completed ≡ true) × (y ≡ x)
  FitsPut w x (Err (no_put.NumbersSpent, y)) = IsOpen w × (MAX_ITEMS ≤ (live w).accepted_count) × (y ≡ x)
  FitsPut w x (Err (no_put.Full, y)) = IsOpen w × ((live w).accepted_count < MAX_ITEMS) × (q.per_writer ≤ length (live w).outstanding_items) × (y ≡ x)

  -- the answers that fit a take by reader r: the first outstanding item of some writer that has one
  abbrev pub FitsTake : ℕ → Result (Taken T) TakeError → Type 0
  FitsTake r (Ok (Got g)) = (r < q.readers) × (g.writer < q.writers) × (g.number ≡ (live g.writer).left_count)
      × (slice_get (live g.writer).outstanding_items 0 ≡ Some g.item)
  FitsTake r (Ok Empty) = (r < q.readers) × IsDry × ¬ AllCompleted
  FitsTake r (Ok (Finished totals)) = (r < q.readers) × IsDry × AllCompleted × AreTotals totals
  FitsTake r (Err NoSuchReader) = q.readers ≤ r

  -- the answers that fit a complete of writer w
  abbrev pub FitsComplete : ℕ → Result (Unit {0}) CompleteError → Type 0
  FitsComplete w (Ok u) = IsOpen w
  FitsComplete w (Err no_complete.NoSuchWriter) = q.writers ≤ w
  FitsComplete w (Err no_complete.NotRegistered) = (w < q.writers) × ((live w).registered ≡ false)
  FitsComplete w (Err no_complete.Completed) = (w < q.writers) × ((live w).registered ≡ true) × ((live w).completed ≡ true)

  -- an entry fits: its answer is one of its call, and fits it
  abbrev pub Fits : Entry T → Type 0
  Fits (event.Register w, reply.Register a) = FitsRegister w a
  Fits (event.Put w x, reply.Put a) = FitsPut w x a
  Fits (event.Take r, reply.Take a) = FitsTake r a
  Fits (event.Complete w, reply.Complete a) = FitsComplete w a
  Fits _ = ⊥

module _ {T : Type 0} (q : QueueShape) where
  abbrev pub IsLegal : History T → Type 0
  IsLegal [] = Unit {0}
  IsLegal (e ∷ h) = Fits q (live_of (state_of h)) e × IsLegal h

  -- a state that a legal history shows
  abbrev pub IsLawful : QueueState T → Type 0
  IsLawful s = (h : History T) × IsLegal h × ((w : ℕ) → w < q.writers → state_of h w ≡ s w)

-- the history of a list of calls and the list of their answers
abbrev pub history_of : {T : Type 0} → List (Event T) → List (Reply T) → History T
history_of events replies = reverse (zip events replies)
