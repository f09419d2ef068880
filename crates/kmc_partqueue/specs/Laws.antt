-- The two laws of the steps, and the law of what was sent and got.
use Rattle.std.specs.Prelude.{◌≡◌, ℕ, zero, suc, true, List, [], ◌∷◌, ◌++◌, Option}
use mathlib.Core.Option.{some}
use lib.ListN.{get_elem?}
use Rattle.std.specs.List.{sum_by}
use Rattle.atomic_table.specs.Table.{State}
use Rattle.kmc_partcore.specs.declared.shape.QueueShape.{QueueShape}
use Rattle.kmc_partcore.specs.declared.event.Received.{Received}
use Rattle.kmc_partcore.specs.History.{History}
use Rattle.kmc_partcore.specs.State.{state_of}
use Rattle.kmc_partcore.specs.Legal.{IsLegal}
use Rattle.kmc_partqueue.specs.declared.views.Writing.{Writing}
use Rattle.kmc_partqueue.specs.declared.views.Reading.{Reading}
use Rattle.kmc_partqueue.specs.declared.views.View.{View}
use Rattle.kmc_partqueue.specs.Counts.{Each, total_of, same}
use Rattle.kmc_partqueue.specs.Rule.{LanesRule}
use Rattle.kmc_partqueue.specs.Seats.{WriterState, ReaderState}
use Rattle.kmc_partqueue.specs.Gathered.{IsGathered}
use Rattle.kmc_partqueue.specs.Shown.{IsShown}
use Rattle.kmc_partqueue.specs.Steps.{IsStep, AreSteps, was_registered}
use Rattle.kmc_partqueue.specs.Reached.{opened, IsReached}
use Rattle.kmc_partqueue.specs.PartPlaces.{HasWriter, HasReader, IsInOnePlace, IsHeldAlone}

-- each step keeps the rule, and moves the state that the lanes show by its entry, as a legal history may, or not at all
abbrev pub StepLaw : Type 0 → Type 0
StepLaw T = (k : QueueShape) (s s' : State (Option T) (View T)) (e : History T) → LanesRule k s → IsStep k s s' e
    → LanesRule k s' × ((h : History T) → IsLegal k h → IsShown k s (state_of h) → IsLegal k (e ++ h) × IsShown k s' (state_of (e ++ h)))

-- the entries that register the writers below n, the newest first
abbrev pub registrations : {T : Type 0} → ℕ → History T
registrations zero = []
registrations (suc n) = was_registered n ∷ registrations n

-- the registrations of all writers, and then the entries of any list of steps of any seats from the opening state, are a legal history, and the lanes
-- show its state
abbrev pub StepsLaw : Type 0 → Type 0
StepsLaw T = (k : QueueShape) (s : State (Option T) (View T)) (e : History T) → AreSteps k (opened k) s e
    → LanesRule k s × IsLegal k (e ++ registrations k.writers) × IsShown k s (state_of (e ++ registrations k.writers))

-- where the seats are gathered and each writer has a number of its own, any sum over what was got is that over what was sent
abbrev pub GatheredLaw : Type 0 → Type 0
GatheredLaw T =
    (F : T → ℕ) (writers : List (WriterState T)) (readers : List (ReaderState T)) → IsGathered writers readers → Each
    (λ (s : WriterState T). total_of (λ (t : WriterState T). same t.number s.number) writers ≡ 1) writers
    → sum_by (λ (r : ReaderState T). sum_by (λ (e : Received T). F e.item) r.got) readers ≡ sum_by (λ (s : WriterState T). sum_by F s.sent) writers

-- wherever steps lead, a part that a writer has put is in one place: in its slot, in one reader's hand, or in one reader's list with its slot given back
abbrev pub PartPlaceLaw : Type 0 → Type 0
PartPlaceLaw T = (k : QueueShape) (s : State (Option T) (View T)) → IsReached k s
    → (a : Writing T) → HasWriter s a → (n : ℕ) (x : T) → get_elem? a.sent n ≡ some x
    → IsInOnePlace k s a.number n x

-- wherever steps lead, a slot that a reader holds is in no other hand and not in the table, so that nobody writes to it
abbrev pub HeldSlotLaw : Type 0 → Type 0
HeldSlotLaw T = (k : QueueShape) (s : State (Option T) (View T)) → IsReached k s
    → (b : Reading T) → HasReader s b → b.held ≡ true → IsHeldAlone s b
