-- The laws of legal histories.
use Rattle.std.specs.Prelude.{◌≡◌, ℕ, ◌+◌, ◌<◌, ◌↔◌, List, [], ◌∷◌, length, take, map}
use Rattle.kmc_partcore.specs.declared.shape.QueueShape.{QueueShape}
use Rattle.kmc_partcore.specs.History.{Entry, History, Leaving, accepted, left}
use Rattle.kmc_partcore.specs.State.{QueueState, LiveQueue, state_of, live_of, live_after}
use Rattle.kmc_partcore.specs.Legal.{Fits, IsLegal, IsLawful}

-- the items of the list are numbered one after another, from n
abbrev pub AreNumberedFrom : {T : Type 0} → ℕ → List (Leaving T) → Type 0
AreNumberedFrom n [] = Unit {0}
AreNumberedFrom n (x ∷ xs) = (x.1 ≡ n) × AreNumberedFrom (n + 1) xs

-- what has left of each writer is the first of what was accepted, numbered from 0
abbrev pub LeftBeginsAccepted : Type 0 → Type 0
LeftBeginsAccepted T = (q : QueueShape) (h : History T) → IsLegal q h → (w : ℕ)
    → (map (λ (x : Leaving T). x.2) (left w h) ≡ take (length (left w h)) (accepted w h)) × AreNumberedFrom 0 (left w h)

-- two live parts agree on each writer of the queue
abbrev pub Agree : {T : Type 0} → QueueShape → LiveQueue T → LiveQueue T → Type 0
Agree q a b = (w : ℕ) → w < q.writers → a w ≡ b w

-- the live part of a lawful state determines which entries are legal next
abbrev pub LiveDetermines : Type 0 → Type 0
LiveDetermines T = (q : QueueShape) (s t : QueueState T) → IsLawful q s → IsLawful q t → Agree q (live_of s) (live_of t) → (e : Entry T) → Fits q
    (live_of s) e ↔ Fits q (live_of t) e

-- after a legal history the live part and an entry give the live part with that entry
abbrev pub LiveAdvances : Type 0 → Type 0
LiveAdvances T = (q : QueueShape) (h : History T) → IsLegal q h → (e : Entry T) (w : ℕ) → live_of (state_of (e ∷ h)) w ≡ live_after e (live_of (state_of h)) w
