use Rattle.std.proofs.Common.{Option, ◌≡◌, ◌≤◌, ℕ, List, All, vec_len, vec_capacity}
use Rattle.kmc_base.specs.declared.strands.Strands.{Strands}
use Rattle.kmc_count.specs.declared.judging.AskedBin.{AskedBin}
use Rattle.kmc_count.specs.declared.limits.Limits.{Limits}
use Rattle.kmc_stage_two.specs.Bodies.{IsListAt}
use Rattle.kmc_stage_two.specs.Lemmas.PlacedLists.{ArePlaced}
use Rattle.kmc_stage_two.proofs.placed.in_order.Given as goal

-- there is room for all lists; those that are left stand for their places, and those so far for the first bodies
abbrev pub invariant-loop-place : goal.invariant-loop-place
invariant-loop-place g l = (vec_len l.lists ≡ l.place) × (l.count ≤ vec_capacity l.lists)
    × ((strands : Strands) (k : ℕ) (m : Limits) (asked : Option AskedBin) (bodies : List (List ℕ))
    → All (λ p. IsListAt strands k m asked bodies p.place p.list) l.fn.placed.items
    → All (λ p. IsListAt strands k m asked bodies p.place p.list) l.left.items
    × ArePlaced strands k m asked bodies l.place l.lists.items)
