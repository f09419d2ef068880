use Rattle.std.proofs.Common.{Option, ℕ, List, All, IfOk}
use Rattle.std.specs.Vec.Iter.{into_iter_items}
use Rattle.kmc_base.specs.declared.strands.Strands.{Strands}
use Rattle.kmc_count.specs.declared.judging.AskedBin.{AskedBin}
use Rattle.kmc_count.specs.declared.limits.Limits.{Limits}
use Rattle.kmc_stage_two.specs.Bodies.{IsListAt}
use Rattle.kmc_stage_two.proofs.placed.all_made.Given as goal

-- the lists so far are of their places, where those of all rows are
abbrev pub invariant-loop-row : goal.invariant-loop-row
invariant-loop-row g l = (strands : Strands) (k : ℕ) (m : Limits) (asked : Option AskedBin) (bodies : List (List ℕ))
    → All (λ r. IfOk r (λ lists. All (λ p. IsListAt strands k m asked bodies p.place p.list) lists.items)) l.fn.rows.items
    → All (λ r. IfOk r (λ lists. All (λ p. IsListAt strands k m asked bodies p.place p.list) lists.items)) (into_iter_items l.row-iterator)
    × All (λ p. IsListAt strands k m asked bodies p.place p.list) l.lists.items
