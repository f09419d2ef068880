use Rattle.std.proofs.Common.{map, take}
use Rattle.kmc_stage_two.specs.Bodies.{AreListsOfBodies}
use Rattle.kmc_stage_two.specs.Lemmas.Judged.{AreOfBinsTo}
use Rattle.kmc_stage_two.proofs.row.list_row.Given as goal

-- the bodies so far are counted, and are of their bins
abbrev pub invariant-loop-place : goal.invariant-loop-place
invariant-loop-place g l =
    AreListsOfBodies l.counting.rule.strands l.counting.rule.k l.counting.limits (map (λ b. b.items) (take l.place l.bodies)) l.lists.items
    × AreOfBinsTo l.place l.counting.asked (map (λ b. b.items) l.bodies)
