use Rattle.std.proofs.Common.{◌≡◌, ◌≤◌, All, length, map, vec_len, vec_capacity}
use Rattle.kmc_stage_two.specs.Bodies.{IsListAt}
use Rattle.kmc_stage_two.proofs.taking.take_bodies.Given as goal

-- there is room for the lists to come, and each list so far is that of the body at its place
abbrev pub invariant-loop-taken : goal.invariant-loop-taken
invariant-loop-taken g l = (vec_len l.lists ≡ l._taken) × (length l.bodies ≤ vec_capacity l.lists)
    × All (λ p. IsListAt l.counting.rule.strands l.counting.rule.k l.counting.limits l.counting.asked (map (λ b. b.items) l.bodies) p.place p.list) l.lists.items
