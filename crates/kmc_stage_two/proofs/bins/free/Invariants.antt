use Rattle.std.proofs.Common.{◌≡◌, [], length, map, take, replicate}
use Rattle.kmc_stage_two.proofs.bins.free.Given as goal

-- the records of the bodies so far are freed
abbrev pub invariant-loop-place : goal.invariant-loop-place
invariant-loop-place l = (length l.bodies ≡ length l.initial.bodies) × (map (λ b. b.items) (take l.place l.bodies) ≡ replicate l.place [])
