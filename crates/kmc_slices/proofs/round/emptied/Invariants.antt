use Rattle.std.proofs.Common.{◌≡◌, [], length, map, replicate}
use Rattle.kmc_slices.proofs.round.emptied.Given as goal

abbrev pub invariant-loop-body : goal.invariant-loop-body
invariant-loop-body l = record {
  bodies : map (λ v. v.items) l.bodies.items ≡ replicate (length l.yielded) [];
  words : l.words.items ≡ replicate (length l.yielded) 0;
}
