use Rattle.std.proofs.Common.{◌≡◌, [], map, replicate}
use Rattle.kmc_store.proofs.bins.Bins.new.Given as goal

abbrev pub invariant-loop : goal.invariant-loop
invariant-loop l = record {
  bodies : map (λ v. v.items) l.bodies.items ≡ replicate l.counter [];
  words : l.words.items ≡ replicate l.counter 0;
}
