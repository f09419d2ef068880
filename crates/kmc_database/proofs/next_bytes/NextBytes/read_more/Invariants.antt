use Rattle.std.proofs.Common.{◌≡◌, ◌-◌}
use Rattle.kmc_database.specs.LeftOf.{left_of, StaysKnown}
use Rattle.kmc_database.proofs.next_bytes.NextBytes.read_more.Given as goal

-- what is left stays, and what is held stands at the front
abbrev pub invariant-loop-self : goal.invariant-loop-self
invariant-loop-self g l = record {
  front : l.self.from ≡ 0;
  same : StaysKnown (left_of g.R.Read.remaining l.initial.self) (left_of g.R.Read.remaining l.self);
}

abbrev pub decreases-loop-self : goal.decreases-loop-self
decreases-loop-self g l = l.size - l.self.to
