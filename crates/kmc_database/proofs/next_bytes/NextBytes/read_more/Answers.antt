use Rattle.std.proofs.Common.{◌≡◌, ◌-◌, length, drop, arith, length-drop}
use Rattle.std.proofs.lemmas.List.{length-take-le}
use Rattle.kmc_database.specs.LeftOf.{held_of}
use Rattle.kmc_database.proofs.LeftBytes.{filled_more, filled_none, filled_same}
use Rattle.kmc_database.proofs.next_bytes.NextBytes.read_more.Goals as goal

pub returns-in_err-count-clause-same : goal.returns-in_err-count-clause-same
returns-in_err-count-clause-same g c = λ bytes known.
    let f = c.loop-self.self in
    filled_same f.room c.read.new.buf f.from f.to 16384 c.loop-self.invariant.front (omega arith) (omega arith) _ _ c.in_err-count.ensures.bytes bytes
    (c.loop-self.invariant.same bytes known)

pub returns-then-count-eq0-clause-same : goal.returns-then-count-eq0-clause-same
returns-then-count-eq0-clause-same g c = λ bytes known.
    let f = c.loop-self.self in
    filled_none f.room c.read.new.buf f.from f.to 16384 c.loop-self.invariant.front (omega arith) (omega arith) c.in_ok-count.count _ _
    c.if-count-eq0.true c.in_ok-count.ensures.bytes.0 bytes (c.loop-self.invariant.same bytes known)

pub loop-self-preserved : goal.loop-self-preserved
loop-self-preserved g c =
    let f = c.loop-self.self in
    record {
      front = c.loop-self.invariant.front;
      same = λ bytes known.
          filled_more f.room c.read.new.buf f.from f.to 16384 c.loop-self.invariant.front (omega arith) (omega arith) c.in_ok-count.count _ _
          (omega (arith, c.in_ok-count.ensures.bound.0)) c.in_ok-count.ensures.bytes.0 bytes (c.loop-self.invariant.same bytes known);
    }

pub returns-clause-there : goal.returns-clause-there
returns-clause-there g c = λ _.
    let f = c.loop-self.self in
    let long : length (held_of f) ≡ f.to - f.from = length-take-le (f.to - f.from) (drop f.from f.room) (omega (arith, length-drop f.from f.room)) in
    omega (arith, long, c.loop-self-test.false, c.loop-self.invariant.front)
