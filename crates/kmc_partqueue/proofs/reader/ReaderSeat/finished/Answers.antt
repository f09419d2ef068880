use Rattle.std.proofs.Common.{ap, ◌≡◌, ℕ, ◌<◌, Some, slice_get, subst}
use borrow.Author.Count.{below_more}
use Rattle.kmc_partqueue.proofs.ReaderCalls.{open_or_ended}
use Rattle.kmc_partqueue.proofs.reader.ReaderSeat.finished.Goals as goal

pub returns-then-is_open : goal.returns-then-is_open
returns-then-is_open g c = (
  λ e. cc,
  λ all. absurd (open_or_ended (c.is_open.ensures.open c.if-is_open.true)
      (all c.loop-lane.lane (subst (λ (z : ℕ). c.loop-lane.lane < z) (ap (λ v. v.writers) c.self.view_is) c.loop-lane-test.true)).1),
)

pub loop-lane-preserved : goal.loop-lane-preserved
loop-lane-preserved g c =
    below_more (λ w. (t : ℕ) × (slice_get c.args.self.now.totals w ≡ Some (Some t))) c.loop-lane.lane c.loop-lane.invariant
    (c.is_open.ensures.ended c.if-is_open.false)
