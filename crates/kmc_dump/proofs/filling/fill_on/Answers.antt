use Rattle.std.proofs.Common.{sym, subst}
use Rattle.kmc_dump.specs.Full.{IsFull}
use Rattle.kmc_dump.specs.Lanes.{Sends}
use Rattle.kmc_dump.proofs.Ends.{same_producer}
use Rattle.kmc_dump.proofs.filling.fill_on.Goals.{else-loop-range-test, then-loop-range-test+then-not-fill_next}
use Rattle.kmc_dump.proofs.filling.fill_on.Goals as goal

pub loop-range-preserved : goal.loop-range-preserved
loop-range-preserved g c = record {
  ring = same_producer c.args.filler.now.full c.loop-range.filler.full c.fill_next.new.filler.full c.loop-range.invariant.ring c.fill_next.ensures.ring;
  sends = λ all. c.fill_next.ensures.sends (c.loop-range.invariant.sends all);
}

pub returns-clause-sends : goal.returns-clause-sends
returns-clause-sends g c = λ all.
    let P = Sends (IsFull (g.F.PairForm.bytes c.args.filling.now.form.now) c.args.filling.now.ranges.now c.args.filling.now.lists.now) in
    elim c.loop-range-test.branch [
      | else-loop-range-test w ↦ subst P (sym w.filler-is) (c.loop-range.invariant.sends all)
      | then-loop-range-test+then-not-fill_next w ↦ subst P (sym w.filler-is) (w.fill_next.ensures.sends (c.loop-range.invariant.sends all))
    ]
