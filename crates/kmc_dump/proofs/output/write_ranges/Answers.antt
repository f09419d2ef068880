use Rattle.kmc_dump.specs.Full.{IsFull}
use Rattle.kmc_dump.proofs.Ends.{all_send, still_paired}
use Rattle.kmc_dump.proofs.output.write_ranges.Goals as goal

pub compare_ends-requires : goal.compare_ends-requires
compare_ends-requires g c = record {
  paired = still_paired c.args.fillers.now c.write_beside-written.new.fillers c.args.trays.now c.write_beside-written.new.trays c.requires.lanes.paired
      c.write_beside-written.auto.fillers c.write_beside-written.auto.trays c.write_beside-written.ensures.sent.same c.write_beside-written.ensures.written.same;
}

pub returns : goal.returns
returns g c =
    let r = c.args.filling.now.ranges.now in
    let lists = c.args.filling.now.lists.now in
    let line = g.F.PairForm.bytes c.args.filling.now.form.now in
    c.write_beside-written.ensures.written.written
    (c.compare_ends.ensures line r lists
    (all_send (IsFull line r lists) c.args.fillers.now c.write_beside-written.new.fillers c.requires.lanes.none c.write_beside-written.auto.fillers
    c.write_beside-written.ensures.sent.more))
