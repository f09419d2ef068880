use Rattle.std.proofs.Common.{◌%◌, ◌<◌, length, refl, subst, arith, mod-lt}
use Rattle.std.proofs.lemmas.List.{get_or-set_same, length-set}
use Rattle.rtrb.specs.Ring.{SameConsumer}
use Rattle.kmc_dump.specs.Full.{IsFull}
use Rattle.kmc_dump.specs.Lanes.{Gets}
use Rattle.kmc_dump.specs.declared.lane.Tray.{Tray}
use Rattle.kmc_dump.proofs.Ends.{all_got, one_tray, read_alike, some_are}
use Rattle.kmc_dump.proofs.output.write_next.Goals as goal

pub returns-then-is_empty-clause-written : goal.returns-then-is_empty-clause-written
returns-then-is_empty-clause-written g c = record { same = λ i d inside. ((refl, refl, refl, refl), refl); written = λ all. c.write_own.ensures.written }

pub returns-clause-gets : goal.returns-clause-gets
returns-clause-gets g c = λ line r lists more.
    let trays = c.args.trays.now in
    let lane = c.args.range % length trays in
    let inside : lane < length trays = mod-lt c.args.range (some_are trays (c.if-is_empty.ensures)) in
    all_got (IsFull line r lists) trays lane c.write_range.new.tray inside
    (λ d got. subst (Gets (IsFull line r lists)) (read_alike trays lane lane c.index-trays-lane.result d refl inside) (c.write_range.ensures.gets line r lists got)) more

pub returns-clause-written : goal.returns-clause-written
returns-clause-written g c =
    let trays = c.args.trays.now in
    let lane = c.args.range % length trays in
    let new = c.write_range.new.tray in
    let inside : lane < length trays = mod-lt c.args.range (some_are trays (c.if-is_empty.ensures)) in
    record {
      same = one_tray trays lane new inside
          (λ d. subst (λ (x : Tray g.row.W.Denot). SameConsumer x.full new.full) (read_alike trays lane lane c.index-trays-lane.result d refl inside) c.write_range.ensures.ring);
      written = λ all.
          c.write_range.ensures.written
          (subst (Gets (IsFull (g.F.PairForm.bytes c.args.filling.now.form.now) c.args.filling.now.ranges.now c.args.filling.now.lists.now)) (get_or-set_same trays lane new new inside)
          (all lane new (omega (arith, inside, length-set trays lane new))));
    }
