use Rattle.std.proofs.Common.{◌≡◌, ◌<◌, inl, inr, length, get_or, sym, ◌∙◌, arith}
use Rattle.std.proofs.lemmas.Bool.{cases_lt}
use Rattle.std.proofs.lemmas.List.{get_or-set_other}
use Rattle.rtrb.specs.Ring.{known_items}
use Rattle.kmc_dump.specs.Full.{IsFull}
use Rattle.kmc_dump.proofs.Ends.{lane_told, read_alike, some_at}
use Rattle.kmc_dump.proofs.output.compare_ends.Goals as goal

pub loop-lane-preserved : goal.loop-lane-preserved
loop-lane-preserved g c =
    let now = c.loop-lane in
    let f = c.index-fillers-lane.result in
    let t = c.index-trays-lane.result in
    let inside_too : now.lane < length c.args.trays.now = omega (arith, c.loop-lane-test.true, c.requires.paired.long) in
    record {
      fillers = λ i d higher.
          get_or-set_other now.fillers now.lane i _ d (λ same. omega (arith, higher, same)) ∙ now.invariant.fillers i d (omega (arith, higher));
      trays = λ i e higher.
          get_or-set_other now.trays now.lane i _ e (λ same. omega (arith, higher, same)) ∙ now.invariant.trays i e (omega (arith, higher));
      gets = λ line r lists i d e below sends.
          elim (cases_lt i now.lane) [
            | inl front ↦ now.invariant.gets line r lists i d e front sends
            | inr last ↦
                let at : i ≡ now.lane = omega (arith, below, last) in
                lane_told (IsFull line r lists) (get_or c.args.fillers.now i d) (get_or now.fillers now.lane f) (get_or c.args.trays.now i e) (get_or now.trays now.lane t)
                c.slots_beside.new.producer c.slots_beside.new.self (known_items c.slots_beside.new.self)
                (read_alike c.args.fillers.now i now.lane d f at (omega (arith, at, c.loop-lane-test.true)) ∙ sym (now.invariant.fillers now.lane f (omega arith)))
                (read_alike c.args.trays.now i now.lane e t at (omega (arith, at, inside_too)) ∙ sym (now.invariant.trays now.lane t (omega arith)))
                c.slots_beside.ensures.producer.1 c.slots_beside.ensures.looked.1 c.slots_beside.ensures.fifo sends
          ];
    }

pub returns : goal.returns
returns g c = λ line r lists all k e inside.
    let here : k < length c.args.fillers.now = omega (arith, inside, c.requires.paired.long) in
    let f = (some_at c.args.fillers.now k here).0 in
    c.loop-lane.invariant.gets line r lists k f e (omega (arith, here, c.loop-lane-test.false)) (all k f here)
