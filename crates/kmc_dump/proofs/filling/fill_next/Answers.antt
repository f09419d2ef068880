use Rattle.std.proofs.Common.{All, sym, subst}
use Rattle.std.proofs.lemmas.List.Elements.{All-push}
use Rattle.rtrb.specs.Ring.{sent}
use Rattle.kmc_dump.specs.Full.{IsFull}
use Rattle.kmc_dump.proofs.filling.fill_next.Goals.{in-Ok, in-Err}
use Rattle.kmc_dump.proofs.filling.fill_next.Goals as goal

pub returns-clause-sends : goal.returns-clause-sends
returns-clause-sends g c = λ before.
    let P = IsFull (g.F.PairForm.bytes c.args.filling.now.form.now) c.args.filling.now.ranges.now c.args.filling.now.lists.now in
    let so_far : All P (sent c.next_empty.new.filler.full) = subst (λ p. All P (sent p)) (sym c.next_empty.ensures) before.all in
    record {
      all = elim c.match-push.branch [
        | in-Ok w ↦ subst (All P) (sym w.in-Ok.ensures.ok.0) (All-push P (sent c.next_empty.new.filler.full) c.fill.new.buffer so_far c.fill.ensures.full)
        | in-Err w ↦ subst (All P) (sym w.in-Err.ensures.full.1) so_far
      ];
    }
