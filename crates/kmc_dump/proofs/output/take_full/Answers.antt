use Rattle.std.proofs.Common.{sym, subst, All, [], ◌∷◌}
use Rattle.rtrb.specs.Ring.{received}
use Rattle.kmc_dump.specs.Full.{IsFull}
use Rattle.kmc_dump.proofs.Ends.{front_are, last_is, same_consumer}
use Rattle.kmc_dump.proofs.output.take_full.Goals.{in-Ok+else-buffer-range, in-Err+else-has_left}
use Rattle.kmc_dump.proofs.output.take_full.Goals as goal

pub returns-then-buffer-range-clause-gets : goal.returns-then-buffer-range-clause-gets
returns-then-buffer-range-clause-gets g c = λ line r lists more.
    c.loop.invariant.gets line r lists
    (record {
      all = front_are (IsFull line r lists) (received c.loop.tray.full) (c.in-Ok.buffer ∷ []) (received c.pop.new.self) (sym c.in-Ok.ensures.ok.0) more.all;
    })

pub returns-then-buffer-range-clause-got : goal.returns-then-buffer-range-clause-got
returns-then-buffer-range-clause-got g c = λ line r lists more.
    last_is (IsFull line r lists) (received c.loop.tray.full) (received c.pop.new.self) c.in-Ok.buffer c.in-Ok.ensures.ok.0 more.all

pub returns-then-has_left-clause-gets : goal.returns-then-has_left-clause-gets
returns-then-has_left-clause-gets g c = λ line r lists more.
    c.loop.invariant.gets line r lists (record { all = subst (All (IsFull line r lists)) c.in-Err.ensures.empty.0 more.all })

pub loop-preserved : goal.loop-preserved
loop-preserved g c = record {
  ring = same_consumer c.args.tray.now.full c.loop.tray.full c.pop.new.self c.loop.invariant.ring c.pop.ensures.ring;
  gets = λ line r lists more.
      c.loop.invariant.gets line r lists (record {
        all = elim c.match-pop.branch [
          | in-Ok+else-buffer-range w ↦
              front_are (IsFull line r lists) (received c.loop.tray.full) (w.in-Ok.buffer ∷ []) (received c.pop.new.self) (sym w.in-Ok.ensures.ok.0) more.all
          | in-Err+else-has_left w ↦ subst (All (IsFull line r lists)) w.in-Err.ensures.empty.0 more.all
        ];
      });
}
