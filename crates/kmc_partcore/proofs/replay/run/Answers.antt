-- The history so far is legal and the queue holds its live part; each call adds its entry.
use Rattle.std.proofs.Common.{◌∙◌, ◌∷◌, ◌++◌, [], sym, ap, subst, arith, length, length-append, append_assoc}
use Rattle.std.proofs.lemmas.List.{append-nil}
use Rattle.kmc_partcore.specs.Legal.{IsLegal, history_of}
use Rattle.kmc_partcore.specs.CoreState.{CoreState, Holds}
use Rattle.kmc_partcore.proofs.Histories.{answered, none_left}
use Rattle.kmc_partcore.proofs.Calls.{opening_holds}
use Rattle.kmc_partcore.proofs.replay.run.Goals as goal

pub loop-event-init : goal.loop-event-init
loop-event-init g c = let none = c.in_ok-replies.ensures.items in let is = c.in_ok-core.ensures in record {
  shape = ap (λ (s : CoreState g.row.T.Denot). s.shape) is;
  all = ap length none;
  whole = c.into_iter-event-iterator.ensures.into_iter_gives.0;
  legal = tt;
  holds = subst (λ (s : CoreState g.row.T.Denot). Holds s []) (sym is) (opening_holds c.args.shape);
}

pub loop-event-preserved : goal.loop-event-preserved
loop-event-preserved g c = let inv = c.loop-event.invariant in let pushed = c.in_ok-push.ensures.items in let next = c.in-Some.ensures.steps in
    let after = answered c.args.shape c.loop-event.core c.answer.new.core c.loop-event.yielded c.loop-event.replies.items c.push.new.self.items c.in-Some.event c.answer.result inv.shape inv.all pushed inv.legal inv.holds c.answer.ensures.legal in record {
      shape = c.answer.ensures.shape ∙ inv.shape;
      all = (let a = length-append c.loop-event.replies.items (c.answer.result ∷ []) in let b = length-append c.loop-event.yielded
          (c.in-Some.event ∷ []) in let d = ap length pushed in let e = inv.all in omega arith);
      whole = append_assoc c.loop-event.yielded (c.in-Some.event ∷ []) c.next.new.self.rest.items ∙ ap (λ z. c.loop-event.yielded ++ z) (sym next.0)
          ∙ inv.whole;
      legal = after.0;
      holds = after.1;
    }

pub returns-clause-all : goal.returns-clause-all
returns-clause-all g c = let inv = c.loop-event.invariant in let end = c.in-None.ensures.steps.0 in let ok = c.loop-event.event-iterator.rest.ok.0 in
    let done = none_left c.loop-event.event-iterator.rest.items (sym ok ∙ end) in inv.all ∙ ap length
    (sym (append-nil c.loop-event.yielded) ∙ ap (λ z. c.loop-event.yielded ++ z) (sym done) ∙ inv.whole)

pub returns-clause-legal : goal.returns-clause-legal
returns-clause-legal g c = let inv = c.loop-event.invariant in let end = c.in-None.ensures.steps.0 in let ok = c.loop-event.event-iterator.rest.ok.0 in
    let done = none_left c.loop-event.event-iterator.rest.items (sym ok ∙ end) in subst
    (λ z. IsLegal c.args.shape (history_of z c.loop-event.replies.items))
    (sym (append-nil c.loop-event.yielded) ∙ ap (λ z. c.loop-event.yielded ++ z) (sym done) ∙ inv.whole) inv.legal
