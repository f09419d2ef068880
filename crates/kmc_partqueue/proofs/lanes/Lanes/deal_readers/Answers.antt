use Rattle.std.proofs.Common.{arith, sym, ap, ◌∙◌, ℕ, ◌+◌, ◌*◌, ◌<◌, ◌++◌, ◌∷◌, [], subst}
use Rattle.std.proofs.lemmas.Result.{IfOk-from_err}
use Rattle.kmc_partqueue.specs.Seats.{new_reader}
use Rattle.kmc_partqueue.specs.Dealing.{row_from, one_of_readers, fresh_reader}
use Rattle.kmc_partqueue.proofs.Allowed.{splits_reader}
use Rattle.kmc_partqueue.proofs.DealCalls.{pops, all_left, all_dealt, left_readers, own_reader, row_next}
use Rattle.kmc_partqueue.proofs.lanes.Lanes.deal_readers.Goals as goal

pub split_seat-own-requires : goal.split_seat-own-requires
split_seat-own-requires g c =
    let me = c.args.self.now in let all : ℕ = me.shape.writers * me.shape.per_writer in (
      c.loop-number.invariant.0,
      subst (λ (z : ℕ). 0 < z) (sym me.sized.0)
          (let w : 0 < me.shape.writers = me.shape.within.0 in let x : 0 < 2 * me.shape.writers + all = omega arith in x),
      splits_reader me.table.shared.key c.loop-number.seat.id c.loop-number.seat.me.0,
    )

pub fresh-requires : goal.fresh-requires
fresh-requires g c =
    let me = c.args.self.now in let inv = c.loop-number.invariant in let i : ℕ = c.loop-number.number in
    let p = pops i inv.1.0 me.shape.readers inv.1.1 c.loop-number-test.true in
    own_reader me.table.shared.key i inv.1.0 p.0 p.1 c.loop-number.seat.me c.split_seat-own.result.me inv.1.2 c.split_seat-own.ensures.4
    ∙ (λ j. (one_of_readers (fresh_reader (me.shaped j) i), []))

pub loop-number-preserved : goal.loop-number-preserved
loop-number-preserved g c =
    let me = c.args.self.now in let inv = c.loop-number.invariant in let i : ℕ = c.loop-number.number in
    let p = pops i inv.1.0 me.shape.readers inv.1.1 c.loop-number-test.true in
    let id = c.split_seat-own.ensures.3 ∙ inv.0 in (
      c.split_seat-own.ensures.0 ∙ inv.0,
      (p.0, p.2, left_readers me.table.shared.key i inv.1.0 p.0 p.1 c.loop-number.seat.me c.split_seat-own.new.seat.me inv.1.2 c.split_seat-own.ensures.2),
      c.in_ok-push.ensures.items ∙ (λ j. inv.2 j ++ (c.fresh.ensures ∙ (λ l. new_reader (id l) me.shape i)) j ∷ []) ∙ sym
          (row_next (new_reader me.table.shared.table_id me.shape) i),
    )

pub loop-number-init : goal.loop-number-init
loop-number-init g c =
    let all : ℕ = c.args.self.now.shape.readers in (c.requires.queue, (all, all_left all, c.requires.fresh), c.new-seats.ensures.items)

pub returns-in_err-push : goal.returns-in_err-push
returns-in_err-push g c = record { seats = IfOk-from_err c.from_residual.result _ c.from_residual.ensures.0 }

pub returns : goal.returns
returns g c =
    let me = c.args.self.now in let inv = c.loop-number.invariant in
    let all = (all_dealt c.loop-number.number inv.1.0 me.shape.readers inv.1.1 c.loop-number-test.false).1 in
    record { seats = inv.2 ∙ ap (row_from (new_reader me.table.shared.table_id me.shape) 0) all }
