use Rattle.std.proofs.Common.{◌∙◌, ap}
use Rattle.std.proofs.lemmas.Result.{IfOk-from_err}
use Rattle.kmc_partqueue.specs.Dealing.{row_from}
use Rattle.kmc_partqueue.specs.Seats.{new_writer, new_reader}
use Rattle.kmc_partqueue.proofs.lanes.Lanes.new.Goals as goal

pub deal_writers-requires : goal.deal_writers-requires
deal_writers-requires g c = let is = c.in_ok-lanes.ensures in record { fresh = is.seat; queue = is.queue }

pub deal_readers-requires : goal.deal_readers-requires
deal_readers-requires g c =
    let is = c.in_ok-writer_seats.ensures in record { fresh = is.left; queue = is.queue ∙ c.in_ok-lanes.ensures.queue }

pub returns-in_err-lanes : goal.returns-in_err-lanes
returns-in_err-lanes g c =
    let r = c.from_residual.result in let e = c.from_residual.ensures.0 in
    record { shape = IfOk-from_err r _ e; writers = IfOk-from_err r _ e; readers = IfOk-from_err r _ e }

pub returns-in_err-writer_seats : goal.returns-in_err-writer_seats
returns-in_err-writer_seats g c =
    let r = c.from_residual-in_err-writer_seats.result in let e = c.from_residual-in_err-writer_seats.ensures.0 in
    record { shape = IfOk-from_err r _ e; writers = IfOk-from_err r _ e; readers = IfOk-from_err r _ e }

pub returns-in_err-reader_seats : goal.returns-in_err-reader_seats
returns-in_err-reader_seats g c =
    let r = c.from_residual-in_err-reader_seats.result in let e = c.from_residual-in_err-reader_seats.ensures.0 in
    record { shape = IfOk-from_err r _ e; writers = IfOk-from_err r _ e; readers = IfOk-from_err r _ e }

pub returns : goal.returns
returns g c = let is = c.in_ok-lanes.ensures.shape in let id = c.in_ok-lanes.lanes.table.shared.table_id in record {
  shape = is;
  writers = c.in_ok-writer_seats.ensures.seats ∙ ap (λ q. row_from (new_writer id q) 0 q.writers) is;
  readers = c.in_ok-reader_seats.ensures.seats ∙ ap (λ q. row_from (new_reader id q) 0 q.readers) is;
}
