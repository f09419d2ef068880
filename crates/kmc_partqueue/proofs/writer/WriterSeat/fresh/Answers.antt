use Rattle.std.proofs.Common.{arith, refl, ap, []}
use Rattle.kmc_partqueue.specs.Seats.{sent_of}
use Rattle.kmc_partqueue.proofs.WriterCalls.{rests}
use Rattle.kmc_partqueue.proofs.writer.WriterSeat.fresh.Goals as goal

pub invariant_of-result : goal.invariant_of-result
invariant_of-result g c = rests c.args.seat.me c.args.number c.args.per_writer 0 [] c.requires refl (omega arith)

pub returns : goal.returns
returns g c =
    λ j. record { table = c.args.seat.table_id; number = c.args.number; per_writer = c.args.per_writer; sent = ap (λ m. sent_of m.0) c.requires j }
