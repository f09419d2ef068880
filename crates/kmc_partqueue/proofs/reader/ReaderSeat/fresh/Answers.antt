use Rattle.std.proofs.Common.{refl, ap, replicate, None}
use Rattle.kmc_partqueue.specs.Seats.{got_of}
use Rattle.kmc_partqueue.proofs.DealCalls.{fresh_between}
use Rattle.kmc_partqueue.proofs.reader.ReaderSeat.fresh.Goals as goal

pub invariant_of-result : goal.invariant_of-result
invariant_of-result g c =
    let k = c.args.shape.now in
    fresh_between k c.args.number k.per_writer k.writers c.args.seat.me c.requires refl refl k.within.0 k.within.1

pub returns : goal.returns
returns g c =
    let k = c.args.shape.now in
    λ j. record {
      table = c.args.seat.table_id;
      number = c.args.number;
      per_writer = k.per_writer;
      writers = k.writers;
      got = ap
          (λ m. got_of m.0) c.requires j;
      totals = replicate 16 None;
    }
