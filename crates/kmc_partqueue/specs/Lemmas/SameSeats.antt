-- A seat that stays the same one twice.
use Rattle.std.proofs.Common.{◌∙◌}
use Rattle.kmc_partqueue.specs.Seats.{WriterState, ReaderState}
use Rattle.kmc_partqueue.specs.SameSeats.{IsSameWriter, IsSameReader}

pub same_seat : {T : Type 0} (a b c : WriterState T) → IsSameWriter a b → IsSameWriter b c → IsSameWriter a c
same_seat a b c x y = record { table = y.table ∙ x.table; number = y.number ∙ x.number; per_writer = y.per_writer ∙ x.per_writer }

pub same_reader : {T : Type 0} (a b c : ReaderState T) → IsSameReader a b → IsSameReader b c → IsSameReader a c
same_reader a b c x y =
    record { table = y.table ∙ x.table; number = y.number ∙ x.number; per_writer = y.per_writer ∙ x.per_writer; writers = y.writers ∙ x.writers }
