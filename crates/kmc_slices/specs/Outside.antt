-- Bodies from outside that are to be bins.
use Rattle.std.specs.Prelude.{ℕ, ◌<◌, List}
use Rattle.kmc_record.specs.Bodies.{AreRecordsOfBin, IsFirstError}
use Rattle.kmc_record.specs.Shapes.{Sizes}
use Rattle.kmc_store.specs.Bins.{body_at}
use Rattle.kmc_slices.specs.declared.bin_fault.BinFault.{BinFault}

-- the bodies of the bins before are records of their bins, and this is the first fault of that of this bin, so it is no want of memory
pub record IsBinFault (shape : Sizes) (bodies : List (List ℕ)) (e : BinFault) : Type 0 where
  pub inside : e.bin < shape.n
  pub before : (i : ℕ) → i < e.bin → AreRecordsOfBin i shape (body_at bodies i)
  pub here : IsFirstError e.bin shape e.why (body_at bodies e.bin)
