-- Why no record was read.
use Rattle.std.specs.Prelude.{ℕ, List}
use Rattle.kmc_record.specs.Faults.{HasFault}
use Rattle.kmc_record.specs.Refusals.{BeginsRecord}
use Rattle.kmc_record.specs.declared.plain.decoding.RecordError.{RecordError}
use Rattle.kmc_record.specs.declared.plain.decoding.RecordError.TheVariants.{Damaged, Memory}

-- when each refusal comes
abbrev pub IsRefusedRecord : ℕ → RecordError → List ℕ → Type 0
IsRefusedRecord k (Damaged fault) bytes = HasFault k fault bytes
IsRefusedRecord k Memory bytes = BeginsRecord k bytes
