-- The numbers of the refusals.
use Rattle.std.specs.Prelude.{ℕ}
use Rattle.kmc_dump.specs.declared.write.DumpError.{DumpError}
use Rattle.kmc_dump.specs.declared.write.DumpError.TheVariants.{Memory, Write}

abbrev pub number_of_dump_error : DumpError → ℕ
number_of_dump_error Memory = 1
number_of_dump_error Write = 3
