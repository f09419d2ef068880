-- The numbers of the refusals.
use Rattle.std.specs.Prelude.{ℕ}
use Rattle.kmc_reads.specs.declared.error.ReadsError.{ReadsError}
use Rattle.kmc_reads.specs.declared.error.ReadsError.TheVariants.{Memory, BadHeader, BadPlus, QualityLength, Truncated}

abbrev pub number_of_reads_error : ReadsError → ℕ
number_of_reads_error Memory = 1
number_of_reads_error (BadHeader line) = 2
number_of_reads_error (BadPlus line) = 3
number_of_reads_error (QualityLength line) = 4
number_of_reads_error (Truncated line) = 5
