-- How a refusal of the feeder is told by a round.
use Rattle.kmc_reads.specs.declared.error.ReadsError.{ReadsError}
use Rattle.kmc_reads.specs.declared.error.ReadsError.TheVariants as reads
use Rattle.kmc_reads.specs.declared.input_error.InputError.{InputError}
use Rattle.kmc_reads.specs.declared.input_error.InputError.TheVariants.{Memory, Faulty}

abbrev pub input_error : ReadsError → InputError
input_error reads.Memory = Memory
input_error (reads.BadHeader line) = Faulty (reads.BadHeader line)
input_error (reads.BadPlus line) = Faulty (reads.BadPlus line)
input_error (reads.QualityLength line) = Faulty (reads.QualityLength line)
input_error (reads.Truncated line) = Faulty (reads.Truncated line)
