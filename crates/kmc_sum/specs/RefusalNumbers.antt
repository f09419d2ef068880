-- The numbers of the refusals.
use Rattle.std.specs.Prelude.{ℕ}
use Rattle.kmc_sum.specs.declared.error.LineFault.{LineFault}
use Rattle.kmc_sum.specs.declared.error.LineFault.TheVariants as line_fault
use Rattle.kmc_sum.specs.declared.error.SourceFault.{SourceFault}
use Rattle.kmc_sum.specs.declared.error.SourceFault.TheVariants as source_fault
use Rattle.kmc_sum.specs.declared.error.SumError.{SumError}
use Rattle.kmc_sum.specs.declared.error.SumError.TheVariants as sum_error
use Rattle.kmc_sum.specs.declared.request.RequestError.{RequestError}
use Rattle.kmc_sum.specs.declared.request.RequestError.TheVariants as request_error
use Rattle.kmc_sum.specs.declared.fault.Fault.{Fault}
use Rattle.kmc_sum.specs.declared.fault.Fault.TheVariants as fault

abbrev pub number_of_line_fault : LineFault → ℕ
number_of_line_fault line_fault.Malformed = 1
number_of_line_fault line_fault.OtherLength = 2
number_of_line_fault line_fault.NotRising = 3

abbrev pub number_of_source_fault : SourceFault → ℕ
number_of_source_fault source_fault.Read = 1
number_of_source_fault (source_fault.Line _ _) = 2

abbrev pub number_of_sum_error : SumError → ℕ
number_of_sum_error (sum_error.Source _) = 1
number_of_sum_error sum_error.Write = 2
number_of_sum_error sum_error.Memory = 3
number_of_sum_error sum_error.TooLong = 4

abbrev pub number_of_request_error : RequestError → ℕ
number_of_request_error request_error.Usage = 1
number_of_request_error (request_error.OutOfRange _) = 2
number_of_request_error request_error.Memory = 3

abbrev pub number_of_fault : Fault → ℕ
number_of_fault (fault.Request _) = 1
number_of_fault (fault.NotOpened _) = 2
number_of_fault (fault.Sum _) = 3
