-- The numbers of the refusals.
use Rattle.std.specs.Prelude.{ℕ}
use Rattle.kmc_join.specs.declared.request.JoinRequestError.{JoinRequestError}
use Rattle.kmc_join.specs.declared.request.JoinRequestError.TheVariants as request_error
use Rattle.kmc_join.specs.declared.fault.JoinFault.{JoinFault}
use Rattle.kmc_join.specs.declared.fault.JoinFault.TheVariants as fault
use Rattle.kmc_join.specs.declared.query_error.QueryError.{QueryError}
use Rattle.kmc_join.specs.declared.query_error.QueryError.TheVariants as query_error

abbrev pub number_of_request_error : JoinRequestError → ℕ
number_of_request_error request_error.Usage = 1
number_of_request_error (request_error.OutOfRange _) = 2
number_of_request_error request_error.Memory = 3

abbrev pub number_of_fault : JoinFault → ℕ
number_of_fault (fault.Request _) = 1
number_of_fault (fault.NotOpened _) = 2
number_of_fault (fault.Join _) = 3
number_of_fault (fault.Query _) = 4

abbrev pub number_of_query_error : QueryError → ℕ
number_of_query_error query_error.ReadWords = 1
number_of_query_error (query_error.NoWord _) = 2
number_of_query_error (query_error.OtherLength _) = 3
number_of_query_error query_error.Unlike = 4
number_of_query_error (query_error.Dump _) = 5
number_of_query_error query_error.Write = 6
number_of_query_error query_error.Memory = 7
number_of_query_error query_error.TooLong = 8
