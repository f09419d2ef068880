-- The numbers of the refusals.
use Rattle.std.specs.Prelude.{ℕ}
use Rattle.kmc_partcore.specs.declared.event.RegisterError.{RegisterError}
use Rattle.kmc_partcore.specs.declared.event.RegisterError.TheVariants as register_error
use Rattle.kmc_partcore.specs.declared.event.PutError.{PutError}
use Rattle.kmc_partcore.specs.declared.event.PutError.TheVariants as put_error
use Rattle.kmc_partcore.specs.declared.event.TakeError.{TakeError}
use Rattle.kmc_partcore.specs.declared.event.TakeError.TheVariants as take_error
use Rattle.kmc_partcore.specs.declared.event.CompleteError.{CompleteError}
use Rattle.kmc_partcore.specs.declared.event.CompleteError.TheVariants as complete_error

abbrev pub number_of_register_error : RegisterError → ℕ
number_of_register_error register_error.NoSuchWriter = 1
number_of_register_error register_error.AlreadyRegistered = 2

abbrev pub number_of_put_error : PutError → ℕ
number_of_put_error put_error.NoSuchWriter = 1
number_of_put_error put_error.NotRegistered = 3
number_of_put_error put_error.Completed = 4
number_of_put_error put_error.NumbersSpent = 6
number_of_put_error put_error.Full = 5

abbrev pub number_of_take_error : TakeError → ℕ
number_of_take_error take_error.NoSuchReader = 7

abbrev pub number_of_complete_error : CompleteError → ℕ
number_of_complete_error complete_error.NoSuchWriter = 1
number_of_complete_error complete_error.NotRegistered = 3
number_of_complete_error complete_error.Completed = 4
