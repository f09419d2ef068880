-- The numbers of the refusals.
use Rattle.std.specs.Prelude.{ℕ}
use Rattle.kmc_partqueue.specs.declared.writer.TryPutError.{TryPutError}
use Rattle.kmc_partqueue.specs.declared.writer.TryPutError.TheVariants as try_put_error
use Rattle.kmc_partqueue.specs.declared.refusal.Refusal.{Refusal}
use Rattle.kmc_partqueue.specs.declared.refusal.Refusal.TheVariants as refusal

abbrev pub number_of_try_put_error : TryPutError → ℕ
number_of_try_put_error try_put_error.Full = 5
number_of_try_put_error try_put_error.NumbersSpent = 6

abbrev pub number_of_refusal : Refusal → ℕ
number_of_refusal refusal.Memory = 1
number_of_refusal refusal.NumbersSpent = 6
