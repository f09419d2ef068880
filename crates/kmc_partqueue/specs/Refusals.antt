-- Why a put is refused.
use Rattle.std.specs.Prelude.{◌≡◌, ℕ, ◌≤◌}
use Rattle.kmc_partcore.specs.declared.shape.TheConstants.{MAX_ITEMS}
use Rattle.kmc_partqueue.specs.declared.writer.TryPutError.{TryPutError}
use Rattle.kmc_partqueue.specs.declared.writer.TryPutError.TheVariants.{Full, NumbersSpent}

-- of the number of parts put before, and of the slots of a lane
abbrev pub Refused : ℕ → ℕ → TryPutError → Type 0
Refused count per_writer Full = per_writer ≤ count
Refused count per_writer NumbersSpent = count ≡ MAX_ITEMS
