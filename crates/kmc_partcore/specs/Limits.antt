-- The limits of a queue's shape.
use Rattle.std.specs.Prelude.{ℕ, ◌≤◌}
use Rattle.kmc_partcore.specs.declared.shape.TheConstants.{MAX_WRITERS, MAX_PER_WRITER, MAX_READERS}

-- 1 to 16 writers, 1 to 64 waiting items of each, 1 to 8 readers
abbrev pub IsWithinLimits : ℕ → ℕ → ℕ → Type 0
IsWithinLimits writers per_writer readers = (1 ≤ writers) × (writers ≤ MAX_WRITERS) × (1 ≤ per_writer) × (per_writer ≤ MAX_PER_WRITER)
    × (1 ≤ readers) × (readers ≤ MAX_READERS)
