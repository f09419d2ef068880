-- An entry of a table, taken and checked.
use Rattle.std.specs.Prelude.{◌≡◌, ℕ, ◌^◌, ◌<◌, ◌≤◌, ◌⊎◌, List, ◌++◌, length, Option}
use Rattle.std.specs.Io.KnownBytes.{IsAtEnd}
use Rattle.kmc_device.specs.Device.{RisesByOne}
use Rattle.kmc_sum.specs.Source.{GoesOn}
use Rattle.kmc_database.specs.Numbers.{low_first}
use Rattle.kmc_database.specs.declared.unpack_error.UnpackError.{UnpackError}
use Rattle.kmc_database.specs.declared.unpack_error.UnpackError.TheVariants.{Entry, Changed, ReadPrefix}

-- the reader went on by some bytes, and this entry was taken, which is within its bounds
pub record HasEntry (least most : ℕ) (old new : Option (List ℕ)) (before after : List ℕ) (entry : ℕ) : Type 0 where
  pub goes : GoesOn old new before (low_first 8 entry ++ after)
  pub above : least ≤ entry
  pub below : entry ≤ most

-- the entry is not within its bounds
pub record IsOutOfBounds (least most : ℕ) (old new : Option (List ℕ)) (before : List ℕ) : Type 0 where
  pub entry : ℕ
  pub small : entry < 2 ^ 64
  pub more : List ℕ
  pub goes : GoesOn old new before (low_first 8 entry ++ more)
  pub out : (entry < least) ⊎ (most < entry)

-- the table ends here
pub record IsTableEnd (old new : Option (List ℕ)) (before : List ℕ) : Type 0 where
  pub rest : List ℕ
  pub goes : GoesOn old new before rest
  pub short : length rest < 8
  pub end : IsAtEnd new

-- a read of the table failed
pub record IsReadLost (old new : Option (List ℕ)) (before : List ℕ) (failed fails : ℕ) : Type 0 where
  pub rest : List ℕ
  pub goes : GoesOn old new before rest
  pub rises : RisesByOne failed fails

-- why no entry with this number was taken
abbrev pub IsEntryRefused : ℕ → ℕ → ℕ → Option (List ℕ) → Option (List ℕ) → List ℕ → ℕ → ℕ → UnpackError → Type 0
IsEntryRefused number least most old new before failed fails (Entry i) =
    (i ≡ number) × IsOutOfBounds least most old new before × (fails ≡ failed)
IsEntryRefused number least most old new before failed fails Changed = IsTableEnd old new before × (fails ≡ failed)
IsEntryRefused number least most old new before failed fails ReadPrefix = IsReadLost old new before failed fails
IsEntryRefused number least most old new before failed fails e = ⊥
