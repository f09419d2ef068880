-- The counts that a dump has for keys.
use Rattle.std.specs.Prelude.{◌≡◌, ◌-◌, ◌^◌, ◌≤◌, ◌==◌, ℕ, List, Option, length, if◌then◌else◌}
use Rattle.kmc_device.specs.Device.{GaveAll, RisesByOne, Watched}
use Rattle.kmc_sum.specs.Faults.{GaveFront, IsFaultAt}
use Rattle.kmc_sum.specs.Listed.{IsLength, Lists}
use Rattle.kmc_sum.specs.Sum.{listed_count}
use Rattle.kmc_sum.specs.declared.error.LineFault.TheVariants as line_fault
use Rattle.kmc_sum.specs.declared.error.SourceFault.{SourceFault}
use Rattle.kmc_sum.specs.declared.error.SourceFault.TheVariants.{Line, Read}
use Rattle.kmc_join.specs.KeyCounts.{AreCounts}
use Rattle.kmc_join.specs.declared.query_error.QueryError.{QueryError}
use Rattle.kmc_join.specs.declared.query_error.QueryError.TheVariants.{ReadWords, NoWord, OtherLength, Unlike, Dump, Write, Memory, TooLong}

-- what the reader gave to its end is the text of a dump with words of k letters, and each key has its count there
pub record IsLookedUp (k : ℕ) (start now : Option (List ℕ)) (keys : List (List ℕ)) (counts : List ℕ) : Type 0 where
  pub text : List ℕ
  pub gave : GaveAll start now text
  pub pairs : List (List ℕ × ℕ)
  pub lists : Lists k text pairs
  pub noted : AreCounts (listed_count pairs) keys counts

-- the dump has the lines of more pairs than are counted
pub record HasTooMany (k : ℕ) (start now : Option (List ℕ)) : Type 0 where
  pub pairs : List (List ℕ × ℕ)
  pub rest : List ℕ
  pub gave : GaveFront k start now pairs rest
  pub many : 2 ^ 64 - 2 ≤ length pairs

-- a read of the dump failed, or this line is the first at fault; where its word has another length it is not the first line
abbrev pub IsDumpFault : Option (List ℕ) → Option (List ℕ) → ℕ → ℕ → SourceFault → Type 0
IsDumpFault start now failed fails Read = RisesByOne failed fails
IsDumpFault start now failed fails (Line line fault) =
    (k : ℕ) × IsLength k × IsFaultAt k start now line fault × (fault ≡ line_fault.OtherLength → 2 ≤ line)

-- what a fault of the first line is told as
abbrev pub first_error : SourceFault → QueryError
first_error Read = Dump Read
first_error (Line line line_fault.Malformed) = Dump (Line line line_fault.Malformed)
first_error (Line line line_fault.OtherLength) = if line == 1 then Unlike else Dump (Line line line_fault.OtherLength)
first_error (Line line line_fault.NotRising) = Dump (Line line line_fault.NotRising)

-- why the dump was not read to its end, where words of this length are asked for, or none where that is 0
abbrev pub IsDumpCause : {D : Type 0} → ℕ → Option (List ℕ) → Option (List ℕ) → Watched D → Watched D → QueryError → Type 0
IsDumpCause asked start now dump read ReadWords = ⊥
IsDumpCause asked start now dump read (NoWord line) = ⊥
IsDumpCause asked start now dump read (OtherLength line) = ⊥
IsDumpCause asked start now dump read Unlike = (1 ≤ asked) × IsFaultAt asked start now 1 line_fault.OtherLength
IsDumpCause asked start now dump read (Dump fault) = IsDumpFault start now dump.failures read.failures fault
IsDumpCause asked start now dump read Write = ⊥
IsDumpCause asked start now dump read Memory = read ≡ dump
IsDumpCause asked start now dump read TooLong = (k : ℕ) × IsLength k × HasTooMany k start now × (read.failures ≡ dump.failures)

-- the same behind the first line
abbrev pub IsWalkCause : ℕ → Option (List ℕ) → Option (List ℕ) → ℕ → ℕ → QueryError → Type 0
IsWalkCause k start now failed fails ReadWords = ⊥
IsWalkCause k start now failed fails (NoWord line) = ⊥
IsWalkCause k start now failed fails (OtherLength line) = ⊥
IsWalkCause k start now failed fails Unlike = ⊥
IsWalkCause k start now failed fails (Dump fault) = IsDumpFault start now failed fails fault
IsWalkCause k start now failed fails Write = ⊥
IsWalkCause k start now failed fails Memory = ⊥
IsWalkCause k start now failed fails TooLong = HasTooMany k start now × (fails ≡ failed)
