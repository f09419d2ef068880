-- What is wrong with bytes that should be records.
use Rattle.std.specs.Prelude.{◌≢◌, ℕ, ◌+◌, ◌*◌, ◌<◌, ◌≤◌, List, length, take, drop, slice_index}
use Rattle.kmc_base.specs.Record.{codes_in, size_of, IsBodyOf}
use Rattle.kmc_record.specs.declared.fault.RecordFault.{RecordFault}
use Rattle.kmc_record.specs.declared.fault.RecordFault.TheVariants.{Short, Padding}

-- how many codes the first byte announces
abbrev pub announced : ℕ → List ℕ → ℕ
announced k bytes = slice_index bytes 0 + k

-- there is no first byte, or fewer follow than it asks for
abbrev pub IsShort : ℕ → List ℕ → Type 0
IsShort k bytes = length bytes < 1 + size_of (announced k bytes)

-- enough bytes follow, and a code behind the last one is not zero
abbrev pub IsPadded : ℕ → List ℕ → Type 0
IsPadded k bytes = (1 + size_of (announced k bytes) ≤ length bytes)
    × ((i : ℕ) × (announced k bytes ≤ i) × (i < 4 * size_of (announced k bytes)) × (slice_index (codes_in (drop 1 bytes)) i ≢ 0))

abbrev pub HasFault : ℕ → RecordFault → List ℕ → Type 0
HasFault k Short bytes = IsShort k bytes
HasFault k Padding bytes = IsPadded k bytes

-- whole records up to the offset, and there this fault
pub record IsFirstFault (k : ℕ) (fault : RecordFault) (offset : ℕ) (body : List ℕ) : Type 0 where
  pub inside : offset < length body
  pub before : List (List ℕ)
  pub whole : IsBodyOf k before (take offset body)
  pub here : HasFault k fault (drop offset body)
