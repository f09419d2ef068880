-- The bin that is asked for of a body.
use Rattle.std.specs.Prelude.{◌≡◌, ℕ, ◌+◌, ◌<◌, ◌≤◌, List, length, map, get_or, Option, None, Some, []}
use Rattle.kmc_record.specs.Bodies.{AreRecordsOfBin, Belong}
use Rattle.kmc_record.specs.Parts.{all_windows}
use Rattle.kmc_record.specs.RecordKeys.{codes_of}
use Rattle.kmc_count.specs.declared.judging.AskedBin.{AskedBin}

-- the body is whole records whose words belong to the bin; where none is asked for this says nothing
abbrev pub IsOfBin : Option AskedBin → List ℕ → Type 0
IsOfBin None body = Unit {0}
IsOfBin (Some a) body = (a.bin < a.shape.n) × AreRecordsOfBin a.bin a.shape body

-- the bin so many places behind
abbrev pub asked_behind : ℕ → Option AskedBin → Option AskedBin
asked_behind places None = None
asked_behind places (Some a) = Some (record a { bin = a.bin + places })

-- bodies side by side, each of its bin, where the first is to be of the bin that is asked for
abbrev pub AreOfBins : Option AskedBin → List (List ℕ) → Type 0
AreOfBins asked bodies = (i : ℕ) → i < length bodies → IsOfBin (asked_behind i asked) (get_or bodies i [])

-- words of so many symbols are asked for, where any are
abbrev pub AsksFor : ℕ → Option AskedBin → Type 0
AsksFor k None = Unit {0}
AsksFor k (Some a) = a.shape.k ≡ k

-- the body is not of the bin that is asked for; this says nothing where words of another length are asked for
abbrev pub IsForeign : ℕ → Option AskedBin → List ℕ → Type 0
IsForeign k asked body = AsksFor k asked → ¬ (IsOfBin asked body)

-- one of the bodies is not of its bin, in the same way
abbrev pub AreForeign : ℕ → Option AskedBin → List (List ℕ) → Type 0
AreForeign k asked bodies = AsksFor k asked → ¬ (AreOfBins asked bodies)

-- signatures are no longer than the words that are asked for
abbrev pub FitsWords : Option AskedBin → Type 0
FitsWords None = Unit {0}
FitsWords (Some a) = a.shape.m ≤ a.shape.k

-- the words of the records of these numbers belong to the bin
abbrev pub AreKeysOfBin : ℕ → Option AskedBin → List ℕ → Type 0
AreKeysOfBin k None keys = Unit {0}
AreKeysOfBin k (Some a) keys = (a.shape.k ≡ k) × (a.bin < a.shape.n) × Belong a.bin a.shape (all_windows k (map codes_of keys))
