-- What is counted in bodies of records.
use Rattle.std.specs.Prelude.{◌≡◌, ℕ, ◌<◌, ◌⊎◌, List, [], length, take, slice_index_or}
use Rattle.std.specs.List.{All, AllZip, sum_by}
use Rattle.kmc_base.specs.Weights.{items, worth, AreItems}
use Rattle.kmc_base.specs.declared.strands.Strands.{Strands}
use Rattle.kmc_record.specs.declared.fault.RecordFault.{RecordFault}
use Rattle.kmc_base.specs.Record.{IsBodyOf}
use Rattle.kmc_record.specs.RecordWords.{record_keys}
use Rattle.kmc_record.specs.Faults.{IsFirstFault}
use Rattle.kmc_record.specs.Refusals.{StopsAtRecord}
use Rattle.kmc_count.specs.declared.limits.Limits.{Limits}
use Rattle.kmc_count.specs.Occurrences.{occurrences}
use Rattle.kmc_count.specs.Dump.{IsDump}

-- the body is whole records, and the items come to the keys of all their words
pub record AreItemsOfBody (strands : Strands) (k f : ℕ) (body numbers : List ℕ) : Type 0 where
  pub super_kmers : List (List ℕ)
  pub records : IsBodyOf k super_kmers body
  pub each : (g : List ℕ → ℕ) → worth g (items k f numbers) ≡ sum_by g (record_keys strands k super_kmers)
  pub fit : AreItems k f numbers

-- the body is whole records, and the pairs are the dump of the keys of their words
pub record IsDumpOfBody (strands : Strands) (k : ℕ) (l : Limits) (body : List ℕ) (pairs : List (List ℕ × ℕ)) : Type 0 where
  pub super_kmers : List (List ℕ)
  pub records : IsBodyOf k super_kmers body
  pub dump : IsDump (occurrences (record_keys strands k super_kmers)) l pairs

-- as many lists as bodies, and each list is the dump of the body at its place
abbrev pub AreDumpsOfBodies : Strands → ℕ → Limits → List (List ℕ) → List (List (List ℕ × ℕ)) → Type 0
AreDumpsOfBodies strands k l bodies lists = AllZip (IsDumpOfBody strands k l) bodies lists

-- the body is whole records
abbrev pub IsWhole : ℕ → List ℕ → Type 0
IsWhole k body = (super_kmers : List (List ℕ)) × IsBodyOf k super_kmers body

-- the bodies before this one are whole, and this is its first fault
pub record IsFirstDamaged (k : ℕ) (fault : RecordFault) (offset : ℕ) (bodies : List (List ℕ)) : Type 0 where
  pub number : ℕ
  pub inside : number < length bodies
  pub before : All (IsWhole k) (take number bodies)
  pub first : IsFirstFault k fault offset (slice_index_or bodies number [])

-- where a count of a body wants memory no fault was met: whole records stand up to one more, or the whole body is sound
abbrev pub WantsMemory : ℕ → List ℕ → Type 0
WantsMemory k body = StopsAtRecord k body ⊎ IsWhole k body
