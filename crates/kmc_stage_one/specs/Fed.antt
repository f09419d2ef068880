-- What was read and fed, the room that a feeder has, and the numbers of a reading.
use Rattle.std.specs.Prelude.{◌≡◌, ◌⊎◌, ℕ, ◌+◌, ◌^◌, ◌<◌, ◌≤◌, Bool, true, false, List, ◌++◌, length, Option, Result, Ok, Err, Some}
use Rattle.std.specs.List.{concat}
use Rattle.std.specs.Io.BufRead.{strip_last}
use Rattle.std.specs.Io.KnownBytes.{Consumes, IsAtEnd}
use Rattle.kmc_device.specs.Device.{RisesByOne}
use Rattle.kmc_reads.specs.declared.error.ReadsError.{ReadsError}
use Rattle.kmc_reads.specs.declared.format.Format.{Format}
use Rattle.kmc_reads.specs.Reads.{reads_of}
use Rattle.kmc_reads.specs.Lines.{carriage_return}
use Rattle.kmc_reads.specs.Standing.{FeederState, Stands, IsHandedOut, IsSomewhere, open_symbols}
use Rattle.kmc_reads.specs.declared.input_error.InputError.{InputError}
use Rattle.kmc_reads.specs.declared.input_error.InputError.TheVariants.{Memory, Read, Faulty, TooLong}

-- the reader gave bytes, at least one a read that was counted, and the feeder, which stood at this text, took them: of its reads, some maybe cut,
-- these were taken
pub record IsFed (overlap : ℕ) (format : Format) (old new : Option (List ℕ)) (before after : ℕ) (text : List ℕ) (taken : List (List ℕ))
    (v : FeederState) : Type 0 where
  pub bytes : List ℕ
  pub given : Consumes old new bytes
  pub many : after ≤ before + length bytes
  pub stands : Stands (Some overlap) format (text ++ bytes) taken v

-- the reader gave bytes with which the text is refused: whatever follows, or since nothing does
pub record IsRefused (format : Format) (old new : Option (List ℕ)) (text : List ℕ) (e : ReadsError) : Type 0 where
  pub bytes : List ℕ
  pub given : Consumes old new bytes
  pub refused : reads_of format (text ++ bytes) ≡ Err e
  pub for_good : ((rest : List ℕ) → reads_of format ((text ++ bytes) ++ rest) ≡ Err e) ⊎ IsAtEnd new

-- what was fed, by the answer: all that was read, or what is refused with it
abbrev pub IsFedBy : ℕ → Format → Option (List ℕ) → Option (List ℕ) → ℕ → ℕ → List ℕ → List (List ℕ) → FeederState → Result Bool InputError → Type 0
IsFedBy overlap format old new before after text taken v (Ok more) = IsFed overlap format old new before after text taken v
IsFedBy overlap format old new before after text taken v (Err Memory) = Unit {0}
IsFedBy overlap format old new before after text taken v (Err Read) = Unit {0}
IsFedBy overlap format old new before after text taken v (Err (Faulty e)) = IsRefused format old new text e
IsFedBy overlap format old new before after text taken v (Err TooLong) = IsFed overlap format old new before after text taken v

-- fewer than so many reads wait in the feeder, with fewer than so many symbols, and an open read has fewer that can be handed out
pub record HasRoomForReads (reads symbols : ℕ) (v : FeederState) : Type 0 where
  pub waiting : (overlap : ℕ) (format : Format) (text : List ℕ) (taken : List (List ℕ)) (s : Stands (Some overlap) format text taken v)
      → (length s.rows < reads) × (length (concat s.rows) < symbols)
  pub open_read : (at : IsSomewhere v.scan) → length (open_symbols at.spot.stage at.spot.read (strip_last carriage_return at.front)) < symbols

-- so many reads wait in the feeder, or so many symbols of them, or an open read has so many that can be handed out
abbrev pub IsFull : ℕ → ℕ → FeederState → Type 0
IsFull reads symbols v = (overlap : ℕ) (format : Format) (text : List ℕ) (taken : List (List ℕ)) (s : Stands (Some overlap) format text taken v)
    (at : IsSomewhere v.scan) → (reads ≤ length s.rows) ⊎ ((symbols ≤ length (concat s.rows))
    ⊎ (symbols ≤ length (open_symbols at.spot.stage at.spot.read (strip_last carriage_return at.front))))

-- where the text goes on after a round, the round is full, or 2^32 reads gave bytes
pub record IsWholeRound (reads symbols before after : ℕ) (v : FeederState) (r : Result Bool InputError) : Type 0 where
  pub full : r ≡ Ok true → IsFull reads symbols v ⊎ (before + 2 ^ 32 ≤ after)

-- the reader gave bytes, and then at most so many that were fed last: these came to a feeder that had room, or to that of the beginning, so a round
-- that is full takes nothing
pub record IsFilled (reads symbols block : ℕ) (overlap : ℕ) (format : Format) (from to : Option (List ℕ)) (text : List ℕ) (taken : List (List ℕ))
    (old new : FeederState) : Type 0 where
  pub earlier : FeederState
  pub between : Option (List ℕ)
  pub front : List ℕ
  pub last : List ℕ
  pub gave_front : Consumes from between front
  pub gave_last : Consumes between to last
  pub before : Stands (Some overlap) format (text ++ front) taken earlier
  pub after : Stands (Some overlap) format ((text ++ front) ++ last) taken new
  pub most : length last ≤ block
  pub room : (earlier ≡ old) ⊎ HasRoomForReads reads symbols earlier

-- what waited in the feeder was handed out, and then one round was fed
pub record IsNextRound (reads symbols block overlap : ℕ) (from to : Option (List ℕ)) (new : FeederState) : Type 0 where
  pub emptied : FeederState
  pub handed : IsHandedOut overlap emptied.scan
  pub filled : (format : Format) (text : List ℕ) (taken : List (List ℕ)) → Stands (Some overlap) format text taken emptied
      → IsFilled reads symbols block overlap format from to text taken emptied new

-- how many reads gave bytes, at most so many, and how many calls failed, by the cause of a refusal
abbrev pub AreCountsOf : ℕ → ℕ → ℕ → ℕ → ℕ → InputError → Type 0
AreCountsOf most before after failed fails Memory = (fails ≡ failed) × (before ≤ after) × (after ≤ most)
AreCountsOf most before after failed fails Read = RisesByOne failed fails × (before ≤ after) × (after < most)
AreCountsOf most before after failed fails (Faulty e) = (fails ≡ failed) × (before ≤ after) × (after ≤ most)
AreCountsOf most before after failed fails TooLong = (fails ≡ failed) × (before ≤ after) × (after ≡ most)

-- the same by an answer, which is whether the text goes on
abbrev pub AreCounts : ℕ → ℕ → ℕ → ℕ → ℕ → Result Bool InputError → Type 0
AreCounts most before after failed fails (Ok true) = (fails ≡ failed) × (before < after) × (after ≤ most)
AreCounts most before after failed fails (Ok false) = (fails ≡ failed) × (before ≤ after) × (after < most)
AreCounts most before after failed fails (Err e) = AreCountsOf most before after failed fails e
