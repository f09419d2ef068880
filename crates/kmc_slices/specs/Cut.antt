-- Reads cut to the files of slices.
use Rattle.std.specs.Prelude.{◌≡◌, ◌⊎◌, ℕ, ◌+◌, ◌-◌, ◌<◌, ◌≤◌, List, [], length, map, Option, None, Result, Ok, Err, IfErr, OnOk}
use Rattle.std.specs.Io.KnownBytes.{Consumes}
use Rattle.kmc_device.specs.Device.{AppendsFront, GaveAll, RisesByOne, Watched, HasFailed}
use Rattle.kmc_reads.specs.declared.format.Format.{Format}
use Rattle.kmc_reads.specs.Cuts.{AreCut}
use Rattle.kmc_reads.specs.Reads.{reads_of}
use Rattle.kmc_reads.specs.Stages.{fault}
use Rattle.kmc_record.specs.Shapes.{Sizes}
use Rattle.kmc_options.specs.declared.run_params.Params.{Params}
use Rattle.kmc_options.specs.Shape.{shape_of}
use Rattle.kmc_store.specs.Bins.{AreBins}
use Rattle.kmc_slice_files.specs.Files.{IsSliceFile}
use Rattle.kmc_slice_files.specs.Writes.{AreFiles, held_at}
use Rattle.kmc_reads.specs.declared.input_error.InputError.{InputError}
use Rattle.kmc_reads.specs.declared.input_error.InputError.TheVariants as input
use Rattle.kmc_stage_one.specs.Fed.{IsRefused}
use Rattle.kmc_stage_one.specs.Rounds.{HoldsPieces}
use Rattle.kmc_slices.specs.declared.error.CutError.{CutError}
use Rattle.kmc_slices.specs.declared.error.CutError.TheVariants.{Memory, Read, Write, Input, TooLong}
use Rattle.kmc_slices.specs.Rounds.{AreUnended}

-- the bodies are bins that hold the reads of all that the reader gave, of which some were cut while they came
pub record HoldAllInput (format : Format) (shape : Sizes) (limit : ℕ) (old new : Option (List ℕ)) (bodies : List (List ℕ)) : Type 0 where
  pub bytes : List ℕ
  pub given : GaveAll old new bytes
  pub reads : List (List ℕ)
  pub are_reads : reads_of format bytes ≡ Ok reads
  pub cuts : List (List ℕ)
  pub cut : AreCut (shape.k - 1) reads cuts
  pub words : List ℕ
  pub bins : AreBins shape bodies words
  pub holds : HoldsPieces shape limit cuts bodies

-- each of S writers got the file of its slice of bins that hold all that the reader gave
pub record WroteSlices (format : Format) (shape : Sizes) (limit S : ℕ) (old new : Option (List ℕ)) (olds news : List (Option (List ℕ))) : Type 0 where
  pub bodies : List (List ℕ)
  pub holds : HoldAllInput format shape limit old new bodies
  pub files : AreFiles shape S bodies olds news

-- the same, where of each file a front went out
pub record BeganSlices (format : Format) (shape : Sizes) (limit S : ℕ) (old new : Option (List ℕ)) (olds news : List (Option (List ℕ))) : Type 0 where
  pub bodies : List (List ℕ)
  pub holds : HoldAllInput format shape limit old new bodies
  pub fronts : (s : ℕ) → s < S → (text : List ℕ) × IsSliceFile shape S s bodies text × AppendsFront (held_at olds s) (held_at news s) text

-- how a refusal of the reading is told
abbrev pub IsToldAs : InputError → CutError → Type 0
IsToldAs input.Memory e = e ≡ Memory
IsToldAs input.Read e = e ≡ Read
IsToldAs (input.Faulty fault) e = e ≡ Input fault
IsToldAs input.TooLong e = e ≡ TooLong

-- how many reads gave bytes, at most so many, and how many calls of the reader failed, by the cause of a refusal
abbrev pub AreReadCounts : ℕ → ℕ → ℕ → ℕ → ℕ → CutError → Type 0
AreReadCounts most before after failed fails Memory = (fails ≡ failed) × (before ≤ after) × (after ≤ most)
AreReadCounts most before after failed fails Read = RisesByOne failed fails × (before ≤ after) × (after < most)
AreReadCounts most before after failed fails (Write s) = (fails ≡ failed) × (before ≤ after) × (after ≤ most)
AreReadCounts most before after failed fails (Input e) = (fails ≡ failed) × (before ≤ after) × (after ≤ most)
AreReadCounts most before after failed fails TooLong = (fails ≡ failed) × (before ≤ after) × (after ≡ most)

-- the writers' numbers of failures, by the cause of a refusal
abbrev pub AreWriteCounts : List ℕ → List ℕ → CutError → Type 0
AreWriteCounts olds news Memory = news ≡ olds
AreWriteCounts olds news Read = news ≡ olds
AreWriteCounts olds news (Write s) = HasFailed s olds news
AreWriteCounts olds news (Input e) = news ≡ olds
AreWriteCounts olds news TooLong = news ≡ olds

-- why reads were not cut: the text is refused, or so many reads gave bytes, which have no fault
abbrev pub IsCutError : Format → ℕ → Option (List ℕ) → Option (List ℕ) → CutError → Type 0
IsCutError format most old new Memory = Unit {0}
IsCutError format most old new Read = Unit {0}
IsCutError format most old new (Write s) = Unit {0}
IsCutError format most old new (Input e) = IsRefused format old new [] e
IsCutError format most old new TooLong = (bytes : List ℕ) × Consumes old new bytes × (most ≤ length bytes) × (fault format bytes ≡ None)

-- why the last round was not cut
abbrev pub IsLastCutError : Format → List ℕ → CutError → Type 0
IsLastCutError format text Memory = Unit {0}
IsLastCutError format text Read = ⊥
IsLastCutError format text (Write s) = Unit {0}
IsLastCutError format text (Input e) = reads_of format text ≡ Err e
IsLastCutError format text TooLong = ⊥

-- what a refusal leaves: no writer has the end of a file; but where a write failed after all rounds, each has a front of its file
abbrev pub IsLeft : Format → Sizes → ℕ → ℕ → Option (List ℕ) → Option (List ℕ) → List (Option (List ℕ)) → List (Option (List ℕ)) → CutError → Type 0
IsLeft format shape limit S old new olds news Memory = AreUnended shape S olds news
IsLeft format shape limit S old new olds news Read = AreUnended shape S olds news
IsLeft format shape limit S old new olds news (Write s) = AreUnended shape S olds news ⊎ BeganSlices format shape limit S old new olds news
IsLeft format shape limit S old new olds news (Input e) = AreUnended shape S olds news
IsLeft format shape limit S old new olds news TooLong = AreUnended shape S olds news

-- all that a reader gives, of which at most so many reads give bytes, cut to the files of slices, one a writer; or why not
pub record IsCutting {R W A : Type 0} (remaining : R → Option (List ℕ)) (contents : W → Option (List ℕ)) (params : Params) (limit most : ℕ)
    (reader read : Watched R) (writers written : List (Watched W)) (answer : Result A CutError) : Type 0 where
  -- each writer got its file
  pub ok : OnOk answer (WroteSlices params.format (shape_of params) limit (length writers) (remaining reader.inner) (remaining read.inner)
      (map (λ w. contents w.inner) writers) (map (λ w. contents w.inner) written))
  -- no failure was passed over
  pub sound : OnOk answer ((read.failures ≡ reader.failures) × (reader.reads ≤ read.reads) × (read.reads < reader.reads + most)
      × (map (λ w. w.failures) written ≡ map (λ w. w.failures) writers))
  -- each refusal has its cause
  pub cause : IfErr answer (IsCutError params.format most (remaining reader.inner) (remaining read.inner))
  pub read_counts : IfErr answer (AreReadCounts (reader.reads + most) reader.reads read.reads reader.failures read.failures)
  pub write_counts : IfErr answer (AreWriteCounts (map (λ w. w.failures) writers) (map (λ w. w.failures) written))
  -- and leaves no file that is not of all that the reader gave
  pub left : IfErr answer (IsLeft params.format (shape_of params) limit (length writers) (remaining reader.inner) (remaining read.inner)
      (map (λ w. contents w.inner) writers) (map (λ w. contents w.inner) written))
