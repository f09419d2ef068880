-- What the program that cuts reads does.
use Rattle.std.specs.Prelude.{◌≡◌, ◌⊎◌, ◌+◌, ◌^◌, ℕ, Bool, true, false, List, Option, Ok, Err, length}
use Rattle.kmc_device.specs.Device.{Watched}
use Rattle.kmc_options.specs.declared.program.Program.TheVariants.{KmcCut}
use Rattle.kmc_options.specs.declared.run_params.Params.{Params}
use Rattle.kmc_options.specs.declared.setting.Setting.{Setting}
use Rattle.kmc_options.specs.Shape.{shape_of}
use Rattle.kmc_options.specs.Words.{Word}
use Rattle.kmc_stage_one.specs.declared.settings.TheConstants.{PIECE_SYMBOLS}
use Rattle.kmc_slice_files.specs.Opening.{IsCreateFault}
use Rattle.kmc_options.specs.Requests.{AsksForCut, IsCutRequest, IsOutOfRange}
use Rattle.kmc_options.specs.declared.slices.cutting.CutRequest.{CutRequest}
use Rattle.kmc_options.specs.declared.slices.cutting.CutRequestError.TheVariants.{Usage, OutOfRange, Slices, Memory}
use Rattle.kmc_slices.specs.Cut.{AreReadCounts, AreWriteCounts, IsCutError, IsCutting, IsLeft, WroteSlices}
use Rattle.kmc_slices.specs.declared.error.CutError.{CutError}
use Rattle.kmc_slices.specs.declared.programs.cut_fault.CutFault.{CutFault}
use Rattle.kmc_slices.specs.declared.programs.cut_fault.CutFault.TheVariants.{Request, NotMade, Cut}

-- all that the reader gave was cut to these writers, one for each slice, and no device failed
abbrev pub IsCutTo : {R W : Type 0} → (R → Option (List ℕ)) → (W → Option (List ℕ)) → Params → Watched R → Watched R → List (Watched W)
    → List (Watched W) → Type 0
IsCutTo remaining contents params reader read writers written =
    IsCutting {A = Unit {0}} remaining contents params PIECE_SYMBOLS (2 ^ 32) reader read writers written (Ok tt)

-- the fault is the cause for which a cut to these writers was given up
abbrev pub IsFaultOfCut : {R W : Type 0} → (R → Option (List ℕ)) → (W → Option (List ℕ)) → Params → Watched R → Watched R → List (Watched W)
    → List (Watched W) → CutFault → Type 0
IsFaultOfCut remaining contents params reader read writers written fault = (e : CutError) × (fault ≡ Cut e)
    × IsCutting {A = Unit {0}} remaining contents params PIECE_SYMBOLS (2 ^ 32) reader read writers written (Err e)

-- files, as many as slices, got the slices of bins that hold all that the reader gave
pub record WroteFiles (params : Params) (S : ℕ) (old new : Option (List ℕ)) : Type 0 where
  pub olds : List (Option (List ℕ))
  pub news : List (Option (List ℕ))
  pub many : length olds ≡ S
  pub wrote : WroteSlices params.format (shape_of params) PIECE_SYMBOLS S old new olds news

-- files, as many as slices, were made, and this is why the reads were not cut to them, with what was read and what they hold
pub record IsUncut {R : Type 0} (remaining : R → Option (List ℕ)) (params : Params) (S : ℕ) (reader read : Watched R) (e : CutError) : Type 0 where
  pub olds : List (Option (List ℕ))
  pub news : List (Option (List ℕ))
  pub failed : List ℕ
  pub fails : List ℕ
  pub many : length failed ≡ S
  pub cause : IsCutError params.format (2 ^ 32) (remaining reader.inner) (remaining read.inner) e
  pub read_counts : AreReadCounts (reader.reads + 2 ^ 32) reader.reads read.reads reader.failures read.failures e
  pub write_counts : AreWriteCounts failed fails e
  pub left : IsLeft params.format (shape_of params) PIECE_SYMBOLS S (remaining reader.inner) (remaining read.inner) olds news e

-- what a fault of a cut by these settings tells; it is none of the words
abbrev pub IsCutFault : {R : Type 0} → (R → Option (List ℕ)) → Params → ℕ → Watched R → Watched R → CutFault → Type 0
IsCutFault remaining params S reader read (Request e) = ⊥
IsCutFault remaining params S reader read (NotMade e) = IsCreateFault S e × (read ≡ reader)
IsCutFault remaining params S reader read (Cut e) = IsUncut remaining params S reader read e

-- why the words' reads were not cut: memory was refused before they were understood, and nothing was read; or the cut failed
abbrev pub FailsToCut : {R : Type 0} → (R → Option (List ℕ)) → List Word → Watched R → Watched R → Type 0
FailsToCut remaining words reader read =
    (read ≡ reader) ⊎ ((r : CutRequest) × IsCutRequest words r × (fault : CutFault) × IsCutFault remaining r.params r.slices reader read fault)

-- the words ask for no cut: they are no usage, an option is out of its range, or the number of slices is
abbrev pub AsksForNoCut : List Word → Type 0
AsksForNoCut words = (AsksForCut words → ⊥) ⊎ (((s : Setting) × IsOutOfRange KmcCut words s) ⊎ ((r : CutRequest) → IsCutRequest words r → ⊥))

-- the command line is at fault; want of memory says nothing of it
abbrev pub is_misuse : CutFault → Bool
is_misuse (Request Usage) = true
is_misuse (Request (OutOfRange s)) = true
is_misuse (Request Slices) = true
is_misuse (Request Memory) = false
is_misuse (NotMade e) = false
is_misuse (Cut e) = false
