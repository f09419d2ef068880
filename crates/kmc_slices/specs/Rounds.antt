-- A text that is cut in rounds, each into bins of its own.
use Rattle.std.specs.Prelude.{◌≡◌, ℕ, ◌-◌, ◌<◌, List, ◌++◌, Option, Ok, Err}
use Rattle.std.specs.List.{AllByRecursion, flat_map}
use Rattle.kmc_base.specs.Pieces.{pieces}
use Rattle.kmc_device.specs.Device.{AppendsFront, GaveAll}
use Rattle.kmc_reads.specs.Cuts.{AreCut}
use Rattle.kmc_reads.specs.Reads.{reads_of}
use Rattle.kmc_slice_files.specs.Files.{header_bytes}
use Rattle.kmc_slice_files.specs.Frames.{Frame, AreFrames, frames_bytes}
use Rattle.kmc_slice_files.specs.Writes.{AreOpen, held_at}
use Rattle.kmc_slices.specs.Slices.{Part, IsCutTo, all_reads, whole_bodies}
use Rattle.kmc_reads.specs.declared.format.Format.{Format}
use Rattle.kmc_reads.specs.Standing.{FeederState}
use Rattle.kmc_record.specs.Shapes.{Sizes}
use Rattle.kmc_reads.specs.declared.input_error.InputError.{InputError}
use Rattle.kmc_stage_one.specs.Fed.{IsFed, IsFedBy}
use Rattle.kmc_stage_one.specs.Rounds.{HoldsPieces}

-- the bins hold the reads of one round, which stand behind those that were taken before, and the feeder took what the reader gave meanwhile
pub record IsRound (shape : Sizes) (limit : ℕ) (format : Format) (old new : Option (List ℕ)) (before after : ℕ) (text : List ℕ)
    (taken bodies : List (List ℕ)) (v : FeederState) : Type 0 where
  pub round : List (List ℕ)
  pub holds : HoldsPieces shape limit round bodies
  pub fed : IsFed (shape.k - 1) format old new before after text (taken ++ round) v

-- a round gave no bins: the text is refused, or what was fed before the reader failed, gave too much or memory was refused
pub record IsRoundError (overlap : ℕ) (format : Format) (old new : Option (List ℕ)) (before after : ℕ) (text : List ℕ)
    (taken : List (List ℕ)) (v : FeederState) (e : InputError) : Type 0 where
  pub round : List (List ℕ)
  pub fed : IsFedBy overlap format old new before after text (taken ++ round) v (Err e)

-- the pieces of the reads that were taken are cut in rounds, and each of S writers, behind what it held before, has the header of its slice and
-- frames, which are counted, of the records of all rounds
pub record AreRounds (shape : Sizes) (limit S : ℕ) (taken : List (List ℕ)) (olds news : List (Option (List ℕ))) (counts : List ℕ) : Type 0 where
  pub rounds : List Part
  pub are : AllByRecursion (IsCutTo shape) rounds
  pub reads : all_reads rounds ≡ flat_map (pieces shape.k limit) taken
  pub begun : AreOpen shape S (whole_bodies shape rounds) olds news counts

-- the rounds of a whole text
pub record AreLastRounds (format : Format) (shape : Sizes) (limit S : ℕ) (text : List ℕ) (olds news : List (Option (List ℕ)))
    (counts : List ℕ) : Type 0 where
  pub reads : List (List ℕ)
  pub are_reads : reads_of format text ≡ Ok reads
  pub cuts : List (List ℕ)
  pub cut : AreCut (shape.k - 1) reads cuts
  pub rounds : AreRounds shape limit S cuts olds news counts

-- the rounds of all that the reader gave
pub record AreAllRounds (format : Format) (shape : Sizes) (limit S : ℕ) (old new : Option (List ℕ)) (olds news : List (Option (List ℕ)))
    (counts : List ℕ) : Type 0 where
  pub bytes : List ℕ
  pub given : GaveAll old new bytes
  pub rounds : AreLastRounds format shape limit S bytes olds news counts

-- each of S writers got a front of the header and of frames of its slice, and so no end
pub record AreUnended (shape : Sizes) (S : ℕ) (olds news : List (Option (List ℕ))) : Type 0 where
  pub fs : ℕ → List Frame
  pub frames : (s : ℕ) → s < S → AreFrames shape.n S s (fs s)
  pub written : (s : ℕ) → s < S → AppendsFront (held_at olds s) (held_at news s) (header_bytes shape S s ++ frames_bytes (fs s))
