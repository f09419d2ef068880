-- Bins of parts of reads, taken slice by slice.
use Rattle.std.specs.Prelude.{◌≡◌, ℕ, ◌%◌, ◌<◌, if◌then◌else◌, nat_eq, List, [], length, map}
use Rattle.std.specs.List.{flat_map, range_with_len}
use Rattle.kmc_base.specs.declared.strands.Strands.{Strands}
use Rattle.kmc_record.specs.Shapes.{Sizes}
use Rattle.kmc_count.specs.declared.limits.Limits.{Limits}
use Rattle.kmc_store.specs.Bins.{AreBins, body_at}
use Rattle.kmc_store.specs.Holds.{HoldsReads}
use Rattle.kmc_stage_two.specs.Stages.{IsDumpOfBins}

-- what a part of the reads was cut to: its reads, and for each bin its records and the number of their words
pub record Part : Type 0 where
  pub reads : List (List ℕ)
  pub bodies : List (List ℕ)
  pub words : List ℕ

-- the bins of the part hold its reads
pub record IsCutTo (shape : Sizes) (p : Part) : Type 0 where
  pub bins : AreBins shape p.bodies p.words
  pub holds : HoldsReads shape p.reads p.bodies

-- all reads, part after part
abbrev pub all_reads : List Part → List (List ℕ)
all_reads parts = flat_map (λ p. p.reads) parts

-- the records of a bin, part after part
abbrev pub whole_body : List Part → ℕ → List ℕ
whole_body parts b = flat_map (λ p. body_at p.bodies b) parts

-- the same, bin by bin
abbrev pub whole_bodies : Sizes → List Part → List (List ℕ)
whole_bodies shape parts = map (whole_body parts) (range_with_len 0 shape.n)

-- what is read of slice s of S: for each of its bins the records of all parts, and for the others nothing
pub record AreOfSlice (shape : Sizes) (S s : ℕ) (parts : List Part) (bodies : List (List ℕ)) : Type 0 where
  pub wide : length bodies ≡ shape.n
  pub each : (b : ℕ) → b < shape.n → body_at bodies b ≡ (if nat_eq (b % S) s then whole_body parts b else [])

-- the pairs are the dump, within the limits, of slice s of S of these parts
pub record IsDumpOfSlice (strands : Strands) (shape : Sizes) (l : Limits) (S s : ℕ) (parts : List Part) (pairs : List (List ℕ × ℕ)) : Type 0 where
  pub bodies : List (List ℕ)
  pub are : AreOfSlice shape S s parts bodies
  pub dump : IsDumpOfBins strands shape.k l bodies pairs
