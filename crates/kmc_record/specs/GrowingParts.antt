-- Parts while they grow, one for each bin.
use Rattle.std.specs.Prelude.{◌≡◌, ℕ, ◌-◌, ◌^◌, ◌<◌, ◌≤◌, List, length, slice_index_or}
use Rattle.kmc_base.specs.Stretches.{Stretch}
use Rattle.kmc_split.specs.declared.runs.Run.{Run}
use Rattle.kmc_record.specs.Shapes.{Sizes}
use Rattle.kmc_record.specs.Parts.{Parcel, grown, AreCuts, bin_super_kmers}

-- one part for each bin, in the order of bins
pub record AreForBins (shape : Sizes) (parts : List Parcel) : Type 0 where
  pub count : length parts ≡ shape.n
  pub bin : (j : ℕ) (d : Parcel) → j < shape.n → (slice_index_or parts j d).bin ≡ j
  pub shaped : (j : ℕ) (d : Parcel) → j < shape.n → (slice_index_or parts j d).shape ≡ shape
  pub most : (j : ℕ) (d : Parcel) → j < shape.n → (slice_index_or parts j d).words ≤ 2 ^ 64 - 1

-- each part has grown by the super-k-mers for its bin
pub record HaveGrown (k : ℕ) (more : ℕ → List (List ℕ)) (old new : List Parcel) : Type 0 where
  pub count : length new ≡ length old
  pub each : (j : ℕ) (d : Parcel) → j < length old → slice_index_or new j d ≡ grown k (more j) (slice_index_or old j d)

-- each part has grown by the super-k-mers of these segments for its bin, in the order of the segments and of places
abbrev pub HaveTaken : Sizes → List Stretch → List Parcel → List Parcel → Type 0
HaveTaken shape ss old new = (cuts : List (List Run)) × AreCuts shape.k shape.m ss cuts × HaveGrown shape.k
    (λ j. bin_super_kmers shape.k shape.n j ss cuts) old new
