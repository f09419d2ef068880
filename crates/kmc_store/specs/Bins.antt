-- What bins in memory are, and how they take in more.
use Rattle.std.specs.Prelude.{◌≡◌, ℕ, ◌+◌, ◌<◌, ◌++◌, List, [], length, replicate, slice_index, slice_index_or, slice_set}
use Rattle.kmc_record.specs.Shapes.{Sizes}
use Rattle.kmc_record.specs.Parts.{Parcel, IsPart, capped}

-- for each bin its records, one after the other, and the number of their words, or 2^64 - 1 where there are more
pub record BinList : Type 0 where
  pub shape : Sizes
  pub bodies : List (List ℕ)
  pub words : List ℕ

-- the records of a bin
abbrev pub body_at : List (List ℕ) → ℕ → List ℕ
body_at bodies i = slice_index_or bodies i []

-- what `Bins` can hold: for each bin of the shape a body whose words all belong to it, and their number
pub record AreBins (shape : Sizes) (bodies : List (List ℕ)) (words : List ℕ) : Type 0 where
  pub wide : length bodies ≡ shape.n
  pub counted : length words ≡ shape.n
  pub each : (i : ℕ) → i < shape.n → IsPart i shape (body_at bodies i) (slice_index words i)

abbrev pub empty_bins : Sizes → BinList
empty_bins shape = record { shape = shape; bodies = replicate shape.n []; words = replicate shape.n 0 }

-- the part stands behind what its bin had, its words are counted there, and nothing else is changed
pub record Absorbed (old : BinList) (part : Parcel) (new : BinList) : Type 0 where
  pub shape : new.shape ≡ old.shape
  pub bodies : new.bodies ≡ slice_set old.bodies part.bin (body_at old.bodies part.bin ++ part.body)
  pub words : new.words ≡ slice_set old.words part.bin (capped (slice_index old.words part.bin + part.words))

-- each bin of the other stands behind what the same bin had, and its words are counted there
pub record Merged (old other new : BinList) : Type 0 where
  pub shape : new.shape ≡ old.shape
  pub wide : length new.bodies ≡ length old.bodies
  pub counted : length new.words ≡ length old.words
  pub bodies : (i : ℕ) → i < length old.bodies → body_at new.bodies i ≡ body_at old.bodies i ++ body_at other.bodies i
  pub words : (i : ℕ) → i < length old.words → slice_index new.words i ≡ capped (slice_index old.words i + slice_index other.words i)
