-- Parts: the records of one chunk for one bin.
use Rattle.std.specs.Prelude.{◌≡◌, ℕ, ◌+◌, ◌-◌, ◌^◌, ◌<◌, ◌++◌, min, nat_eq, nat_lt, List, [], ◌∷◌, length, map}
use Rattle.std.specs.List.{All, flat_map, filter, range_with_len}
use Rattle.kmc_base.specs.Words.{windows}
use Rattle.kmc_base.specs.Stretches.{Stretch, segments_of}
use Rattle.kmc_split.specs.declared.runs.Run.{Run}
use Rattle.kmc_split.specs.Cut.{IsCut, run_codes}
use Rattle.kmc_split.specs.Signature.{bin_of, bin_of_signature}
use Rattle.kmc_base.specs.Record.{spelling, IsBodyOf}
use Rattle.kmc_record.specs.Shapes.{Sizes}

-- what a part is made of; `words` is the number of words, or 2^64 - 1 where there are more
pub record Parcel : Type 0 where
  pub chunk : ℕ
  pub bin : ℕ
  pub shape : Sizes
  pub body : List ℕ
  pub words : ℕ

-- the words of super-k-mers, one super-k-mer after another
abbrev pub all_windows : ℕ → List (List ℕ) → List (List ℕ)
all_windows k ss = flat_map (windows k) ss

-- a number, or the most of 64 bits where it is above that
abbrev pub capped : ℕ → ℕ
capped n = min n (2 ^ 64 - 1)

-- what a `Part` can hold: its body is whole records, each word of them belongs to its bin, and it counts them
pub record IsPart (bin : ℕ) (shape : Sizes) (body : List ℕ) (words : ℕ) : Type 0 where
  pub within : bin < shape.n
  pub super_kmers : List (List ℕ)
  pub records : IsBodyOf shape.k super_kmers body
  pub belong : All (λ w. bin_of shape.m shape.n w ≡ bin) (all_windows shape.k super_kmers)
  pub count : words ≡ capped (length (all_windows shape.k super_kmers))

-- a part with the records of these super-k-mers behind its own
abbrev pub grown : ℕ → List (List ℕ) → Parcel → Parcel
grown k ss p = record p { body = p.body ++ flat_map (spelling k) ss; words = capped (p.words + length (all_windows k ss)) }

abbrev pub empty_part : ℕ → Sizes → ℕ → Parcel
empty_part chunk shape bin = record { chunk = chunk; bin = bin; shape = shape; body = []; words = 0 }

-- the super-k-mers of the runs of a bin, of n bins
abbrev pub bin_runs : ℕ → ℕ → ℕ → List ℕ → List Run → List (List ℕ)
bin_runs k n bin codes runs = map (run_codes k codes) (filter (λ r. nat_eq (bin_of_signature n r.signature) bin) runs)

-- the runs of each segment are its cut
abbrev pub AreCuts : ℕ → ℕ → List Stretch → List (List Run) → Type 0
AreCuts k m [] [] = Unit {0}
AreCuts k m [] (runs ∷ cuts) = ⊥
AreCuts k m (s ∷ ss) [] = ⊥
AreCuts k m (s ∷ ss) (runs ∷ cuts) = IsCut k m s.codes runs × AreCuts k m ss cuts

-- the super-k-mers of a bin, segment after segment
abbrev pub bin_super_kmers : ℕ → ℕ → ℕ → List Stretch → List (List Run) → List (List ℕ)
bin_super_kmers k n bin [] cuts = []
bin_super_kmers k n bin (s ∷ ss) [] = []
bin_super_kmers k n bin (s ∷ ss) (runs ∷ cuts) = bin_runs k n bin s.codes runs ++ bin_super_kmers k n bin ss cuts

-- the segments of reads, read after read
abbrev pub all_segments : ℕ → List (List ℕ) → List Stretch
all_segments k reads = flat_map (segments_of k) reads

-- for each bin that is not empty the part of its super-k-mers, in the order of reads and places, bins rising
pub record ArePartsOf (number : ℕ) (reads : List (List ℕ)) (shape : Sizes) (parts : List Parcel) : Type 0 where
  pub cuts : List (List Run)
  pub cut : AreCuts shape.k shape.m (all_segments shape.k reads) cuts
  pub are : parts ≡ filter (λ p. nat_lt 0 (length p.body))
      (map (λ bin. grown shape.k (bin_super_kmers shape.k shape.n bin (all_segments shape.k reads) cuts) (empty_part number shape bin))
      (range_with_len 0 shape.n))
