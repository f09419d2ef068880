-- Laws of segments, keys and canonical forms.
use Rattle.std.specs.Prelude.{◌≡◌, ℕ, ◌*◌, ◌^◌, ◌<◌, ◌≤◌, All, List, length, map}
use Rattle.std.specs.List.{flat_map, range_with_len}
use Rattle.kmc_base.specs.declared.strands.Strands.{Strands}
use Rattle.kmc_base.specs.Words.{rev_comp, canonical}
use Rattle.kmc_base.specs.Packed.{pack, unpack}
use Rattle.kmc_base.specs.Strands.{placed_key, keys}
use Rattle.kmc_base.specs.Stretches.{segments_of}
use Rattle.kmc_base.specs.Places.{IsSegment, counted_words, placed_words}
use Rattle.kmc_base.specs.Pieces.{moved_on, piece, piece_count, pieces, step_of}

-- the places of the segments, with their words, are the counted places of the read, in order
abbrev pub SegmentsAreCounted : Type 0
SegmentsAreCounted = (k : ℕ) (read : List ℕ) → 1 ≤ k → flat_map (placed_words k) (segments_of k read) ≡ counted_words k read

-- each segment is a maximal stretch of bases of the read
abbrev pub SegmentsAreMaximal : Type 0
SegmentsAreMaximal = (k : ℕ) (read : List ℕ) → All (IsSegment k read) (segments_of k read)

-- the keys of the segments' words, one after another, are those of the words at the counted places
abbrev pub KeysOfSegments : Type 0
KeysOfSegments = (strands : Strands) (k : ℕ) (read : List ℕ) → 1 ≤ k
    → flat_map (λ s. keys strands k s.codes) (segments_of k read) ≡ map (placed_key strands) (counted_words k read)

-- the keys of a list of codes, packed, fit 2 k bits and unpack to themselves
abbrev pub KeysUnpack : Type 0
KeysUnpack = (strands : Strands) (k : ℕ) (w : List ℕ) → All (λ c. c < 4) w
    → (map (unpack k) (map pack (keys strands k w)) ≡ keys strands k w) × All (λ n. n < 4 ^ k) (map pack (keys strands k w))

-- a word and its reverse complement have one canonical form
abbrev pub OneCanonicalForm : Type 0
OneCanonicalForm = (w : List ℕ) → All (λ c. c < 4) w → canonical (rev_comp w) ≡ canonical w

-- the counted places of a read's pieces, each moved on by where its piece begins, are those of the read, in order
abbrev pub PiecesAreCounted : Type 0
PiecesAreCounted = (k l : ℕ) (read : List ℕ) → 1 ≤ k → k ≤ l
    → flat_map (λ c. map (moved_on (c * step_of k l)) (counted_words k (piece k l read c))) (range_with_len 0 (piece_count k l (length read)))
    ≡ counted_words k read

-- the keys of the words at the counted places of the pieces, one after another, are those of the read
abbrev pub KeysOfPieces : Type 0
KeysOfPieces = (strands : Strands) (k l : ℕ) (read : List ℕ) → 1 ≤ k → k ≤ l
    → flat_map (λ p. map (placed_key strands) (counted_words k p)) (pieces k l read) ≡ map (placed_key strands) (counted_words k read)
