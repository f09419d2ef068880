-- The four codes from a place on as a byte, and an m-mer of 4 to 8 codes as two such bytes that overlap.
use Rattle.std.specs.Prelude.{◌≡◌, ℕ, ◌+◌, ◌*◌, ◌%◌, ◌^◌, ◌<◌, ◌≤◌, List, length, slice_index, min}
use Rattle.kmc_base.specs.Words.{rev_comp, window}
use Rattle.kmc_base.specs.Packed.{pack}

-- the numbers of the four codes from each place on, and of their reverse complements
pub record AreQuads (codes quads turned : List ℕ) : Type 0 where
  pub ahead : (i : ℕ) → i + 4 ≤ length codes → slice_index quads i ≡ pack (window 4 codes i)
  pub back : (i : ℕ) → i + 4 ≤ length codes → slice_index turned i ≡ pack (rev_comp (window 4 codes i))

-- the same at the first n places
pub record AreQuadsBefore (n : ℕ) (codes quads turned : List ℕ) : Type 0 where
  pub ahead : (i : ℕ) → i < n → slice_index quads i ≡ pack (window 4 codes i)
  pub back : (i : ℕ) → i < n → slice_index turned i ≡ pack (rev_comp (window 4 codes i))

-- four codes, and the d last ones of four others
abbrev pub overlap : ℕ → ℕ → ℕ → ℕ
overlap d high low = high * 4 ^ d + low % 4 ^ d

-- the lesser number of the two strands of 4 + d codes from place i on
abbrev pub lesser_strand : ℕ → List ℕ → List ℕ → ℕ → ℕ
lesser_strand d quads turned i =
    min (overlap d (slice_index quads i) (slice_index quads (i + d))) (overlap d (slice_index turned (i + d)) (slice_index turned i))
