-- Super-k-mers: overlapping words of one signature.
use Rattle.std.specs.Prelude.{ℕ, ◌+◌, ◌<◌, ◌≤◌, List, length}
use Rattle.std.specs.List.{All}
use Rattle.kmc_base.specs.declared.kmer.TheConstants.{MAX_K}
use Rattle.kmc_base.specs.Words.{windows}

-- k, and the codes that the words of k codes stand in
pub record SuperKmerValue : Type 0 where
  pub k : ℕ
  pub codes : List ℕ

-- what a `SuperKmer` can hold: 1 to 256 words
pub record IsSuperKmer (k : ℕ) (w : List ℕ) : Type 0 where
  pub some : 1 ≤ k
  pub limit : k ≤ MAX_K
  pub long : k ≤ length w
  pub most : length w ≤ k + 255
  pub codes : All (λ c. c < 4) w

-- the words of a super-k-mer, in the order of their places
abbrev pub super_kmer_words : SuperKmerValue → List (List ℕ)
super_kmer_words s = windows s.k s.codes
