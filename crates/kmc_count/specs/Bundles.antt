-- Items in two lists: each of the first counts once, and each of the second, a bundle, so many times.
use Rattle.std.specs.Prelude.{◌≡◌, ℕ, ◌+◌, ◌*◌, List}
use Rattle.std.specs.List.{sum_by}
use Rattle.kmc_base.specs.declared.strands.Strands.{Strands}
use Rattle.kmc_base.specs.Record.{IsBodyOf}
use Rattle.kmc_base.specs.Weights.{items, worth, AreItems}
use Rattle.kmc_record.specs.RecordWords.{record_keys}
use Rattle.kmc_count.specs.Occurrences.{weight_of}

-- what two lists come to, where a bundle counts u times and the word w is worth g w
abbrev pub worth_of_both : (k f u : ℕ) → (List ℕ → ℕ) → List ℕ → List ℕ → ℕ
worth_of_both k f u g singles bundles = worth g (items k f singles) + u * worth g (items k f bundles)

-- two lists grow by words, each of them m times
pub record BothGain (k f u : ℕ) (singles bundles new_singles new_bundles : List ℕ) (ws : List (List ℕ)) (m : ℕ) : Type 0 where
  pub each : (g : List ℕ → ℕ) → worth_of_both k f u g new_singles new_bundles ≡ worth_of_both k f u g singles bundles + m * sum_by g ws
  pub fit : AreItems k f singles → AreItems k f new_singles
  pub bundles_fit : AreItems k f bundles → AreItems k f new_bundles

-- the body is whole records, and the items of both lists come to the keys of all their words
pub record AreBundledItems (strands : Strands) (k f u : ℕ) (body singles bundles : List ℕ) : Type 0 where
  pub super_kmers : List (List ℕ)
  pub records : IsBodyOf k super_kmers body
  pub each : (g : List ℕ → ℕ) → worth_of_both k f u g singles bundles ≡ sum_by g (record_keys strands k super_kmers)
  pub fit : AreItems k f singles
  pub bundles_fit : AreItems k f bundles

-- how often the word x is counted in two lists of words with weights
abbrev pub weight_of_both : ℕ → List (List ℕ × ℕ) → List (List ℕ × ℕ) → List ℕ → ℕ
weight_of_both u ps qs x = weight_of ps x + u * weight_of qs x
