-- Records whose words are still to come.
use Rattle.std.specs.Prelude.{◌≡◌, ℕ, ◌+◌, ◌*◌, ◌<◌, ◌≤◌, ◌^◌, List, [], ◌∷◌, take, length, slice_index_or}
use Rattle.std.specs.List.{sum_by}
use Rattle.kmc_base.specs.declared.strands.Strands.{Strands}
use Rattle.kmc_base.specs.Packed.{unpack}
use Rattle.kmc_base.specs.Strands.{keys}
use Rattle.kmc_base.specs.Weights.{AreItems}
use Rattle.kmc_count.specs.Bundles.{worth_of_both}

-- what the words of the first symbols of a record's number are worth
abbrev pub front_worth : Strands → ℕ → (List ℕ → ℕ) → ℕ → ℕ → ℕ
front_worth strands k g key d = sum_by g (keys strands k (take d (unpack 64 key)))

-- counts, the first of which stands at place d, where each at place i counts w i
abbrev pub placed_worth : (ℕ → ℕ) → ℕ → List ℕ → ℕ
placed_worth w d [] = 0
placed_worth w d (c ∷ cs) = c * w d + placed_worth w (1 + d) cs

-- the words between two places of a record go into two lists, each so many times
pub record BothGainBetween (strands : Strands) (k f u key : ℕ) (singles bundles new_singles new_bundles : List ℕ) (from to m : ℕ) : Type 0 where
  pub each : (g : List ℕ → ℕ) → worth_of_both k f u g new_singles new_bundles + m * front_worth strands k g key from
      ≡ worth_of_both k f u g singles bundles + m * front_worth strands k g key to
  pub fit : AreItems k f singles → AreItems k f new_singles
  pub bundles_fit : AreItems k f bundles → AreItems k f new_bundles

-- how many records wait at each of 64 places: none behind this one, none inside of the first word, and all of them can be counted
pub record IsWaiting (k last : ℕ) (counts : List ℕ) : Type 0 where
  pub wide : length counts ≡ 64
  pub none : (i : ℕ) → last < i → slice_index_or counts i 0 ≡ 0
  pub short : (i : ℕ) → 1 ≤ i → i < k → slice_index_or counts i 0 ≡ 0
  pub few : placed_worth (λ _. 1) 0 counts < 2 ^ 64

-- the words of a record behind this place went into two lists, for each record that waited at their end or behind it
pub record AreSettled (strands : Strands) (k f u key last : ℕ) (singles bundles waiting new_singles new_bundles new_waiting : List ℕ) : Type 0 where
  pub each : (g : List ℕ → ℕ)
      → worth_of_both k f u g new_singles new_bundles + placed_worth (front_worth strands k g key) 0 new_waiting
      ≡ worth_of_both k f u g singles bundles + placed_worth (front_worth strands k g key) 0 waiting
  pub places : IsWaiting k last new_waiting
  pub count : placed_worth (λ _. 1) 0 new_waiting ≡ placed_worth (λ _. 1) 0 waiting
  pub fit : AreItems k f singles → AreItems k f new_singles
  pub bundles_fit : AreItems k f bundles → AreItems k f new_bundles
