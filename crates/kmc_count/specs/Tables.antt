-- Tables of counters, one for each word.
use Rattle.std.specs.Prelude.{◌≡◌, ℕ, ◌+◌, ◌*◌, ◌^◌, ◌≤◌, List, [], ◌∷◌, length}
use Rattle.std.specs.List.{All}
use Rattle.kmc_base.specs.Packed.{unpack}
use Rattle.kmc_base.specs.Weights.{items, worth, AreItems}

-- what counters come to, the first of which is that of the packed word n, where the word w is worth g w
abbrev pub table_worth : (List ℕ → ℕ) → ℕ → ℕ → List ℕ → ℕ
table_worth g k n [] = 0
table_worth g k n (c ∷ cs) = c * g (unpack k n) + table_worth g k (1 + n) cs

-- a counter for each word of k codes, and none is above 2^f
pub record IsTable (k f : ℕ) (counters : List ℕ) : Type 0 where
  pub wide : length counters ≡ 4 ^ k
  pub low : All (λ c. c ≤ 2 ^ f) counters

-- the counters and the items that left them for want of room come to as much, and to that of these items more
pub record TakesIn (k f : ℕ) (counters over new_counters new_over more : List ℕ) : Type 0 where
  pub each : (g : List ℕ → ℕ) → table_worth g k 0 new_counters + worth g (items k f new_over)
      ≡ table_worth g k 0 counters + worth g (items k f over) + worth g (items k f more)
  pub fit : AreItems k f over → AreItems k f new_over
  pub table : IsTable k f new_counters

-- items come to as much as others, for whatever each word is worth
pub record ComeToAsMuch (k f : ℕ) (old new : List ℕ) : Type 0 where
  pub each : (g : List ℕ → ℕ) → worth g (items k f new) ≡ worth g (items k f old)
  pub fit : AreItems k f old → AreItems k f new
