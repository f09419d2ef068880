-- Packed words with how often each is counted, both in one number.
use Rattle.std.specs.Prelude.{ℕ, ◌+◌, ◌-◌, ◌*◌, ◌/◌, ◌%◌, ◌^◌, ◌<◌, List, map}
use Rattle.std.specs.List.{All, sum_by}
use Rattle.kmc_base.specs.Packed.{unpack}

-- the packed word n, counted m times, as an item: the word above f bits, and in those bits m less one
abbrev pub weighted : ℕ → ℕ → ℕ → ℕ
weighted f m n = n * 2 ^ f + (m - 1)

-- how often the word of an item is counted
abbrev pub item_weight : ℕ → ℕ → ℕ
item_weight f n = n % 2 ^ f + 1

-- the word of an item, of k codes, and how often it is counted
abbrev pub item : ℕ → ℕ → ℕ → List ℕ × ℕ
item k f n = (unpack k (n / 2 ^ f), item_weight f n)

abbrev pub items : ℕ → ℕ → List ℕ → List (List ℕ × ℕ)
items k f ns = map (item k f) ns

-- the words of items have at most k codes
abbrev pub AreItems : ℕ → ℕ → List ℕ → Type 0
AreItems k f ns = All (λ n. n / 2 ^ f < 4 ^ k) ns

-- what words with weights add up to, where the word w is worth g w: with 1 for each this is the sum of the weights, with
-- 1 for one word and 0 for the others how often that word is counted
abbrev pub worth : (List ℕ → ℕ) → List (List ℕ × ℕ) → ℕ
worth g ps = sum_by (λ p. p.1 * g p.0) ps
