-- A short record as a number of 128 bits: its n symbols at the top, two bits each, and n in the lowest six bits.
use Rattle.std.specs.Prelude.{◌≡◌, ℕ, ◌+◌, ◌-◌, ◌*◌, ◌/◌, ◌%◌, ◌^◌, ◌≤◌, List, map}
use Rattle.std.specs.List.{All, sum_by}
use Rattle.kmc_base.specs.declared.strands.Strands.{Strands}
use Rattle.kmc_base.specs.Packed.{unpack}
use Rattle.kmc_base.specs.Strands.{keys}
use Rattle.kmc_base.specs.Weights.{items, worth, AreItems}
use Rattle.kmc_record.specs.RecordWords.{record_keys}

-- how many symbols the record of a number has
abbrev pub symbols_of : ℕ → ℕ
symbols_of key = key % 64

-- its symbols, packed
abbrev pub packed_symbols : ℕ → ℕ
packed_symbols key = key / 4 ^ (64 - symbols_of key)

abbrev pub codes_of : ℕ → List ℕ
codes_of key = unpack (symbols_of key) (packed_symbols key)

-- a record of at least one word
abbrev pub IsRecordKey : ℕ → ℕ → Type 0
IsRecordKey k key = k ≤ symbols_of key

-- the keys of the words of the records of these numbers
abbrev pub key_words : Strands → ℕ → List ℕ → List (List ℕ)
key_words strands k ns = record_keys strands k (map codes_of ns)

-- items grow by words, each of them m times
pub record Gains (k f : ℕ) (old new : List ℕ) (ws : List (List ℕ)) (m : ℕ) : Type 0 where
  pub each : (g : List ℕ → ℕ) → worth g (items k f new) ≡ worth g (items k f old) + m * sum_by g ws
  pub fit : AreItems k f old → AreItems k f new

-- numbers grow by the words of a super-k-mer
pub record GainsWords (strands : Strands) (k : ℕ) (old new : List ℕ) (s : List ℕ) : Type 0 where
  pub each : (g : List ℕ → ℕ) → sum_by g (key_words strands k new) ≡ sum_by g (key_words strands k old) + sum_by g (keys strands k s)
  pub long : All (IsRecordKey k) old → All (IsRecordKey k) new

-- super-k-mers are taken in, some as numbers and the words of others as items: together they come to the keys of all words
pub record IsTaken (strands : Strands) (k f : ℕ) (numbers now : List ℕ) (ss : List (List ℕ)) : Type 0 where
  pub each : (g : List ℕ → ℕ) → worth g (items k f now) + sum_by g (key_words strands k numbers) ≡ sum_by g (record_keys strands k ss)
  pub fit : AreItems k f now
  pub long : All (IsRecordKey k) numbers
