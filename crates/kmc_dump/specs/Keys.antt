-- Pairs of a range as numbers that sort as their words do.
use Rattle.std.specs.Prelude.{ℕ, ◌+◌, ◌/◌, ◌%◌, ◌^◌, List, map}

-- the pair of a key: the count in its lowest bits, and above them how far the word lies behind the least of the range
abbrev pub key_pair : ℕ → ℕ → ℕ → ℕ × ℕ
key_pair least bits key = (key / 2 ^ bits + least, key % 2 ^ bits)

abbrev pub key_pairs : ℕ → ℕ → List ℕ → List (ℕ × ℕ)
key_pairs least bits keys = map (key_pair least bits) keys
