-- Check words: MurmurHash64A.
use Rattle.std.specs.Prelude.{ℕ, zero, suc, ◌*◌, ◌/◌, ◌%◌, ◌^◌, List, [], ◌∷◌, length, take, drop}
use Rattle.std.specs.Int.{w64, from_le_bytes}
use Rattle.std.specs.Int.Bits.{bit_xor}

-- a number of 64 bits times an odd one, which no number shares with another
unfoldable pub times : ℕ → ℕ
times x = (x * 14313749767032793493) % 2 ^ 64

-- the upper 17 bits of 64 are carried down
unfoldable pub folded : ℕ → ℕ
folded x = bit_xor x (x / 2 ^ 47)

-- the state after one more number
unfoldable pub mixed : ℕ → ℕ → ℕ
mixed state n = times (bit_xor state n)

-- the state after one more word
abbrev pub taken : ℕ → ℕ → ℕ
taken state word = mixed state (times (folded (times word)))

-- the state after fewer than eight bytes, which are one number, the first byte the lowest
abbrev pub rest_taken : ℕ → List ℕ → ℕ
rest_taken state [] = state
rest_taken state (b ∷ bs) = mixed state (from_le_bytes w64 (b ∷ bs))

-- the state after so many words of eight bytes, each a number, its first byte the lowest, and after the bytes that are left
abbrev pub hashed_words : ℕ → ℕ → List ℕ → ℕ
hashed_words state zero bytes = rest_taken state bytes
hashed_words state (suc n) bytes = hashed_words (taken state (from_le_bytes w64 (take 8 bytes))) n (drop 8 bytes)

-- the check word of bytes, with a seed
unfoldable pub hashed : ℕ → List ℕ → ℕ
hashed seed bytes = folded (times (folded (hashed_words (bit_xor seed (times (length bytes))) (length bytes / 8) bytes)))
