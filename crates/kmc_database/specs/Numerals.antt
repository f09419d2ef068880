-- Numbers that stand in bytes, told from them.
use Rattle.std.specs.Prelude.{ℕ, ◌+◌, ◌*◌, Bool, List, [], ◌∷◌, length, take, drop, bytes_eq}

-- the number of bytes, the lowest first: 46, 1 is 302
abbrev pub low_number : List ℕ → ℕ
low_number [] = 0
low_number (b ∷ bytes) = b + 256 * low_number bytes

-- a number, and bytes behind it as its lower digits to base 256: 1 and 46 is 302
abbrev pub with_digits : ℕ → List ℕ → ℕ
with_digits n [] = n
with_digits n (b ∷ bytes) = with_digits (n * 256 + b) bytes

-- whether this part stands at a place of bytes
abbrev pub has_at : List ℕ → ℕ → List ℕ → Bool
has_at bytes place part = bytes_eq (take (length part) (drop place bytes)) part
