-- Numbers in bytes, and the numbers of a layout.
use Rattle.std.specs.Prelude.{ℕ, ◌+◌, ◌-◌, ◌/◌, ◌%◌, ◌^◌, min, nat_le, nat_lt, if◌then◌else◌, List, [], ◌∷◌}
use Rattle.std.proofs.Common.{zero, suc}

-- a number in so many bytes, the lowest first: 302 in two bytes is 46, 1
abbrev pub low_first : ℕ → ℕ → List ℕ
low_first zero number = []
low_first (suc n) number = number % 256 ∷ low_first n (number / 256)

-- how many bytes hold a number: at most four
abbrev pub width : ℕ → ℕ
width number = if nat_lt number (2 ^ 8) then 1 else if nat_lt number (2 ^ 16) then 2 else if nat_lt number (2 ^ 24) then 3 else 4

-- the bytes of a count, which is at most the cap and at most the greatest listed one
abbrev pub counter_bytes : ℕ → ℕ → ℕ
counter_bytes cap greatest = min (width cap) (width greatest)

-- the length of the first part of words of k symbols where none is asked for: 5 to 8 symbols, so that a multiple of four is left
abbrev pub usual_prefix : ℕ → ℕ
usual_prefix k = if nat_le k 4 then k else 5 + (k - 5) % 4
