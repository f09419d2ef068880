-- Under which key a word is counted.
use Rattle.std.specs.Prelude.{ℕ, ◌+◌, ◌-◌, min, List, length, map}
use Rattle.std.specs.List.{range_with_len}
use Rattle.kmc_base.specs.declared.strands.Strands.{Strands}
use Rattle.kmc_base.specs.declared.strands.Strands.TheVariants.{Joined, Apart}
use Rattle.kmc_base.specs.Words.{canonical, window}

-- a word and its reverse complement are counted together, or each by itself
abbrev pub key : Strands → List ℕ → List ℕ
key Joined w = canonical w
key Apart w = w

-- the key of a word that stands at a place
abbrev pub placed_key : Strands → ℕ × List ℕ → List ℕ
placed_key strands p = key strands p.1

-- the keys of the words of k codes that stand in a longer one, in the order of their places
abbrev pub keys : Strands → ℕ → List ℕ → List (List ℕ)
keys strands k w = map (λ i. key strands (window k w i)) (range_with_len 0 (length w + 1 - k))

-- the key as a number, from a packed word and its packed reverse complement
abbrev pub packed_key : Strands → ℕ → ℕ → ℕ
packed_key Joined forward back = min forward back
packed_key Apart forward back = forward
