-- Where a piece of a read begins, and what one more piece adds.
use Rattle.std.proofs.Common.{◌≡◌, ℕ, ◌+◌, ◌*◌, ◌-◌, ◌/◌, ◌<◌, ◌≤◌, List, [], ◌∷◌, ◌++◌, map, arith}
use Rattle.std.proofs.lemmas.List.FromFn.{map-range_with_len_more}
use Rattle.std.specs.List.{range_with_len}
use Rattle.kmc_base.specs.Pieces.{piece}

-- a piece begins where a word does
pub begins : (c x d : ℕ) → 1 ≤ d → c < (x + (d - 1)) / d → c * d < x
begins c x d some less = grind arith

-- one more piece
pub piece_more : (k l : ℕ) (read : List ℕ) (c : ℕ) → map (piece k l read) (range_with_len 0 (c + 1)) ≡ map (piece k l read) (range_with_len 0 c)
    ++ piece k l read c ∷ []
piece_more k l read c = map-range_with_len_more (piece k l read) 0 c c (omega arith)
