-- Lists that lie one behind the other in one buffer.
use Rattle.std.specs.Prelude.{ℕ, ◌+◌, ◌-◌, ◌≤◌, List, [], ◌∷◌, length, take, drop}

-- the rows of a buffer that begin at place n and end at these places
abbrev pub rows_from : ℕ → List ℕ → List ℕ → List (List ℕ)
rows_from n [] bytes = []
rows_from n (e ∷ ends) bytes = take (e - n) bytes ∷ rows_from e ends (drop (e - n) bytes)

-- where these rows end, the first of which begins at place n
abbrev pub ends_from : ℕ → List (List ℕ) → List ℕ
ends_from n [] = []
ends_from n (row ∷ rows) = (n + length row) ∷ ends_from (n + length row) rows

-- places that do not fall, from n on and up to m
abbrev pub AreEnds : ℕ → List ℕ → ℕ → Type 0
AreEnds n [] m = n ≤ m
AreEnds n (e ∷ ends) m = (n ≤ e) × AreEnds e ends m
