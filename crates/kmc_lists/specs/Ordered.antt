-- The pairs of lists in the order of their words, and which of them lie in slots that follow one another.
use Rattle.std.specs.Prelude.{◌≡◌, ℕ, ◌/◌, ◌^◌, ◌<◌, ◌≤◌, ◌&&◌, Bool, if◌then◌else◌, nat_le, nat_lt, List, [], ◌∷◌, length, take, drop, map}
use Rattle.std.specs.List.{filter, flat_map, All, AllByRecursion}
use Rattle.kmc_lists.specs.Listed.{Listed}

-- the words rise, none stands twice
abbrev pub Rises : List (ℕ × ℕ) → Type 0
Rises [] = Unit {0}
Rises (p ∷ ps) = AllByRecursion (λ q. p.0 < q.0) ps × Rises ps

-- the words do not fall
abbrev pub Climbs : List (ℕ × ℕ) → Type 0
Climbs [] = Unit {0}
Climbs (p ∷ ps) = AllByRecursion (λ q. p.0 ≤ q.0) ps × Climbs ps

-- no word stands in both
abbrev pub Differ : List (ℕ × ℕ) → List (ℕ × ℕ) → Type 0
Differ ps qs = AllByRecursion (λ p. AllByRecursion (λ q. p.0 ≡ q.0 → ⊥) qs) ps

abbrev pub joined : List (List (ℕ × ℕ)) → List (ℕ × ℕ)
joined pss = flat_map (λ ps. ps) pss

-- no word stands in two of the lists
abbrev pub Apart : List (List (ℕ × ℕ)) → Type 0
Apart [] = Unit {0}
Apart (ps ∷ pss) = Differ ps (joined pss) × Apart pss

abbrev pub packs : List Listed → List (List (ℕ × ℕ))
packs lists = map (λ c. c.packed) lists

-- lists of words of k codes, each rises, and they share none
pub record CanBeMerged (k : ℕ) (lists : List Listed) : Type 0 where
  pub rise : AllByRecursion Rises (packs lists)
  pub apart : Apart (packs lists)
  pub fit : All (λ p. p.0 < 4 ^ k) (joined (packs lists))

-- a pair before the first whose word is not below its own
abbrev pub put : ℕ × ℕ → List (ℕ × ℕ) → List (ℕ × ℕ)
put p [] = p ∷ []
put p (q ∷ qs) = if nat_le p.0 q.0 then p ∷ q ∷ qs else q ∷ put p qs

abbrev pub in_order : List (ℕ × ℕ) → List (ℕ × ℕ)
in_order [] = []
in_order (p ∷ ps) = put p (in_order ps)

-- all pairs of the lists, rising by their words
abbrev pub whole : List Listed → List (ℕ × ℕ)
whole lists = in_order (joined (packs lists))

-- the slot of a word is its front; a range is slots that follow one another
abbrev pub is_within : ℕ → ℕ → ℕ → ℕ × ℕ → Bool
is_within weight from to p = nat_le from (p.0 / weight) && nat_lt (p.0 / weight) to

abbrev pub within : ℕ → ℕ → ℕ → List (ℕ × ℕ) → List (ℕ × ℕ)
within weight from to ps = filter (is_within weight from to) ps

-- the first n pairs have a slot below this one, and the others do not
pub record IsCutOfList (weight slot n : ℕ) (ps : List (ℕ × ℕ)) : Type 0 where
  pub inside : n ≤ length ps
  pub before : All (λ p. p.0 / weight < slot) (take n ps)
  pub behind : All (λ p. slot ≤ p.0 / weight) (drop n ps)
