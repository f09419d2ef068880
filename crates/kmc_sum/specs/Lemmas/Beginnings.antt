-- Nothing is taken from the sources yet.
use Rattle.std.proofs.Common.{◌≡◌, ℕ, ◌+◌, ◌*◌, ◌<◌, ◌≤◌, ◌++◌, List, [], length, map, Option, None, refl, sym, ap, subst, ◌∙◌, arith, append-nil}
use Rattle.std.proofs.KnownBytes.{Consumes-nil}
use Rattle.std.proofs.lemmas.List.{length-map, get_or-map}
use Rattle.std.specs.Io.KnownBytes.{Consumes}
use Rattle.kmc_sum.specs.Faults.{GaveFront}
use Rattle.kmc_sum.specs.Heads.{head_at}
use Rattle.kmc_sum.specs.Source.{GoesOn}
use Rattle.kmc_sum.specs.Sources.{AreSources, GaveFronts, left_at, list_at, no_lists}
use Rattle.kmc_sum.specs.declared.heads.Head.{Head}
use Rattle.kmc_sum.specs.declared.source.Room.{Room}
use Rattle.kmc_sum.specs.Lemmas.Advances.{source_like}
use Rattle.kmc_sum.specs.Lemmas.Tallies.{rising_none}

pub goes_nowhere : (a : Option (List ℕ)) (xs ys : List ℕ) → ys ≡ xs → GoesOn a a xs ys
goes_nowhere a xs ys e = record { bytes = []; gave = Consumes-nil a; are = e ∙ sym (append-nil xs) }

-- a source has given bytes and no line
pub gave_none : (m : ℕ) (a b : Option (List ℕ)) (before rest : List ℕ) → before ≡ [] → GoesOn a b before rest → GaveFront m a b [] rest
gave_none m a b before rest none goes = record {
  listed = record { each = tt; rising = rising_none };
  bytes = subst (Consumes a b) (sym (goes.are ∙ ap (λ (l : List ℕ). l ++ goes.bytes) none)) goes.gave;
}

pub list_none : (starts : List (Option (List ℕ))) (i : ℕ) → i < length starts → list_at (no_lists starts) i ≡ []
list_none starts i inside = get_or-map (λ _. []) starts i None [] inside

-- nothing was read
pub gave_nothing : (k : ℕ) (starts : List (Option (List ℕ))) → GaveFronts k starts starts (no_lists starts)
gave_nothing k starts = record {
  lists_long = length-map starts (λ _. []);
  each = λ i inside.
      let here = gave_none k (left_at starts i) (left_at starts i) [] [] refl (goes_nowhere (left_at starts i) [] [] refl) in
      ([], subst (λ (t : List (List ℕ × ℕ)). GaveFront k (left_at starts i) (left_at starts i) t []) (sym (list_none starts i inside)) here);
}

-- the tree is built over the heads
pub sources_built : {T : Type 0} (left : T → Option (List ℕ)) (readers : List T) (k : ℕ) (nows : List (Option (List ℕ))) (rooms : List Room)
    (heads built : List Head) (lists : List (List (List ℕ × ℕ)))
    → ((j : ℕ) → length heads ≤ 2 * j → head_at built j ≡ head_at heads j) → length heads ≡ 2 * length readers → AreSources k
    (map left readers) nows rooms heads lists → AreSources k (map left readers) nows rooms built lists
sources_built left readers k nows rooms heads built lists leaves long are = record {
  nows_long = are.nows_long;
  lists_long = are.lists_long;
  each = λ i room inside.
      let starts = map left readers in
      source_like k (left_at starts i) _ _ _ _ _ _ _ _ refl refl (sym
      (leaves (length starts + i) (omega (arith, long, length-map readers left)))) refl (are.each i room inside);
}
