-- Seats that were popped from a list, one after the other, and joined to one seat.
use Rattle.std.proofs.Common.{◌≡◌, List, [], ◌∷◌, ◌++◌, length, refl, sym, ap, ◌∙◌, subst, append_assoc, arith}
use Rattle.kmc_partqueue.specs.Counts.{Each}
use Rattle.kmc_partqueue.specs.Lemmas.Sums.{each_split, append_none}

-- of the seats `given` those in `left` are left. The joined seat had the views `old`, and has `now`
pub record Joined {S V : Type 0} (Is : S → Type 0) (Tell : List V → List S → Type 0) (old now : List V) (given left : List S) : Type 0 where
  pub each : Each Is left
  pub views : List V
  pub popped : List S
  pub split : given ≡ left ++ popped
  pub grown : now ≡ views ++ old
  pub told : Tell views popped

empty : {S : Type 0} (xs : List S) → length xs ≡ 0 → xs ≡ []
empty [] e = refl
empty (x ∷ xs) e = absurd (omega arith)

module _ {S V : Type 0} (Is : S → Type 0) (Tell : List V → List S → Type 0) (old : List V) (given : List S) where
  pub joins_none : Each Is given → Tell [] [] → Joined Is Tell old old given given
  joins_none all none = record { each = all; views = []; popped = []; split = append_none given; grown = refl; told = none }

  pub joins_one : (now now' : List V) (left more : List S) (v : V) (s : S) → Joined Is Tell old now given left
      → left ≡ more ++ s ∷ [] → now' ≡ v ∷ now → ((vs : List V) (ss : List S) → Tell vs ss → Tell (v ∷ vs) (s ∷ ss))
      → Joined Is Tell old now' given more
  joins_one now now' left more v s j last grows tells = record {
    each = (each_split Is more (s ∷ []) (subst (Each Is) last j.each)).0;
    views = v ∷ j.views;
    popped = s ∷ j.popped;
    split = j.split ∙ ap (λ z. z ++ j.popped) last ∙ append_assoc more (s ∷ []) j.popped;
    grown = grows ∙ ap (λ z. v ∷ z) j.grown;
    told = tells j.views j.popped j.told;
  }

  -- none is left
  pub joins_all : (now : List V) (left : List S) → Joined Is Tell old now given left → length left ≡ 0
      → (vs : List V) × (now ≡ vs ++ old) × Tell vs given
  joins_all now left j none =
      (j.views, j.grown, subst (Tell j.views) (sym (j.split ∙ ap (λ z. z ++ j.popped) (empty left none))) j.told)
