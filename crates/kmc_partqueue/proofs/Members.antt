-- Members of a list, and where they stand.
use Rattle.std.proofs.Common.{◌≡◌, ℕ, zero, suc, ◌+◌, ◌<◌, ◌≤◌, List, [], ◌∷◌, ◌++◌, length, set, refl, sym, ap, lt_of_not-le, arith}
use mathlib.Core.Option.{some, some-ne-none}
use mathlib.Core.Logic.{dite}
use native.Mathlib.Decide.{dec_le}
use lib.ListN.{get_elem?}
use Rattle.std.specs.Prelude.{Some, None, slice_get}
use Rattle.kmc_partqueue.specs.Counts.{Among, total_of}
use Rattle.kmc_partqueue.specs.Dealing.{first_of, rest_of}

module _ {A : Type 0} where
  -- an empty list has no member
  pub nobody : {C : Type 0} (x : A) → Among x [] → C
  nobody {C} x p = let e : None ≡ Some x = p.1 in cc

  pub only : (x y : A) → Among x (y ∷ []) → y ≡ x
  only x y (zero, e) = let e' : Some y ≡ Some x = e in cc
  only x y (suc i, e) = nobody x (i, e)

  pub among_left : (x : A) (l m : List A) → Among x l → Among x (l ++ m)
  among_left x [] m p = nobody x p
  among_left x (y ∷ l) m (zero, e) = (zero, e)
  among_left x (y ∷ l) m (suc i, e) = let r = among_left x l m (i, e) in (suc r.0, r.1)

  pub among_right : (x : A) (l m : List A) → Among x m → Among x (l ++ m)
  among_right x [] m p = p
  among_right x (y ∷ l) m p = let r = among_right x l m p in (suc r.0, r.1)

  pub among_last : (x : A) (l : List A) → Among x (l ++ x ∷ [])
  among_last x l = among_right x l (x ∷ []) (0, refl)

  -- a member is the first or one of the rest
  pub first_or_rest : {C : Type 0} (x : A) (l : List A) → Among x l → (Among x (first_of l) → C) → (Among x (rest_of l) → C) → C
  first_or_rest x [] p here more = nobody x p
  first_or_rest x (y ∷ l) (zero, e) here more = here (zero, e)
  first_or_rest x (y ∷ l) (suc i, e) here more = more (i, e)

  -- a member that counts, of a list that counts
  pub some_member : (f : A → ℕ) (l : List A) → 1 ≤ total_of f l → (x : A) × Among x l × (1 ≤ f x)
  some_member f [] le = absurd (omega arith)
  some_member f (x ∷ l) le = dite (dec_le 1 (f x)) (λ here. (x, (0, refl), here))
      (λ no. let z : f x < 1 = lt_of_not-le no in let a : ℕ = f x in let t : ℕ = total_of f l in let le' : 1 ≤ a + t = le in let r = some_member f l
      (omega arith) in (r.0, (suc r.1.0, r.1.1), r.2))

  pub member_at : (l : List A) (i : ℕ) (x : A) → slice_get l i ≡ Some x → get_elem? l i ≡ some x
  member_at [] i x e = cc
  member_at (y ∷ l) zero x e = let e' : Some y ≡ Some x = e in let is : y ≡ x = cc in ap some is
  member_at (y ∷ l) (suc i) x e = member_at l i x e

  pub within : (l : List A) (i : ℕ) (x : A) → get_elem? l i ≡ some x → i < length l
  within [] i x e = absurd (some-ne-none x (sym e))
  within (y ∷ l) zero x e = omega arith
  within (y ∷ l) (suc i) x e = let r = within l i x e in omega arith

  pub set_at : (l : List A) (i : ℕ) (v w : A) → get_elem? l i ≡ some v → get_elem? (set l i w) i ≡ some w
  set_at [] i v w e = absurd (some-ne-none v (sym e))
  set_at (x ∷ xs) zero v w e = refl
  set_at (x ∷ xs) (suc i) v w e = set_at xs i v w e
