-- Facts of each member of a list, sums over a list, and a function changed at one place.
use Rattle.std.proofs.Common.{lt-ltb, le-ltb, lt_of_not-le, ◌≡◌, ℕ, zero, suc, ◌+◌, ◌<◌, ◌≤◌, ◌≢◌, cond, List, [], ◌∷◌, ◌++◌, get_or, length, set, refl, sym, ap, subst, ⊎_elim, eq-eqb, ne_eqb, arith}
use Rattle.std.specs.Prelude.{Some, slice_get}
use mathlib.Core.Option.{some, some-injective, some-ne-none}
use mathlib.Core.Logic.{dite}
use native.Mathlib.Decide.{dec_le, ℕ_discrete}
use lib.ListN.{get_elem?}
use Rattle.atomic_table.proofs.Lists.{at_set}
use Rattle.kmc_partqueue.specs.Counts.{Each, total_of, same, once_below}

pub same_refl : (x y : ℕ) → x ≡ y → same x y ≡ 1
same_refl x y e = ap (λ b. cond b 1 0) (eq-eqb x y e)

pub one_of_itself : (x : ℕ) → same x x + 0 ≡ 1
one_of_itself x = omega (arith, same_refl x x refl)

pub same_ne : (x y : ℕ) → x ≢ y → same x y ≡ 0
same_ne x y n = ap (λ b. cond b 1 0) (ne_eqb x y n)

module _ {A : Type 0} (f : A → ℕ) where
  pub total_set : (l : List A) (i : ℕ) (v w : A) → get_elem? l i ≡ some v → total_of f (set l i w) + f v ≡ total_of f l + f w
  total_set [] i v w e = absurd (some-ne-none v (sym e))
  total_set (x ∷ xs) zero v w e = let is : f x ≡ f v = ap f (some-injective x v e) in omega arith
  total_set (x ∷ xs) (suc i) v w e = let r = total_set xs i v w e in omega arith

  pub total_append : (l m : List A) → total_of f (l ++ m) ≡ total_of f l + total_of f m
  total_append [] m = omega arith
  total_append (x ∷ xs) m = let r = total_append xs m in omega arith

  pub total_at : (l : List A) (i : ℕ) (v : A) → get_elem? l i ≡ some v → f v ≤ total_of f l
  total_at [] i v e = absurd (some-ne-none v (sym e))
  total_at (x ∷ xs) zero v e = let is : f x ≡ f v = ap f (some-injective x v e) in omega arith
  total_at (x ∷ xs) (suc i) v e = let r = total_at xs i v e in omega arith

  pub total_two : (l : List A) (i j : ℕ) (v u : A) → i ≢ j → get_elem? l i ≡ some v → get_elem? l j ≡ some u → f v + f u ≤ total_of f l
  total_two [] i j v u n e d = absurd (some-ne-none v (sym e))
  total_two (x ∷ xs) zero zero v u n e d = absurd (n refl)
  total_two (x ∷ xs) zero (suc j) v u n e d = let is : f x ≡ f v = ap f (some-injective x v e) in let r = total_at xs j u d in omega arith
  total_two (x ∷ xs) (suc i) zero v u n e d = let is : f x ≡ f u = ap f (some-injective x u d) in let r = total_at xs i v e in omega arith
  total_two (x ∷ xs) (suc i) (suc j) v u n e d = let r = total_two xs i j v u (λ h. n (ap suc h)) e d in omega arith

module _ {A : Type 0} (P Q : A → Type 0) where
  pub each_map : ((x : A) → P x → Q x) → (l : List A) → Each P l → Each Q l
  each_map go [] p = tt
  each_map go (x ∷ xs) p = (go x p.0, each_map go xs p.1)

  -- where no member has the number w, the facts of the others stay
  pub each_absent : (num : A → ℕ) (w : ℕ) → ((x : A) → num x ≢ w → P x → Q x) → (l : List A)
      → total_of (λ (x : A). same (num x) w) l ≡ 0 → Each P l → Each Q l
  each_absent num w go [] z p = tt
  each_absent num w go (x ∷ xs) z p =
      let t : ℕ = total_of (λ (y : A). same (num y) w) xs in let z' : same (num x) w + t ≡ 0 = z in
      let u : ℕ = same (num x) w in (
        dite (ℕ_discrete (num x) w) (λ e. let one : u ≡ 1 = same_refl (num x) w e in absurd (omega arith)) (λ n. go x n p.0),
        each_absent num w go xs
            (omega arith) p.1,
      )

pub each_both : {A : Type 0} (P Q : A → Type 0) (l : List A) → Each P l → Each Q l → Each (λ x. P x × Q x) l
each_both P Q [] p q = tt
each_both P Q (x ∷ l) p q = ((p.0, q.0), each_both P Q l p.1 q.1)

pub each_append : {A : Type 0} (P : A → Type 0) (l m : List A) → Each P l → Each P m → Each P (l ++ m)
each_append P [] m p q = q
each_append P (x ∷ xs) m p q = (p.0, each_append P xs m p.1 q)

-- what holds of the new view, and of each other, holds of all
pub views_stay : {V : Type 0} (Q : ℕ → V → Type 0) (vs : List V) (id : ℕ) (w : V) → Q id w
    → ((j : ℕ) (v : V) → j ≢ id → get_elem? vs j ≡ some v → Q j v) → (j : ℕ) (v : V)
    → get_elem? (set vs id w) j ≡ some v → Q j v
views_stay {V} Q vs id w mine others j v e =
    ⊎_elim (λ (x : (j ≡ id) × (w ≡ v)). subst (λ (y : ℕ × V). Q y.0 y.1) (λ i. (sym x.0 i, x.1 i)) mine)
    (λ (x : (j ≢ id) × (get_elem? vs j ≡ some v)). others j v x.0 x.1) (at_set vs id j w v e)

abbrev pick : {A P : Type 0} → Dec P → A → A → A
pick (yes _) a b = a
pick (no _) a b = b

pub put : {A : Type 0} → (ℕ → A) → ℕ → A → ℕ → A
put f i a j = pick (ℕ_discrete j i) a (f j)

-- what holds of the new value at i, and of each other value, holds after
pub at_put : {A : Type 0} (f : ℕ → A) (i : ℕ) (a : A) (F : ℕ → A → Type 0) (j : ℕ) → F i a → (j ≢ i → F j (f j)) → F j (put f i a j)
unfolding put
at_put {A} f i a F j here other = go (ℕ_discrete j i)
  where
    go : (d : Dec (j ≡ i)) → F j (pick d a (f j))
    go (yes e) = subst (λ (k : ℕ). F k a) (sym e) here
    go (no n) = other n

pub put_here : {A : Type 0} (f : ℕ → A) (i : ℕ) (a : A) → put f i a i ≡ a
put_here {A} f i a = at_put f i a (λ q x. q ≡ i → x ≡ a) i (λ _. refl) (λ n. absurd (n refl)) refl

pub put_else : {A : Type 0} (f : ℕ → A) (i : ℕ) (a : A) (j : ℕ) → j ≢ i → put f i a j ≡ f j
put_else {A} f i a j n = at_put f i a (λ q x. q ≡ j → x ≡ f j) j (λ e. absurd (n (sym e))) (λ _ _. refl) refl

pub below_one : (n h : ℕ) → n < h → once_below n h ≡ 1
below_one n h l = ap (λ b. cond b 1 0) (lt-ltb n h l)

pub below_none : (n h : ℕ) → h ≤ n → once_below n h ≡ 0
below_none n h l = ap (λ b. cond b 1 0) (le-ltb n h l)

-- one more number
pub once_next : (n h : ℕ) → once_below n (h + 1) ≡ once_below n h + same h n
once_next n h = let x : ℕ = once_below n (h + 1) in let y : ℕ = once_below n h in let z : ℕ = same h n in dite (ℕ_discrete h n)
    (λ e. let x' : x ≡ 1 = below_one n (h + 1) (omega arith) in let y' : y ≡ 0 = below_none n h (omega arith) in let z' : z ≡ 1 = same_refl h n e in
    omega arith)
    (λ ne. let z' : z ≡ 0 = same_ne h n ne in dite (dec_le (suc n) h)
    (λ l. let x' : x ≡ 1 = below_one n (h + 1) (omega arith) in let y' : y ≡ 1 = below_one n h l in omega arith)
    (λ no'. let far : h < suc n = lt_of_not-le no' in let x' : x ≡ 0 = below_none n (h + 1) (omega arith) in let y' : y ≡ 0 = below_none n h
    (omega arith) in omega arith))

pub each_split : {A : Type 0} (P : A → Type 0) (l m : List A) → Each P (l ++ m) → Each P l × Each P m
each_split P [] m p = (tt, p)
each_split P (x ∷ xs) m p = let r = each_split P xs m p.1 in ((p.0, r.0), r.1)

pub append_none : {A : Type 0} (l : List A) → l ≡ l ++ []
append_none [] = refl
append_none (x ∷ xs) = λ j. x ∷ append_none xs j

-- the member at a place
pub get_at : {A : Type 0} (l : List A) (i : ℕ) (d : A) → i < length l → slice_get l i ≡ Some (get_or l i d)
get_at [] i d lt = absurd (omega arith)
get_at (x ∷ l) zero d lt = refl
get_at (x ∷ l) (suc i) d lt = get_at l i d (omega arith)
