-- Occurrences in lists of words, as sums.
use Rattle.std.proofs.Common.{◌≡◌, ◌≢◌, ℕ, zero, suc, ◌+◌, ◌<◌, ◌≤◌, Bool, true, false, cond, nat_eq, List, [], ◌∷◌, refl, sym, ap, ap₂, ◌∙◌, arith, zero-add}
use Rattle.std.specs.List.{flat_map, sum_by, range_with_len}
use Rattle.std.proofs.lemmas.List.Sums.{sum_by-cons}
use Rattle.std.proofs.lemmas.Bool.Decides.{nat_tests}
use Rattle.kmc_record.specs.Lemmas.Sums.{sum_same, sum_none, sum_add, sum_flat_map}
use Rattle.kmc_count.specs.Occurrences.{same_word, occurrences}

-- sums over a range are equal where the terms below its end are
pub sum_range : (F G : ℕ → ℕ) (a n : ℕ) → ((i : ℕ) → a ≤ i → i < a + n → F i ≡ G i) → sum_by F (range_with_len a n) ≡ sum_by G (range_with_len a n)
sum_range F G a zero e = refl
sum_range F G a (suc n) e =
    sum_by-cons F a (range_with_len (a + 1) n)
    ∙ ap₂ (λ (x y : ℕ). x + y) (e a (omega arith) (omega arith)) (sum_range F G (a + 1) n (λ i from to. e i (omega arith) (omega arith)))
    ∙ sym (sum_by-cons G a (range_with_len (a + 1) n))

-- a number that stands once in a range is counted once
none_there : (v g a n : ℕ) → v < a → sum_by (λ i. cond (nat_eq v i) g 0) (range_with_len a n) ≡ 0
none_there v g a zero lt = refl
none_there v g a (suc n) lt =
    let other : nat_eq v a ≡ false = grind (arith, nat_tests) in
    sum_by-cons (λ i. cond (nat_eq v i) g 0) a (range_with_len (a + 1) n)
    ∙ ap₂ (λ (x y : ℕ). x + y) (ap (λ b. cond b g 0) other) (none_there v g (a + 1) n (omega arith))

here_or_later : (v g a n : ℕ) → a ≤ v → (b : Bool) → nat_eq v a ≡ b → (a + 1 ≤ v → sum_by (λ i. cond (nat_eq v i) g 0) (range_with_len (a + 1) n) ≡ g)
    → cond (nat_eq v a) g 0 + sum_by (λ i. cond (nat_eq v i) g 0) (range_with_len (a + 1) n) ≡ g
here_or_later v g a n le true e later =
    let same : v ≡ a = grind (arith, nat_tests) in
    ap₂ (λ (x y : ℕ). x + y) (ap (λ b. cond b g 0) e) (none_there v g (a + 1) n (omega arith)) ∙ omega arith
here_or_later v g a n le false e later =
    let other : v ≢ a = grind (arith, nat_tests) in
    ap₂ (λ (x y : ℕ). x + y) (ap (λ b. cond b g 0) e) (later (grind arith)) ∙ zero-add g

pub sum_once : (v g a n : ℕ) → a ≤ v → v < a + n → sum_by (λ i. cond (nat_eq v i) g 0) (range_with_len a n) ≡ g
sum_once v g a zero le lt = absurd (omega arith)
sum_once v g a (suc n) le lt = sum_by-cons (λ i. cond (nat_eq v i) g 0) a (range_with_len (a + 1) n) ∙ here_or_later v g a n le (nat_eq v a) refl
    (λ more. sum_once v g (a + 1) n more (omega arith))

-- sums over two lists change their order
pub sum_swap : {A B : Type 0} (F : A → B → ℕ) (xs : List A) (ys : List B) → sum_by (λ a. sum_by (F a) ys) xs ≡ sum_by (λ b. sum_by (λ a. F a b) xs) ys
sum_swap F [] ys = sym (sum_none ys)
sum_swap {A} {B} F (x ∷ xs) ys =
    sum_by-cons (λ a. sum_by (F a) ys) x xs
    ∙ ap (λ n. sum_by (F x) ys + n) (sum_swap F xs ys)
    ∙ sym (sum_add (F x) (λ b. sum_by (λ a. F a b) xs) ys)
    ∙ sum_same (λ b. F x b + sum_by (λ a. F a b) xs) (λ b. sum_by (λ a. F a b) (x ∷ xs)) (λ b. sym (sum_by-cons (λ a. F a b) x xs)) ys

-- ---- occurrences

pub occurs_flat : {A : Type 0} (f : A → List (List ℕ)) (xs : List A) (x : List ℕ) → occurrences (flat_map f xs) x ≡ sum_by (λ a. occurrences (f a) x) xs
occurs_flat f xs x = sum_flat_map (λ (w : List ℕ). cond (same_word w x) 1 0) f xs
