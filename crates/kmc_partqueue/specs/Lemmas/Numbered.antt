-- Lists whose members have the numbers of their places.
use Rattle.std.proofs.Common.{◌≡◌, ℕ, zero, suc, ◌+◌, ◌<◌, ◌≤◌, List, [], ◌∷◌, length, get_or, refl, sym, ap, ◌∙◌, arith}
use Rattle.std.specs.Prelude.{Result, Ok, Err, IfOk}
use mathlib.Core.Logic.{dite}
use native.Mathlib.Decide.{ℕ_discrete}
use Rattle.kmc_partqueue.specs.Counts.{Each, total_of, same}
use Rattle.kmc_partqueue.specs.Dealing.{row_from}
use Rattle.kmc_partqueue.specs.Lemmas.Sums.{same_refl, same_ne}

module _ {A : Type 0} where
  pub row_length : (f : ℕ → A) (i n : ℕ) → length (row_from f i n) ≡ n
  row_length f i zero = refl
  row_length f i (suc n) = ap suc (row_length f (suc i) n)

  pub row_at : (f : ℕ → A) (i n j : ℕ) (d : A) → j < n → get_or (row_from f i n) j d ≡ f (i + j)
  row_at f i zero j d l = absurd (omega arith)
  row_at f i (suc n) zero d l = ap f (omega arith)
  row_at f i (suc n) (suc j) d l = row_at f (suc i) n j d (omega arith) ∙ ap f (omega arith)

  -- what is true at each place is true of each member
  pub each_from : (P : A → Type 0) (l : List A) → ((j : ℕ) (d : A) → j < length l → P (get_or l j d)) → Each P l
  each_from P [] go = tt
  each_from P (x ∷ l) go = (go 0 x (omega arith), each_from P l (λ j d lt. go (suc j) d (omega arith)))

  module _ (num : A → ℕ) (w : ℕ) where
    abbrev Numbered : ℕ → List A → Type 0
    Numbered i l = (j : ℕ) (d : A) → j < length l → num (get_or l j d) ≡ i + j

    numbered_rest : (i : ℕ) (x : A) (l : List A) → Numbered i (x ∷ l) → Numbered (suc i) l
    numbered_rest i x l go j d lt = go (suc j) d (omega arith) ∙ (omega arith)

    first_number : (i : ℕ) (x : A) (l : List A) → Numbered i (x ∷ l) → num x ≡ i
    first_number i x l go = go 0 x (omega arith) ∙ (omega arith)

    none_before : (i : ℕ) (l : List A) → Numbered i l → w < i → total_of (λ (a : A). same (num a) w) l ≡ 0
    none_before i [] go lt = refl
    none_before i (x ∷ l) go lt =
        let r = none_before (suc i) l (numbered_rest i x l go) (omega arith) in let f = first_number i x l go in
        let z : same (num x) w ≡ 0 = same_ne (num x) w (λ e. omega arith) in omega arith

    -- each number stands once
    pub once_from : (i : ℕ) (l : List A) → Numbered i l → i ≤ w → w < i + length l → total_of (λ (a : A). same (num a) w) l ≡ 1
    once_from i [] go le lt = absurd (omega arith)
    once_from i (x ∷ l) go le lt = let f = first_number i x l go in dite (ℕ_discrete i w)
        (λ e. let r = none_before (suc i) l (numbered_rest i x l go) (omega arith) in let z : same (num x) w ≡ 1 = same_refl (num x) w (f ∙ e) in omega arith)
        (λ ne. let r = once_from (suc i) l (numbered_rest i x l go) (omega arith) (omega arith) in let z : same (num x) w ≡ 0 = same_ne (num x) w
        (λ e. ne (sym f ∙ e)) in omega arith)

-- two facts of the value, where there is one, give a third
pub ok_from : {A E : Type 0} {P Q S : A → Type 0} (r : Result A E) → ((v : A) → P v → Q v → S v) → IfOk r P → IfOk r Q → IfOk r S
ok_from (Ok v) go p q = go v p q
ok_from (Err e) go p q = tt

module _ {A : Type 0} where
  pub each_row : (P : A → Type 0) (f : ℕ → A) (i n : ℕ) → ((j : ℕ) → j < i + n → P (f j)) → Each P (row_from f i n)
  each_row P f i zero go = tt
  each_row P f i (suc n) go = (go i (omega arith), each_row P f (suc i) n (λ j l. go j (omega arith)))
