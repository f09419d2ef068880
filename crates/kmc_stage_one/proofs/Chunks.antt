-- The reads of a chunk among all reads.
use Rattle.std.proofs.Common.{◌≡◌, ℕ, ◌+◌, ◌-◌, ◌≤◌, List, length, [], take, drop, map, sym, ap, subst, ◌∙◌, take_all, arith}
use Rattle.std.specs.List.{slice_range, take-map, drop-map}
use Rattle.std.proofs.lemmas.List.{length-drop}

module _ {A : Type 0} (f : A → List ℕ) (l : List A) (at batch : ℕ) where
  abbrev rest : List A
  rest = take (length l - at) (drop at l)

  rest_is : rest ≡ drop at l
  rest_is = take_all (length l - at) (drop at l) (subst (λ (n : ℕ). n ≤ length l - at) (sym (length-drop at l))
      (let z : length l - at ≤ length l - at = omega arith in z))

  front_is : slice_range (map f l) at (at + batch) ≡ map f (take batch (drop at l))
  front_is = ap (λ (n : ℕ). take n (drop at (map f l))) (let z : at + batch - at ≡ batch = omega arith in z) ∙ ap (take batch) (drop-map f at l)
      ∙ take-map f batch (drop at l)

  -- the last chunk is what is left
  pub last_chunk : length l - at ≤ batch → map f rest ≡ slice_range (map f l) at (at + batch)
  last_chunk few = ap (map f) rest_is ∙ ap (map f) (sym (take_all batch (drop at l) (subst (λ (n : ℕ). n ≤ batch) (sym (length-drop at l)) few))) ∙ sym front_is

  -- any other has its full number
  pub full_chunk : map f (take batch rest) ≡ slice_range (map f l) at (at + batch)
  full_chunk = ap (λ (r : List A). map f (take batch r)) rest_is ∙ sym front_is

pub few_left : {A : Type 0} (l : List A) (at batch : ℕ) → length (take (length l - at) (drop at l)) ≤ batch → length l - at ≤ batch
few_left l at batch few = subst (λ (n : ℕ). n ≤ batch) (ap length (rest_is (λ _. []) l at batch) ∙ length-drop at l) few
