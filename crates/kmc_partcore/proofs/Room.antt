-- The ring has room for every writer's items.
use Rattle.std.proofs.Common.{◌≡◌, ℕ, zero, suc, ◌+◌, ◌*◌, ◌<◌, ◌≤◌, eqb, ltb, cond, true, false, List, [], ◌∷◌, ◌++◌, length, refl, sym, ap, ◌∙◌, arith, ⊎_elim}
use Rattle.std.proofs.lemmas.Bool.Decides.{eqb_tells, nat_tests}
use Rattle.kmc_partcore.specs.declared.part_core.Queued.{Queued}
use Rattle.kmc_partcore.specs.CoreState.{items_of, AllKnown}

module _ {T : Type 0} where
  -- how many items are of writers below n
  below : ℕ → List (Queued T) → ℕ
  below n [] = 0
  below n (x ∷ xs) = cond (ltb x.writer n) 1 0 + below n xs

  below_none : (xs : List (Queued T)) → below 0 xs ≡ 0
  unfolding below
  below_none [] = refl
  below_none (x ∷ xs) = let h = below_none xs in grind (arith, nat_tests)

  below_more : (n : ℕ) (xs : List (Queued T)) → below (suc n) xs ≡ below n xs + length (items_of n xs)
  unfolding below
  below_more n [] = refl
  below_more n (x ∷ xs) = let h = below_more n xs in grind (arith, nat_tests)

  below_all : (n : ℕ) (xs : List (Queued T)) → AllKnown n xs → below n xs ≡ length xs
  unfolding below
  below_all n [] all = refl
  below_all n (x ∷ xs) all = let h = below_all n xs all.1 in let lt = all.0 in grind (arith, nat_tests)

  below_room : (c n : ℕ) (xs : List (Queued T)) → ((w : ℕ) → w < n → length (items_of w xs) ≤ c) → below n xs ≤ n * c
  below_room c zero xs room = let h = below_none xs in omega arith
  below_room c (suc n) xs room = let h = below_more n xs in let r = room n (omega arith) in let before = below_room c n xs
      (λ w lt. room w (omega arith)) in omega arith

  pub length_room : (c n : ℕ) (xs : List (Queued T)) → AllKnown n xs → ((w : ℕ) → w < n → length (items_of w xs) ≤ c) → length xs ≤ n * c
  length_room c n xs all room = let h = below_all n xs all in let g = below_room c n xs room in omega arith

  pub known_push : (n : ℕ) (xs : List (Queued T)) (x : Queued T) → AllKnown n xs → x.writer < n → AllKnown n (xs ++ x ∷ [])
  known_push n [] x all lt = (lt, tt)
  known_push n (y ∷ xs) x all lt = (all.0, known_push n xs x all.1 lt)

  pub items_push : (w : ℕ) (xs : List (Queued T)) (x : Queued T) → items_of w (xs ++ x ∷ []) ≡ items_of w xs ++ cond (eqb x.writer w) (x.item ∷ []) []
  items_push w [] x = ⊎_elim (λ (t : (eqb x.writer w ≡ true) × (x.writer ≡ w)). cc) (λ (f : (eqb x.writer w ≡ false) × (x.writer ≡ w → ⊥)). cc)
      (eqb_tells x.writer w)
  items_push w (y ∷ xs) x = let h = items_push w xs x in ⊎_elim
      (λ (t : (eqb y.writer w ≡ true) × (y.writer ≡ w)). ap (λ b. cond b (y.item ∷ items_of w (xs ++ x ∷ [])) (items_of w (xs ++ x ∷ []))) t.0 ∙ ap
      (λ z. y.item ∷ z) h ∙ ap (λ b. cond b (y.item ∷ items_of w xs) (items_of w xs) ++ cond (eqb x.writer w) (x.item ∷ []) []) (sym t.0))
      (λ (f : (eqb y.writer w ≡ false) × (y.writer ≡ w → ⊥)). ap (λ b. cond b (y.item ∷ items_of w (xs ++ x ∷ [])) (items_of w (xs ++ x ∷ []))) f.0
      ∙ h ∙ ap (λ b. cond b (y.item ∷ items_of w xs) (items_of w xs) ++ cond (eqb x.writer w) (x.item ∷ []) []) (sym f.0))
      (eqb_tells y.writer w)
