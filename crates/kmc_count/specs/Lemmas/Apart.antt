-- How often a word stands in lists that share none.
use Rattle.std.proofs.Common.{◌≡◌, ℕ, zero, suc, ◌+◌, ◌<◌, ◌≤◌, ◌⊎◌, inl, inr, Bool, true, false, cond, List, [], ◌∷◌, ◌++◌, length, get_or, refl, ap, ◌∙◌, arith}
use Rattle.std.specs.List.{Contains}
use Rattle.std.proofs.lemmas.List.Elements.{Contains-append_cases}
use Rattle.std.proofs.lemmas.List.Sums.{sum_by-cons, sum_by-append}
use Rattle.kmc_count.specs.Occurrences.{same_word, occurrences}
use Rattle.kmc_count.specs.Merge.{joined, AreApart}
use Rattle.kmc_count.specs.Lemmas.Listing.{same_is}
use Rattle.kmc_base.specs.Lemmas.Members.{Has, contains_has}

module _ (x : List ℕ) where
  pub occurrences_more : (w : List ℕ) (ws : List (List ℕ)) → occurrences (w ∷ ws) x ≡ cond (same_word w x) 1 0 + occurrences ws x
  occurrences_more w ws = sum_by-cons (λ (v : List ℕ). cond (same_word v x) 1 0) w ws

  pub occurrences_both : (ws vs : List (List ℕ)) → occurrences (ws ++ vs) x ≡ occurrences ws x + occurrences vs x
  occurrences_both ws vs = sum_by-append (λ (v : List ℕ). cond (same_word v x) 1 0) ws vs

  pub occurs_has : (ws : List (List ℕ)) → 1 ≤ occurrences ws x → Has x ws
  occurs_has [] some = absurd (omega (arith, some))
  occurs_has (w ∷ ws) some = go (same_word w x) refl (occurs_has ws)
    where
      go : (b : Bool) → same_word w x ≡ b → (1 ≤ occurrences ws x → Has x ws) → (w ≡ x) ⊎ Has x ws
      go true e more = inl (same_is w x e)
      go false e more =
          let none : occurrences (w ∷ ws) x ≡ 0 + occurrences ws x = occurrences_more w ws ∙ ap (λ b. cond b 1 0 + occurrences ws x) e in
          inr (more (omega (arith, some, none)))

  pub occurs_contains : (ws : List (List ℕ)) → 1 ≤ occurrences ws x → Contains ws x
  occurs_contains ws some = contains_has x ws (occurs_has ws some)

  in_one : (wss : List (List (List ℕ))) → Contains (joined wss) x → (j : ℕ) × (j < length wss) × Contains (get_or wss j []) x
  in_one [] h = absurd (omega (arith, h.1))
  in_one (ws ∷ wss) h = go (Contains-append_cases ws (joined wss) x h) (in_one wss)
    where
      go : Contains ws x ⊎ Contains (joined wss) x → (Contains (joined wss) x → (j : ℕ) × (j < length wss) × Contains (get_or wss j []) x)
          → (j : ℕ) × (j < length (ws ∷ wss)) × Contains (get_or (ws ∷ wss) j []) x
      go (inl m) more = (0, omega arith, m)
      go (inr m) more = let k = more m in (suc k.0, omega (arith, k.1), k.2)

pub tail_apart : (ws : List (List ℕ)) (wss : List (List (List ℕ))) → AreApart (ws ∷ wss) → AreApart wss
tail_apart ws wss apart = λ i j d low high. apart (suc i) (suc j) d (omega arith) (omega arith)

module _ (x : List ℕ) (ws : List (List ℕ)) (wss : List (List (List ℕ))) (apart : AreApart (ws ∷ wss)) where
  not_both : 1 ≤ occurrences ws x → 1 ≤ occurrences (joined wss) x → ⊥
  not_both here there =
      let k = in_one x wss (occurs_contains x (joined wss) there) in
      apart 0 (suc k.0) [] (omega arith) (omega (arith, k.1)) x (occurs_contains x ws here) k.2

  pub none_behind : 1 ≤ occurrences ws x → occurrences (joined wss) x ≡ 0
  none_behind here = go (occurrences (joined wss) x) refl
    where
      go : (n : ℕ) → occurrences (joined wss) x ≡ n → n ≡ 0
      go zero e = refl
      go (suc n) e = absurd (not_both here (omega (arith, e)))

  pub none_before : 1 ≤ occurrences (joined wss) x → occurrences ws x ≡ 0
  none_before there = go (occurrences ws x) refl
    where
      go : (n : ℕ) → occurrences ws x ≡ n → n ≡ 0
      go zero e = refl
      go (suc n) e = absurd (not_both (omega (arith, e)) there)
