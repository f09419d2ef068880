-- A tree of heads.
use Rattle.std.proofs.Common.{◌≡◌, ℕ, zero, suc, ◌+◌, ◌*◌, ◌/◌, ◌<◌, ◌≤◌, ◌⊎◌, inl, inr, List, length, refl, sym, ap, subst, ◌∙◌, arith, le_refl}
use Rattle.std.proofs.lemmas.Bool.{cases_lt}
use Rattle.kmc_sum.specs.declared.heads.Head.{Head}
use Rattle.kmc_sum.specs.Heads.{rank, head_at, IsWinner, IsTree}

-- a place is settled as it was, where it and those below it stayed
pub same_winner : (old new : List Head) (j : ℕ) → head_at new j ≡ head_at old j → head_at new (2 * j) ≡ head_at old (2 * j) → head_at new (2 * j + 1)
    ≡ head_at old (2 * j + 1)
    → IsWinner old j → IsWinner new j
same_winner old new j a b c h = record {
  one = elim h.one [ inl e ↦ inl (a ∙ e ∙ sym b) | inr e ↦ inr (a ∙ e ∙ sym c) ];
  left = omega (arith, h.left, ap rank a, ap rank b);
  right = omega (arith, h.right, ap rank a, ap rank c);
}

module _ (heads : List Head) (w : ℕ) (two : length heads ≡ 2 * w) (tree : IsTree heads) where
  -- none is before the first
  least_of : (n j : ℕ) → j ≤ n → 1 ≤ j → j < length heads → rank (head_at heads 1) ≤ rank (head_at heads j)
  least_of zero j few some inside = absurd (omega arith)
  least_of (suc n) j few some inside = go (cases_lt j 2) (least_of n)
    where
      half : ℕ
      half = j / 2

      go : (j < 2) ⊎ (2 ≤ j) → ((i : ℕ) → i ≤ n → 1 ≤ i → i < length heads → rank (head_at heads 1) ≤ rank (head_at heads i)) → rank
          (head_at heads 1) ≤ rank (head_at heads j)
      go (inl one) above = let e : j ≡ 1 = omega arith in subst (λ i. rank (head_at heads 1) ≤ rank (head_at heads i)) (sym e) (le_refl _)
      go (inr more) above = down (cases_lt (2 * half) j) (above half (omega arith) (omega arith) (omega arith))
        where
          down : (2 * half < j) ⊎ (j ≤ 2 * half) → rank (head_at heads 1) ≤ rank (head_at heads half) → rank (head_at heads 1) ≤ rank (head_at heads j)
          down (inl odd) up =
              let e : j ≡ 2 * half + 1 = omega arith in
              let w = tree half (omega arith) (omega arith) in
              omega (arith, up, w.right, ap (λ i. rank (head_at heads i)) e)
          down (inr even) up =
              let e : j ≡ 2 * half = omega arith in
              let w = tree half (omega arith) (omega arith) in
              omega (arith, up, w.left, ap (λ i. rank (head_at heads i)) e)

  pub least : (j : ℕ) → 1 ≤ j → j < length heads → rank (head_at heads 1) ≤ rank (head_at heads j)
  least j = least_of j j (le_refl j)

  -- each place repeats one that has none below it
  leaf_of : (n j : ℕ) → length heads ≤ j + n → 1 ≤ j → j < length heads → (n ≡ 0 → ⊥) → (i : ℕ) × (length heads ≤ 2 * i + 1) × (i < length heads)
      × (head_at heads j ≡ head_at heads i)
  leaf_of zero j few some inside go = absurd (go refl)
  leaf_of (suc n) j few some inside _ = go (cases_lt (2 * j + 1) (length heads)) (leaf_of n)
    where
      go : (2 * j + 1 < length heads) ⊎ (length heads ≤ 2 * j + 1)
          → ((i : ℕ) → length heads ≤ i + n → 1 ≤ i → i < length heads → (n ≡ 0 → ⊥) → (m : ℕ) × (length heads ≤ 2 * m + 1) × (m < length heads)
          × (head_at heads i ≡ head_at heads m))
          → (i : ℕ) × (length heads ≤ 2 * i + 1) × (i < length heads) × (head_at heads j ≡ head_at heads i)
      go (inr leaf) below = (j, leaf, inside, refl)
      go (inl inner) below = elim (tree j some inner).one [
        | inl e ↦ let m = below (2 * j) (omega arith) (omega arith) (omega arith) (λ z. absurd (omega arith)) in (m.0, m.1, m.2, e ∙ m.3)
        | inr e ↦ let m = below (2 * j + 1) (omega arith) (omega arith) (omega arith) (λ z. absurd (omega arith)) in (m.0, m.1, m.2, e ∙ m.3)
      ]

  pub leaf : 1 < length heads → (i : ℕ) × (length heads ≤ 2 * i + 1) × (i < length heads) × (head_at heads 1 ≡ head_at heads i)
  leaf some = leaf_of (length heads) 1 (omega arith) (omega arith) some (λ z. absurd (omega arith))
