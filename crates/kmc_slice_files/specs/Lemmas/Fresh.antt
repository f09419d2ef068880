-- Devices that were just opened.
use Rattle.std.proofs.Common.{◌≡◌, ℕ, zero, suc, ◌+◌, List, [], ◌∷◌, ◌++◌, length, map, get_or, refl, ap, ◌∙◌, arith, length-append}
use Rattle.std.proofs.lemmas.List.{map-append}
use Rattle.kmc_device.specs.Device.{Watched}

-- one more 0
zero_more : (l : List ℕ) → ((i : ℕ) → get_or l i 0 ≡ 0) → (i : ℕ) → get_or (l ++ 0 ∷ []) i 0 ≡ 0
zero_more [] h zero = refl
zero_more [] h (suc i) = refl
zero_more (x ∷ l) h zero = h 0
zero_more (x ∷ l) h (suc i) = zero_more l (λ j. h (suc j)) i

-- one more device
module _ {T : Type 0} (old new : List (Watched T)) (one : Watched T) (items : new ≡ old ++ one ∷ []) where
  pub one_more : length new ≡ length old + 1
  one_more = omega (arith, ap length items, length-append old (one ∷ []))

  pub fresh_more : one.failures ≡ 0 → ((i : ℕ) → get_or (map (λ (w : Watched T). w.failures) old) i 0 ≡ 0) → (i : ℕ)
      → get_or (map (λ (w : Watched T). w.failures) new) i 0 ≡ 0
  fresh_more none before i =
      let f = λ (w : Watched T). w.failures in
      ap (λ (l : List ℕ). get_or l i 0) (ap (map f) items ∙ map-append f old (one ∷ []) ∙ ap (λ (n : ℕ). map f old ++ n ∷ []) none)
      ∙ zero_more (map f old) before i
