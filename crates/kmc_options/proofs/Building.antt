-- What a loop builds that adds one part after another.
use Rattle.std.proofs.Common.{◌≡◌, ◌∙◌, ◌+◌, ◌<◌, ℕ, zero, suc, List, [], ◌∷◌, map, take, length, ap, refl, arith}
use Rattle.std.specs.List.{fold, slice_index_or}

module _ {W X Y : Type 0} (f : W → Y → W) (g : X → Y) where
  one_more : (z : W) (xs : List X) (i : ℕ) (d : X) → i < length xs → fold f z (map g (take (suc i) xs)) ≡ f (fold f z (map g (take i xs)))
      (g (slice_index_or xs i d))
  one_more z [] i d lt = absurd (omega arith)
  one_more z (x ∷ xs) zero d lt = refl
  one_more z (x ∷ xs) (suc i) d lt = one_more (f z (g x)) xs i d (omega arith)

  pub added : (z : W) (xs : List X) (i : ℕ) (d : X) → i < length xs → fold f z (map g (take (i + 1) xs)) ≡ f (fold f z (map g (take i xs)))
      (g (slice_index_or xs i d))
  added z xs i d lt =
      let one : i + 1 ≡ suc i = omega arith in
      ap (λ k. fold f z (map g (take k xs))) one ∙ one_more z xs i d lt
