-- Two lists whose elements agree place by place.
use Rattle.std.proofs.Common.{ℕ, zero, suc, ◌<◌, List, [], ◌∷◌, ◌++◌, length, get_or, arith}
use Rattle.std.specs.List.{AllZip}

module _ {A B : Type 0} (R : A → B → Type 0) where
  pub zip_at : (xs : List A) (ys : List B) (i : ℕ) (d : A) (e : B) → AllZip R xs ys → i < length xs → R (get_or xs i d) (get_or ys i e)
  zip_at [] ys i d e h inside = absurd (omega (arith, inside))
  zip_at (x ∷ xs) [] i d e h inside = absurd h
  zip_at (x ∷ xs) (y ∷ ys) zero d e h inside = h.0
  zip_at (x ∷ xs) (y ∷ ys) (suc i) d e h inside = zip_at xs ys i d e h.1 (omega (arith, inside))

  pub zip_append : (xs us : List A) (ys vs : List B) → AllZip R xs ys → AllZip R us vs → AllZip R (xs ++ us) (ys ++ vs)
  zip_append [] us [] vs h g = g
  zip_append [] us (y ∷ ys) vs h g = absurd h
  zip_append (x ∷ xs) us [] vs h g = absurd h
  zip_append (x ∷ xs) us (y ∷ ys) vs h g = (h.0, zip_append xs us ys vs h.1 g)
