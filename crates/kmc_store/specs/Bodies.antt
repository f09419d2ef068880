-- Bins to which the bodies of parts are added.
use Rattle.std.specs.Prelude.{◌≡◌, ℕ, ◌<◌, ◌++◌, nat_eq, List, length}
use Rattle.std.specs.List.{filter, flat_map}
use Rattle.kmc_record.specs.Shapes.{Sizes}
use Rattle.kmc_record.specs.Parts.{Parcel}
use Rattle.kmc_store.specs.Bins.{body_at}

-- the parts of a bin, in their order
abbrev pub parts_in : ℕ → List Parcel → List Parcel
parts_in i parts = filter (λ p. nat_eq p.bin i) parts

-- each bin is what it was, and behind it the bodies of its parts, in the order of the parts
pub record AreAdded (shape : Sizes) (before bodies : List (List ℕ)) (parts : List Parcel) : Type 0 where
  pub wide : length bodies ≡ shape.n
  pub each : (i : ℕ) → i < shape.n → body_at bodies i ≡ body_at before i ++ flat_map (λ p. p.body) (parts_in i parts)
