-- Codes in range, said of each place and said by recursion.
use Rattle.std.proofs.Common.{ℕ, ◌<◌, All, List, [], ◌∷◌}
use Rattle.std.proofs.lemmas.List.Elements.{All-head, All-tail}
use Rattle.kmc_base.specs.Lemmas.Packs.{AreCodes}

pub codes_each : (w : List ℕ) → All (λ c. c < 4) w → AreCodes w
codes_each [] h = tt
codes_each (c ∷ w) h = (All-head (λ (x : ℕ). x < 4) c w h, codes_each w (All-tail (λ (x : ℕ). x < 4) c w h))
