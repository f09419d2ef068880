-- What a worker is handed that takes the next part.
use Rattle.std.specs.Prelude.{◌≡◌, Option, Some, None, [], ◌∷◌, ◌++◌}
use Rattle.kmc_partqueue.specs.Seats.{ReaderState, AllEnded}
use Rattle.kmc_partqueue.specs.SameSeats.{items_of}

-- a part, which stands behind those that the seat got before, or none: then it got nothing more, and each lane is at its end
abbrev pub IsNext : {T : Type 0} → ReaderState T → ReaderState T → Option T → Type 0
IsNext s r (Some part) = items_of r.got ≡ items_of s.got ++ part ∷ []
IsNext s r None = (r.got ≡ s.got) × AllEnded r.writers r.totals
