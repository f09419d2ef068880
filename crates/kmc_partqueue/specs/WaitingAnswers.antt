-- What a take that waits gives, of the seat before and after.
use Rattle.std.specs.Prelude.{◌≡◌, [], ◌∷◌, ◌++◌}
use Rattle.kmc_partcore.specs.declared.event.Taken.{Taken}
use Rattle.kmc_partcore.specs.declared.event.Taken.TheVariants as taken
use Rattle.kmc_partqueue.specs.Seats.{ReaderState, AllEnded, AreKeptTotals}

module _ {T : Type 0} where
  -- Finished exactly where the seat then has the total of each lane; never Empty
  abbrev pub TakeAnswers : ReaderState T → ReaderState T → Taken T → Type 0
  TakeAnswers old new (taken.Got x) = (new.got ≡ old.got ++ x ∷ []) × ¬ AllEnded new.writers new.totals
  TakeAnswers old new taken.Empty = ⊥
  TakeAnswers old new (taken.Finished counts) =
      (new.got ≡ old.got) × AllEnded new.writers new.totals × AreKeptTotals new.writers new.totals counts

  abbrev pub IsLast : Taken T → Type 0
  IsLast (taken.Got x) = ⊥
  IsLast taken.Empty = ⊥
  IsLast (taken.Finished counts) = Unit {0}
