-- What a take gives, of the seat before and after.
use Rattle.std.specs.Prelude.{◌≡◌, [], ◌∷◌, ◌++◌}
use Rattle.kmc_partqueue.specs.declared.reader.TryTaken.{TryTaken}
use Rattle.kmc_partqueue.specs.declared.reader.TryTaken.TheVariants.{Got, NotNow, Finished}
use Rattle.kmc_partqueue.specs.Seats.{ReaderState, AllEnded, AreKeptTotals}

module _ {T : Type 0} where
  -- Finished exactly where the seat then has the total of each lane
  abbrev pub Answers : ReaderState T → ReaderState T → TryTaken T → Type 0
  Answers old new (Got x) = (new.got ≡ old.got ++ x ∷ []) × ¬ AllEnded new.writers new.totals
  Answers old new NotNow = (new.got ≡ old.got) × ¬ AllEnded new.writers new.totals
  Answers old new (Finished counts) = (new.got ≡ old.got) × AllEnded new.writers new.totals × AreKeptTotals new.writers new.totals counts

  abbrev pub IsFinished : TryTaken T → Type 0
  IsFinished (Got x) = ⊥
  IsFinished NotNow = ⊥
  IsFinished (Finished counts) = Unit {0}
