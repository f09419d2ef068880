-- The first seat, how it is split into seats, and how seats become one again.
use Rattle.std.specs.Prelude.{ℕ, zero, suc, false, List, [], ◌∷◌, ◌++◌}
use Rattle.kmc_partcore.specs.declared.shape.QueueShape.{QueueShape}
use Rattle.kmc_partqueue.specs.declared.views.Writing.{Writing}
use Rattle.kmc_partqueue.specs.declared.views.Reading.{Reading}
use Rattle.kmc_partqueue.specs.declared.views.View.{View}

-- f of the n numbers from i on
abbrev pub row_from : {A : Type 0} → (ℕ → A) → ℕ → ℕ → List A
row_from f i zero = []
row_from f i (suc n) = f i ∷ row_from f (suc i) n

abbrev pub first_of : {A : Type 0} → List A → List A
first_of [] = []
first_of (x ∷ xs) = x ∷ []

abbrev pub rest_of : {A : Type 0} → List A → List A
rest_of [] = []
rest_of (x ∷ xs) = xs

module _ {T : Type 0} where
  -- the view of a seat that has one writer, and of one that has one reader
  abbrev pub one_of_writers : Writing T → View T
  one_of_writers a = record { writers = a ∷ []; readers = [] }

  abbrev pub one_of_readers : Reading T → View T
  one_of_readers b = record { writers = []; readers = b ∷ [] }

  -- a writer that has put nothing, and a reader that has neither parts nor notes
  abbrev pub fresh_writer : QueueShape → ℕ → Writing T
  fresh_writer k i = record { number = i; per_writer = k.per_writer; sent = []; held = false; done = false }

  abbrev pub fresh_reader : QueueShape → ℕ → Reading T
  fresh_reader k i =
      record { number = i; writers = k.writers; per_writer = k.per_writer; got = []; held = false; lane = 0; head = 0; ready = false; ends = [] }

  -- the view of the first seat
  abbrev pub all_seats : QueueShape → View T
  all_seats k = record { writers = row_from (fresh_writer k) 0 k.writers; readers = row_from (fresh_reader k) 0 k.readers }

  -- the first writer, or the first reader, goes to a new seat
  abbrev pub no_writer : View T → View T
  no_writer v = record { writers = rest_of v.writers; readers = v.readers }

  abbrev pub its_writer : View T → View T
  its_writer v = record { writers = first_of v.writers; readers = [] }

  abbrev pub no_reader : View T → View T
  no_reader v = record { writers = v.writers; readers = rest_of v.readers }

  abbrev pub its_reader : View T → View T
  its_reader v = record { writers = []; readers = first_of v.readers }

  -- one seat takes in another, which is spent
  abbrev pub both : View T → View T → View T
  both v w = record { writers = w.writers ++ v.writers; readers = w.readers ++ v.readers }

  abbrev pub spent : View T
  spent = record { writers = []; readers = [] }
