-- What the cutting of seats owes and learns.
use Rattle.std.proofs.Common.{◌≡◌, ℕ, zero, suc, ◌+◌, ◌<◌, ◌≤◌, false, List, [], ◌∷◌, ◌++◌, refl, ap, ◌∙◌, arith}
use Rattle.std.specs.Prelude.{Option, Some, None, replicate, slice_get}
use Rattle.kmc_partqueue.specs.declared.views.Reading.{Reading}
use Rattle.kmc_partcore.specs.declared.shape.QueueShape.{QueueShape}
use Rattle.kmc_partqueue.specs.Dealing.{row_from, fresh_writer, fresh_reader, one_of_readers, no_writer, its_writer, no_reader, its_reader}
use Rattle.kmc_partqueue.specs.Plays.{Seated}
use Rattle.kmc_partqueue.specs.Seats.{Between}
use Rattle.kmc_partqueue.proofs.WriterCalls.{resting}

pub row_more : {A : Type 0} (f : ℕ → A) (j n : ℕ) → row_from f j (suc n) ≡ row_from f j n ++ f (j + n) ∷ []
row_more f j zero = λ i. f ((let e : j ≡ j + 0 = omega arith in e) i) ∷ []
row_more f j (suc n) =
    λ i. f j ∷ (row_more f (suc j) n ∙ (λ i'. row_from f (suc j) n ++ f ((let e : suc j + n ≡ j + suc n = omega arith in e) i') ∷ [])) i

pub row_next : {A : Type 0} (f : ℕ → A) (n : ℕ) → row_from f 0 (n + 1) ≡ row_from f 0 n ++ f n ∷ []
row_next f n =
    ap (row_from f 0) (let e : n + 1 ≡ suc n = omega arith in e) ∙ row_more f 0 n ∙ (λ i. row_from f 0 n ++ f ((let e : 0 + n ≡ n = omega arith in e) i) ∷ [])

-- one more is left
pub pops : (i left all : ℕ) → i + left ≡ all → i < all → (n : ℕ) × (left ≡ suc n) × (i + 1 + n ≡ all)
pops i zero all e l = absurd (omega arith)
pops i (suc n) all e l = (n, refl, omega arith)

-- all are left
pub all_left : (all : ℕ) → 0 + all ≡ all
all_left all = omega arith

-- none is left
pub all_dealt : (i left all : ℕ) → i + left ≡ all → all ≤ i → (left ≡ 0) × (i ≡ all)
all_dealt i left all e l = (omega arith, omega arith)

pub none_left_writers : {T : Type 0} (k : QueueShape) (i left : ℕ) → left ≡ 0 → (me : Seated T) (rs : List (Reading T))
    → me ≡ (record { writers = row_from (fresh_writer k) i left; readers = rs }, []) → me ≡ (record { writers = []; readers = rs }, [])
none_left_writers k i left none me rs e = e ∙ (λ j. (record { writers = row_from (fresh_writer k) i (none j); readers = rs }, []))

module _ {T : Type 0} (k : QueueShape) (i left n : ℕ) (is : left ≡ suc n) (me : Seated T) where
  pub left_writers : (me' : Seated T) (rs : List (Reading T))
      → me ≡ (record { writers = row_from (fresh_writer k) i left; readers = rs }, []) → me' ≡ (no_writer me.0, me.1)
      → me' ≡ (record { writers = row_from (fresh_writer k) (i + 1) n; readers = rs }, [])
  left_writers me' rs e e' =
      e' ∙ (λ j. (no_writer (e j).0, (e j).1)) ∙ (λ j. (no_writer (record { writers = row_from (fresh_writer k) i (is j); readers = rs }), []))
      ∙ (λ j. (record { writers = row_from (fresh_writer k) ((let x : suc i ≡ i + 1 = omega arith in x) j) n; readers = rs }, []))

  pub own_writer : (own : Seated T) (rs : List (Reading T))
      → me ≡ (record { writers = row_from (fresh_writer k) i left; readers = rs }, []) → own ≡ (its_writer me.0, [])
      → own ≡ resting i k.per_writer [] false
  own_writer own rs e e' =
      e' ∙ (λ j. (its_writer (e j).0, [])) ∙ (λ j. (its_writer (record { writers = row_from (fresh_writer k) i (is j); readers = rs }), []))

  pub left_readers : (me' : Seated T) → me ≡ (record { writers = []; readers = row_from (fresh_reader k) i left }, [])
      → me' ≡ (no_reader me.0, me.1)
      → me' ≡ (record { writers = []; readers = row_from (fresh_reader k) (i + 1) n }, [])
  left_readers me' e e' =
      e' ∙ (λ j. (no_reader (e j).0, (e j).1)) ∙ (λ j. (no_reader (record { writers = []; readers = row_from (fresh_reader k) i (is j) }), []))
      ∙ (λ j. (record { writers = []; readers = row_from (fresh_reader k) ((let x : suc i ≡ i + 1 = omega arith in x) j) n }, []))

  pub own_reader : (own : Seated T) → me ≡ (record { writers = []; readers = row_from (fresh_reader k) i left }, [])
      → own ≡ (its_reader me.0, []) → own ≡ (one_of_readers (fresh_reader k i), [])
  own_reader own e e' =
      e' ∙ (λ j. (its_reader (e j).0, [])) ∙ (λ j. (its_reader (record { writers = []; readers = row_from (fresh_reader k) i (is j) }), []))

none_kept : {A : Type 0} (n w : ℕ) (t : ℕ) → slice_get (replicate {A = Option ℕ} n None) w ≡ Some (Some t) → A
none_kept zero w t e = cc
none_kept (suc n) zero t e = let x : Some None ≡ Some (Some t) = e in cc
none_kept (suc n) (suc w) t e = none_kept n w t e

pub fresh_between : {T : Type 0} (k : QueueShape) (i per_writer writers : ℕ) (own : Seated T)
    → own ≡ (one_of_readers (fresh_reader k i), []) → k.per_writer ≡ per_writer → k.writers ≡ writers → 0 < writers
    → writers ≤ 16 → Between own i per_writer 0 writers (replicate 16 None)
fresh_between k i per_writer writers own e r ws pos few =
    record {
      view = fresh_reader k i;
      is = e;
      number_is = refl;
      writers_is = ws;
      per_writer_is = r;
      empty = refl;
      noted = record { kept = λ w t e. none_kept 16 w t e; all = tt };
      long = refl;
      near = pos;
      few = few;
    }
