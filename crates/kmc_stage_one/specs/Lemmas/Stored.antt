-- Reads that were taken from a feeder and stored in bins, and why there are no such bins.
use Rattle.std.proofs.Common.{◌≡◌, ◌≢◌, inr, ℕ, ◌+◌, ◌-◌, Bool, List, [], Option, Result, Ok, Err, sym, subst, arith}
use Rattle.std.specs.Prelude.{IsErrAnd}
use Rattle.std.specs.Io.KnownBytes.{IsAtEnd}
use Rattle.kmc_reads.specs.declared.error.ReadsError.{ReadsError}
use Rattle.kmc_reads.specs.declared.error.ReadsError.TheVariants as reads
use Rattle.kmc_reads.specs.declared.format.Format.{Format}
use Rattle.kmc_reads.specs.Reads.{reads_of}
use Rattle.kmc_reads.specs.Standing.{FeederState}
use Rattle.kmc_record.specs.Shapes.{Sizes}
use Rattle.kmc_store.specs.Bins.{BinList}
use Rattle.kmc_reads.specs.Errors.{input_error}
use Rattle.kmc_reads.specs.declared.input_error.InputError.{InputError}
use Rattle.kmc_reads.specs.declared.input_error.InputError.TheVariants.{Memory, Read, Faulty, TooLong}
use Rattle.kmc_stage_one.specs.Fed.{IsFed, IsFedBy, AreCountsOf}
use Rattle.kmc_stage_one.specs.Lemmas.Fed.{unfaulted}
use Rattle.kmc_stage_one.specs.Rounds.{HoldsPieces, IsInputError}

-- what the rounds before one did: the bins hold the pieces of the reads that were taken
pub record AreStored (format : Format) (shape : Sizes) (limit : ℕ) (old new : Option (List ℕ)) (before after : ℕ) (bins : BinList)
    (v : FeederState) : Type 0 where
  pub taken : List (List ℕ)
  pub fed : IsFed (shape.k - 1) format old new before after [] taken v
  pub holds : HoldsPieces shape limit taken bins.bodies

-- the same by an answer: the bins hold them, or why there are no such bins
abbrev pub AreStoredBy : Format → Sizes → ℕ → Option (List ℕ) → Option (List ℕ) → ℕ → ℕ → BinList → FeederState → Result Bool InputError → Type 0
AreStoredBy format shape limit old new before after bins v (Ok more) = AreStored format shape limit old new before after bins v
AreStoredBy format shape limit old new before after bins v (Err e) = (taken : List (List ℕ))
    × IsFedBy (shape.k - 1) format old new before after [] taken v (Err e)

pub stored_err : (format : Format) (shape : Sizes) (limit : ℕ) (old new : Option (List ℕ)) (before after : ℕ) (bins : BinList) (v : FeederState)
    (r : Result Bool InputError) (e : InputError) → IsErrAnd r (λ x. x ≡ e) → (taken : List (List ℕ))
    → IsFedBy (shape.k - 1) format old new before after [] taken v (Err e) → AreStoredBy format shape limit old new before after bins v r
stored_err format shape limit old new before after bins v (Ok more) e is taken h = absurd is
stored_err format shape limit old new before after bins v (Err x) e is taken h =
    (taken, subst (λ y. IsFedBy (shape.k - 1) format old new before after [] taken v (Err y)) (sym is) h)

module _ (overlap : ℕ) (format : Format) (most : ℕ) (old new : Option (List ℕ)) where
  -- a refusal of the reader or the feeder
  pub fed_cause : (before after failed fails : ℕ) (taken : List (List ℕ)) (v : FeederState) (e : InputError)
      → IsFedBy overlap format old new before after [] taken v (Err e)
      → AreCountsOf (before + most) before after failed fails e → IsInputError format most old new e
  fed_cause before after failed fails taken v Memory f c = tt
  fed_cause before after failed fails taken v Read f c = tt
  fed_cause before after failed fails taken v (Faulty e) f c = f
  fed_cause before after failed fails taken v TooLong f c = (
    f.bytes,
    f.given,
    omega (arith, f.many, c.2),
    unfaulted overlap format f.bytes taken v f.stands,
  )

  -- a refusal of the last round
  pub last_input : (before after : ℕ) (taken : List (List ℕ)) (v : FeederState) (e : ReadsError)
      (f : IsFed overlap format old new before after [] taken v) → IsAtEnd new
      → (e ≢ reads.Memory → reads_of format f.bytes ≡ Err e) → IsInputError format most old new (input_error e)
  last_input before after taken v reads.Memory f end h = tt
  last_input before after taken v (reads.BadHeader n) f end h = record { bytes = f.bytes; given = f.given; refused = h (λ is. absurd (cc)); for_good = inr end }
  last_input before after taken v (reads.BadPlus n) f end h = record { bytes = f.bytes; given = f.given; refused = h (λ is. absurd (cc)); for_good = inr end }
  last_input before after taken v (reads.QualityLength n) f end h =
      record { bytes = f.bytes; given = f.given; refused = h (λ is. absurd (cc)); for_good = inr end }
  last_input before after taken v (reads.Truncated n) f end h = record { bytes = f.bytes; given = f.given; refused = h (λ is. absurd (cc)); for_good = inr end }
