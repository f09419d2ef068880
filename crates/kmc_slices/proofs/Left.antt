-- What is told of bodies by those that a failed count left.
use Rattle.std.proofs.Common.{◌≡◌, ℕ, ◌+◌, ◌++◌, ◌<◌, inl, inr, Some, List, [], length, take, drop, sym, subst, ◌∙◌, arith, zero-add, Vec, Global}
use Rattle.std.proofs.lemmas.List.{take_at}
use Rattle.kmc_record.specs.Bodies.{AreRecordsOfBin, IsFirstError}
use Rattle.kmc_record.specs.Shapes.{Sizes}
use Rattle.kmc_record.specs.declared.part_error.PartError.{PartError}
use Rattle.kmc_record.specs.declared.part_error.PartError.TheVariants.{Damaged, WrongBin, Memory}
use Rattle.kmc_store.specs.Bins.{AreBins, body_at}
use Rattle.kmc_stage_two.specs.Bodies.{AreLeft}
use Rattle.kmc_stage_two.specs.Lemmas.Outside.{bins_of_asked}
use Rattle.kmc_slices.specs.Outside.{IsBinFault}
use Rattle.kmc_slices.specs.declared.bin_fault.BinFault.{BinFault}

-- what is written back into a vector of as many bodies is all that it has
pub written_back : (n : ℕ) (new old : List (Vec ℕ Global)) → length new ≡ length old → length old ≡ n → take n (new ++ drop (length new) old) ≡ new
written_back n new old same long = take_at new (drop (length new) old) n (same ∙ long)

-- no record is at fault where there is none
no_error : (bin : ℕ) (shape : Sizes) (why : PartError) → IsFirstError bin shape why [] → ⊥
no_error bin shape (Damaged fault offset) h = omega (arith, h.0)
no_error bin shape (WrongBin offset) h = omega (arith, h.0)
no_error bin shape Memory h = h

module _ (shape : Sizes) (old new : List (List ℕ)) (wide : length old ≡ shape.n)
    (left : AreLeft (Some (record { shape = shape; bin = 0 })) old new) where
  -- a body that is there still is as it was, and the others were of their bins
  records_before : (i : ℕ) → i < shape.n → AreRecordsOfBin i shape (body_at new i) → AreRecordsOfBin i shape (body_at old i)
  records_before i inside h = elim (left.each i (omega (arith, inside, wide))) [
    | inl same ↦ subst (AreRecordsOfBin i shape) same h
    | inr freed ↦ subst (λ j. AreRecordsOfBin j shape (body_at old i)) (zero-add i) freed.1.1
  ]

  pub fault_before : (e : BinFault) → IsBinFault shape new e → IsBinFault shape old e
  fault_before e h = record {
    inside = h.inside;
    before = λ i less. records_before i (omega (arith, less, h.inside)) (h.before i less);
    here = elim (left.each e.bin (omega (arith, h.inside, wide))) [
      | inl same ↦ subst (IsFirstError e.bin shape e.why) same h.here
      | inr freed ↦ absurd (no_error e.bin shape e.why (subst (IsFirstError e.bin shape e.why) freed.0 h.here))
    ];
  }

  pub bins_before : ((i : ℕ) → i < shape.n → AreRecordsOfBin i shape (body_at new i)) → (words : List ℕ) × AreBins shape old words
  bins_before all = bins_of_asked shape old wide (λ i inside.
      let less : i < shape.n = omega (arith, inside, wide) in
      let here : i ≡ 0 + i = sym (zero-add i) in
      (omega (arith, less), subst (λ j. AreRecordsOfBin j shape (body_at old i)) here (records_before i less (all i less))))
