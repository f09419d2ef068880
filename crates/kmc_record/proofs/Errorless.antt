-- Records of a bin have no first error.
use Rattle.std.proofs.Common.{◌≡◌, ℕ, ◌+◌, ◌-◌, ◌<◌, List, [], ◌∷◌, ◌++◌, length, get_or, take, drop, refl, sym, ap, subst, ◌∙◌, arith, append_assoc, length-append}
use Rattle.std.proofs.lemmas.List.{get_or_append_left, get_or-append_right, take-append-drop}
use Rattle.std.specs.List.{flat_map, AllByRecursion}
use Rattle.kmc_base.specs.Record.{packed_codes, spelling, IsSpelled}
use Rattle.kmc_base.specs.Words.{windows}
use Rattle.kmc_base.specs.Lemmas.Unique.{one_spelling}
use Rattle.kmc_split.specs.Signature.{bin_of}
use Rattle.kmc_record.specs.Bodies.{AreRecordsOfBin, Belong, IsFirstError}
use Rattle.kmc_record.specs.Faults.{IsFirstFault}
use Rattle.kmc_record.specs.Parts.{all_windows}
use Rattle.kmc_record.specs.Shapes.{Sizes}
use Rattle.kmc_record.specs.Lemmas.WordsOfBin.{front_belongs, back_belongs}
use Rattle.kmc_record.specs.declared.part_error.PartError.{PartError}
use Rattle.kmc_record.specs.declared.part_error.PartError.TheVariants.{Damaged, WrongBin, Memory}
use Rattle.kmc_record.proofs.Faultless.{no_first_fault}

module _ (bin : ℕ) (shape : Sizes) where
  -- behind records that begin such a body stands one whose words belong
  no_other : (ss ts : List (List ℕ)) (codes rest : List ℕ) → AllByRecursion (IsSpelled shape.k) ss → AllByRecursion (IsSpelled shape.k) ts
      → IsSpelled shape.k codes → flat_map (spelling shape.k) ss ≡ flat_map (spelling shape.k) ts ++ (spelling shape.k codes ++ rest)
      → Belong bin shape (all_windows shape.k ss) → Belong bin shape (windows shape.k codes)
  no_other [] [] codes rest h g spelled e belong = absurd (omega (arith, ap length e))
  no_other [] (t ∷ ts) codes rest h g spelled e belong = absurd (omega (arith, ap length e))
  no_other (s ∷ ss) [] codes rest h g spelled e belong =
      let one = one_spelling shape.k s codes (flat_map (spelling shape.k) ss) rest h.0 spelled e in
      subst (λ (c : List ℕ). Belong bin shape (windows shape.k c)) one.0 (front_belongs bin shape (windows shape.k s) (all_windows shape.k ss) belong)
  no_other (s ∷ ss) (t ∷ ts) codes rest h g spelled e belong =
      let one = one_spelling shape.k s t (flat_map (spelling shape.k) ss) (flat_map (spelling shape.k) ts ++ (spelling shape.k codes ++ rest)) h.0 g.0
      (e ∙ append_assoc (spelling shape.k t) (flat_map (spelling shape.k) ts) (spelling shape.k codes ++ rest)) in
      no_other ss ts codes rest h.1 g.1 spelled one.1 (back_belongs bin shape (windows shape.k s) (all_windows shape.k ss) belong)

  pub no_first_error : (body : List ℕ) (why : PartError) → AreRecordsOfBin bin shape body → IsFirstError bin shape why body → ⊥
  no_first_error body (Damaged fault offset) of f =
      no_first_fault shape.k of.super_kmers body fault offset of.records
      (record { inside = f.0; before = f.1.super_kmers; whole = f.1.records; here = f.2 })
  no_first_error body (WrongBin offset) of f =
      f.2.other (no_other of.super_kmers f.1.super_kmers f.2.codes f.2.rest of.records.each f.1.records.each f.2.spelled
      (sym of.records.is ∙ sym (take-append-drop offset body) ∙ ap (λ (t : List ℕ). t ++ drop offset body) f.1.records.is
      ∙ ap (λ (t : List ℕ). flat_map (spelling shape.k) f.1.super_kmers ++ t) f.2.is) of.belong)
  no_first_error body Memory of f = f
