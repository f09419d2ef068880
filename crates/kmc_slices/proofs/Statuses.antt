-- What an exit status tells.
use Rattle.std.proofs.Common.{◌≡◌, List, Result, Ok, Err, inl, inr, refl, sym, subst, arith}
use Rattle.std.specs.Result.{IsErrAnd}
use Rattle.std.specs.Prelude.{IfErr}
use Rattle.kmc_options.specs.Status.{status_of}
use Rattle.kmc_options.specs.Words.{Word}
use Rattle.kmc_options.specs.declared.program.Program.TheVariants.{KmcCut, KmcList}
use Rattle.kmc_options.specs.declared.setting.Setting.{Setting}
use Rattle.kmc_options.specs.Requests.{AsksForCut, AsksForList, IsCutRequest, IsOutOfRange}
use Rattle.kmc_options.specs.declared.slices.cutting.CutRequest.{CutRequest}
use Rattle.kmc_options.specs.declared.slices.cutting.CutRequestError.{CutRequestError}
use Rattle.kmc_options.specs.declared.slices.cutting.CutRequestError.TheVariants as cut
use Rattle.kmc_options.specs.declared.slices.listing.ListRequestError.{ListRequestError}
use Rattle.kmc_options.specs.declared.slices.listing.ListRequestError.TheVariants as list
use Rattle.kmc_slices.specs.CutProgram as cutting
use Rattle.kmc_slices.specs.ListProgram as listing
use Rattle.kmc_slice_files.specs.declared.opening.CreateFault.{CreateFault}
use Rattle.kmc_slices.specs.declared.error.CutError.{CutError}
use Rattle.kmc_slices.specs.declared.programs.cut_fault.CutFault.{CutFault}
use Rattle.kmc_slices.specs.declared.programs.cut_fault.CutFault.TheVariants.{Request, NotMade, Cut}
use Rattle.kmc_slices.specs.declared.programs.list_fault.ListFault.TheVariants as list_fault

pub asks_for_nothing : (words : List Word) (e : ListRequestError) → (e ≡ list.Usage → AsksForList words → ⊥)
    → ((s : Setting) → e ≡ list.OutOfRange s → IsOutOfRange KmcList words s) → status_of (listing.is_misuse (list_fault.Request e)) ≡ 2 → listing.AsksForNothing words
asks_for_nothing words list.Usage usage range is = inl (usage refl)
asks_for_nothing words (list.OutOfRange s) usage range is = inr (s, range s refl)
asks_for_nothing words list.Memory usage range is = absurd (omega (arith, is))

pub asks_for_no_cut : (words : List Word) (e : CutRequestError) → (e ≡ cut.Usage → AsksForCut words → ⊥)
    → ((s : Setting) → e ≡ cut.OutOfRange s → IsOutOfRange KmcCut words s) → (e ≡ cut.Slices → (r : CutRequest) → IsCutRequest words r → ⊥)
    → status_of (cutting.is_misuse (Request e)) ≡ 2 → cutting.AsksForNoCut words
asks_for_no_cut words cut.Usage usage range slices is = inl (usage refl)
asks_for_no_cut words (cut.OutOfRange s) usage range slices is = inr (inl (s, range s refl))
asks_for_no_cut words cut.Slices usage range slices is = inr (inr (slices refl))
asks_for_no_cut words cut.Memory usage range slices is = absurd (omega (arith, is))

-- files that were not made end with status 1
pub not_made_status : (fault : CutFault) (e : CreateFault) → fault ≡ NotMade e → status_of (cutting.is_misuse fault) ≡ 1
not_made_status fault e is = subst (λ f. status_of (cutting.is_misuse f) ≡ 1) (sym is) refl

-- and so does a cut that failed
pub cut_status : (fault : CutFault) (e : CutError) → fault ≡ Cut e → status_of (cutting.is_misuse fault) ≡ 1
cut_status fault e is = subst (λ f. status_of (cutting.is_misuse f) ≡ 1) (sym is) refl

-- what holds of an error holds of the result that a `?` makes of it
pub on_error : {A E : Type 0} (to : Result A E) (P : E → Type 0) (e : E) → IsErrAnd to (λ x. x ≡ e) → P e → IfErr to P
on_error (Ok x) P e is h = tt
on_error (Err x) P e is h = subst P (sym is) h
