-- Why reads were not cut to files.
use Rattle.std.proofs.Common.{◌≡◌, ◌∙◌, ℕ, ◌^◌, List, length, map, Option, Err, subst}
use Rattle.std.proofs.lemmas.List.{length-map}
use Rattle.kmc_device.specs.Device.{Watched}
use Rattle.kmc_options.specs.Shape.{shape_of}
use Rattle.kmc_options.specs.declared.run_params.Params.{Params}
use Rattle.kmc_stage_one.specs.declared.settings.TheConstants.{PIECE_SYMBOLS}
use Rattle.kmc_slices.specs.Cut.{IsCutting, IsLeft, WroteSlices}
use Rattle.kmc_slices.specs.declared.error.CutError.{CutError}
use Rattle.kmc_slices.specs.CutProgram.{IsCutFault, IsCutTo, IsFaultOfCut, IsUncut, WroteFiles}
use Rattle.kmc_slices.specs.declared.programs.cut_fault.CutFault.{CutFault}
use Rattle.kmc_slices.specs.declared.programs.cut_fault.CutFault.TheVariants.{Cut}

-- what the cut tells of its writers, told of files, as many as slices
pub uncut : {R W : Type 0} (remaining : R → Option (List ℕ)) (contents : W → Option (List ℕ)) (params : Params) (S : ℕ) (reader read : Watched R)
    (writers written : List (Watched W)) (e : CutError)
    → IsCutting {A = Unit {0}} remaining contents params PIECE_SYMBOLS (2 ^ 32) reader read writers written (Err e) → length writers ≡ S
    → IsUncut remaining params S reader read e
uncut remaining contents params S reader read writers written e why many =
    let olds = map (λ (w : Watched _). contents w.inner) writers in
    let news = map (λ (w : Watched _). contents w.inner) written in
    record {
      olds = olds;
      news = news;
      failed = map (λ w. w.failures) writers;
      fails = map (λ w. w.failures) written;
      many = length-map writers _ ∙ many;
      cause = why.cause;
      read_counts = why.read_counts;
      write_counts = why.write_counts;
      left = subst (λ S. IsLeft params.format (shape_of params) PIECE_SYMBOLS S (remaining reader.inner) (remaining read.inner) olds news e) many why.left;
    }

-- and so of a whole cut
pub wrote : {R W : Type 0} (remaining : R → Option (List ℕ)) (contents : W → Option (List ℕ)) (params : Params) (S : ℕ) (reader read : Watched R)
    (writers written : List (Watched W)) → IsCutTo remaining contents params reader read writers written → length writers ≡ S
    → WroteFiles params S (remaining reader.inner) (remaining read.inner) × (read.failures ≡ reader.failures)
wrote remaining contents params S reader read writers written h many =
    let olds = map (λ (w : Watched _). contents w.inner) writers in
    let news = map (λ (w : Watched _). contents w.inner) written in (
      record {
        olds = olds;
        news = news;
        many = length-map writers _ ∙ many;
        wrote = subst (λ S. WroteSlices params.format (shape_of params) PIECE_SYMBOLS S (remaining reader.inner) (remaining read.inner) olds news) many
            h.ok;
      },
      h.sound.0,
    )

-- and of the fault of a cut
pub fault_of_files : {R W : Type 0} (remaining : R → Option (List ℕ)) (contents : W → Option (List ℕ)) (params : Params) (S : ℕ)
    (reader read : Watched R) (writers written : List (Watched W)) (fault : CutFault)
    → IsFaultOfCut remaining contents params reader read writers written fault → length writers ≡ S
    → (fault : CutFault) × IsCutFault remaining params S reader read fault
fault_of_files remaining contents params S reader read writers written fault h many =
    (Cut h.0, uncut remaining contents params S reader read writers written h.0 h.2 many)
