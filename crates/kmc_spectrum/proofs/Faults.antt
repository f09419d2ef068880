-- What a fault of a count by words says, by its cause and by the exit status.
use Rattle.std.proofs.Common.{◌≡◌, ◌≢◌, ℕ, ◌⊎◌, inl, inr, List, refl, arith}
use Rattle.std.specs.Prelude.{Option, Err}
use Rattle.kmc_device.specs.Device.{Watched}
use Rattle.kmc_options.specs.Options.{Explains}
use Rattle.kmc_options.specs.Status.{is_misuse, status_of}
use Rattle.kmc_options.specs.Words.{Word}
use Rattle.kmc_options.specs.declared.fault.Fault.{Fault}
use Rattle.kmc_options.specs.declared.fault.Fault.TheVariants.{Options, Run}
use Rattle.kmc_options.specs.declared.error.ParamsError.{ParamsError}
use Rattle.kmc_options.specs.declared.error.ParamsError.TheVariants.{Memory, OutOfRange, Usage}
use Rattle.kmc_options.specs.declared.program.Program.TheVariants.{Kmc}
use Rattle.kmc_options.specs.declared.run_error.RunError.TheVariants as run
use Rattle.kmc_spectrum.specs.Program.{IsSpectrumByWords, LeavesSpectrumFront}

module _ {R W : Type 0} (A : Type 0) (words : List Word) (remaining : R → Option (List ℕ)) (contents : W → Option (List ℕ)) (reader read : Watched R)
    (writer written : Watched W) where
  abbrev Faulty : Fault → Type 0
  Faulty f = IsSpectrumByWords {A = A} words remaining contents reader read writer written (Err f)

  -- nothing was written, or a front of the spectrum is out
  pub left_behind : (f : Fault) → Faulty f → (written ≡ writer) ⊎ LeavesSpectrumFront words remaining contents reader read writer written
  left_behind (Options e) h = inl h.2
  left_behind (Run run.Memory) h = inl (h.1.silent (λ is. absurd (cc)))
  left_behind (Run run.Read) h = inl (h.1.silent (λ is. absurd (cc)))
  left_behind (Run run.Write) h =
      let told = h.1.write_failed refl in
      inr record { asked = h.0; text = told.1; spectrum = told.2; out = told.3; failed = told.0 }
  left_behind (Run (run.Input e)) h = inl (h.1.silent (λ is. absurd (cc)))
  left_behind (Run run.TooLong) h = inl (h.1.silent (λ is. absurd (cc)))

  -- status 2 comes of the command line alone, and of no want of memory
  pub only_misuse : (f : Fault) → status_of (is_misuse f) ≡ 2 → Faulty f
      → ((e : ParamsError) × (e ≢ Memory) × Explains Kmc words e) × (read ≡ reader) × (written ≡ writer)
  only_misuse (Options Usage) two h = ((Usage, (λ is. absurd (cc)), h.0), h.1, h.2)
  only_misuse (Options (OutOfRange s)) two h = ((OutOfRange s, (λ is. absurd (cc)), h.0), h.1, h.2)
  only_misuse (Options Memory) two h = absurd (omega arith)
  only_misuse (Run e) two h = absurd (omega arith)
