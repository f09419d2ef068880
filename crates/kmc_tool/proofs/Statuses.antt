-- What an exit status says of a fault.
use Rattle.std.proofs.Common.{◌≡◌, ◌≢◌, ◌⊎◌, inl, inr, refl, arith}
use Rattle.kmc_options.specs.Status.{is_misuse, status_of}
use Rattle.kmc_options.specs.declared.fault.Fault.{Fault}
use Rattle.kmc_options.specs.declared.fault.Fault.TheVariants.{Options, Run}
use Rattle.kmc_options.specs.declared.error.ParamsError.{ParamsError}
use Rattle.kmc_options.specs.declared.error.ParamsError.TheVariants.{Memory, OutOfRange, Usage}
use Rattle.kmc_options.specs.declared.run_error.RunError.TheVariants as run

-- status 2 comes of the command line alone, and of no want of memory
pub only_misuse : (f : Fault) → status_of (is_misuse f) ≡ 2 → (e : ParamsError) × (e ≢ Memory) × (f ≡ Options e)
only_misuse (Options Usage) h = (Usage, (λ is. absurd (cc)), refl)
only_misuse (Options (OutOfRange s)) h = (OutOfRange s, (λ is. absurd (cc)), refl)
only_misuse (Options Memory) h = absurd (omega arith)
only_misuse (Run e) h = absurd (omega arith)

-- what holds after every fault but a failed write, or what holds after that
pub one_or_other : {P Q : Type 0} (f : Fault) → (f ≢ Run run.Write → P) → (f ≡ Run run.Write → Q) → P ⊎ Q
one_or_other (Options e) p q = inl (p (λ is. absurd (cc)))
one_or_other (Run run.Memory) p q = inl (p (λ is. absurd (cc)))
one_or_other (Run run.Read) p q = inl (p (λ is. absurd (cc)))
one_or_other (Run run.Write) p q = inr (q refl)
one_or_other (Run (run.Input e)) p q = inl (p (λ is. absurd (cc)))
one_or_other (Run run.TooLong) p q = inl (p (λ is. absurd (cc)))
