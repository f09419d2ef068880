-- A refusal of a step, as the run tells it.
use Rattle.std.proofs.Common.{◌≡◌, ◌≢◌, ℕ, ap, refl, sym, ◌∙◌}
use Rattle.std.specs.Prelude.{Ok, Err, IsErrOf}
use Rattle.kmc_reads.specs.declared.error.ReadsError.{ReadsError}
use Rattle.kmc_dump.specs.declared.write.DumpError.{DumpError}
use Rattle.kmc_dump.specs.declared.write.DumpError.TheVariants as dump
use Rattle.kmc_tool.specs.Errors.{write_error}
use Rattle.kmc_options.specs.Errors.{run_error}
use Rattle.kmc_reads.specs.declared.input_error.InputError.{InputError}
use Rattle.kmc_reads.specs.declared.input_error.InputError.TheVariants.{Memory, Read, Faulty, TooLong}
use Rattle.kmc_options.specs.declared.run_error.RunError.{RunError}
use Rattle.kmc_options.specs.declared.fault.Fault.TheVariants.{Options, Run}
use Rattle.kmc_options.specs.declared.error.ParamsError.{ParamsError}
use Rattle.kmc_options.specs.declared.run_error.RunError.TheVariants as run

abbrev back : RunError → InputError
back run.Memory = Memory
back run.Read = Read
back run.Write = Memory
back (run.Input e) = Faulty e
back run.TooLong = TooLong

back_again : (e : InputError) → back (run_error e) ≡ e
back_again Memory = refl
back_again Read = refl
back_again (Faulty e) = refl
back_again TooLong = refl

-- two refusals of the input that are told alike are one
pub same_input : (e f : InputError) → run_error e ≡ run_error f → e ≡ f
same_input e f same = sym (back_again e) ∙ ap back same ∙ back_again f

-- and none is told as a failed write
pub no_write : (e : InputError) → run_error e ≢ run.Write
no_write Memory is = absurd (cc)
no_write Read is = absurd (cc)
no_write (Faulty e) is = absurd (cc)
no_write TooLong is = absurd (cc)

-- a refusal of the writing is none of the input
pub no_read : (e : DumpError) → write_error e ≢ run.Read
no_read dump.Memory is = absurd (cc)
no_read dump.Write is = absurd (cc)

pub no_input : (e : DumpError) (fault : ReadsError) → write_error e ≢ run.Input fault
no_input dump.Memory fault is = absurd (cc)
no_input dump.Write fault is = absurd (cc)

pub no_length : (e : DumpError) → write_error e ≢ run.TooLong
no_length dump.Memory is = absurd (cc)
no_length dump.Write is = absurd (cc)

-- it is told as a failed write where it is one
pub is_write : (e : DumpError) → write_error e ≡ run.Write → e ≡ dump.Write
is_write dump.Memory is = absurd (cc)
is_write dump.Write is = refl

pub is_memory : (e : DumpError) → write_error e ≢ run.Write → e ≡ dump.Memory
is_memory dump.Memory other = refl
is_memory dump.Write other = absurd (other refl)

-- an answer is no refusal
pub no_refusal : {E : Type 0} {lines : ℕ} {e : E} → IsErrOf {T = ℕ} (Ok lines) e → ⊥
no_refusal is = absurd (cc)

-- a refusal is told as it is
pub of_told : {e told : RunError} → IsErrOf {T = ℕ} (Err e) told → e ≡ told
of_told is = cc

-- a refusal that is told as one of a run is that of the run
pub of_run : {e told : RunError} → IsErrOf {T = ℕ} (Err (Run e)) (Run told) → IsErrOf {T = ℕ} (Err e) told
of_run is = cc

-- and one of the options that of the options
pub of_options : {e told : ParamsError} → IsErrOf {T = ℕ} (Err (Options e)) (Options told) → e ≡ told
of_options is = cc

pub no_run : {e : ParamsError} {told : RunError} → IsErrOf {T = ℕ} (Err (Options e)) (Run told) → ⊥
no_run is = absurd (cc)

pub no_options : {e : RunError} {told : ParamsError} → IsErrOf {T = ℕ} (Err (Run e)) (Options told) → ⊥
no_options is = absurd (cc)
