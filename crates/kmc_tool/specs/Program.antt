-- What the program's arguments ask for, and what it answers.
use Rattle.std.specs.Prelude.{◌≡◌, ◌≢◌, ℕ, ◌+◌, ◌^◌, ◌≤◌, true, List, [], length, None, Option, Result, IfOk, IfErr, IsErrOf}
use Rattle.std.specs.Io.KnownBytes.{Appends, Consumes}
use Rattle.kmc_device.specs.Device.{AppendsFront, GaveAll, RisesByOne, Watched}
use Rattle.kmc_reads.specs.Stages.{fault}
use Rattle.kmc_reads.specs.declared.error.ReadsError.{ReadsError}
use Rattle.kmc_stage_one.specs.Fed.{IsRefused}
use Rattle.kmc_options.specs.declared.run_error.RunError.{RunError}
use Rattle.kmc_options.specs.declared.run_error.RunError.TheVariants.{Read, Write, Input, TooLong}
use Rattle.kmc_options.specs.declared.fault.Fault.{Fault}
use Rattle.kmc_options.specs.declared.fault.Fault.TheVariants.{Options, Run}
use Rattle.kmc_tool.specs.Run.{IsDumpOf}
use Rattle.kmc_options.specs.declared.run_params.Params.{Params}
use Rattle.kmc_options.specs.Words.{Word}
use Rattle.kmc_options.specs.CommandLine.{found}
use Rattle.kmc_options.specs.Options.{AreGiven, Explains, is_taken}
use Rattle.kmc_options.specs.declared.program.Program.TheVariants.{Kmc}
use Rattle.kmc_options.specs.declared.error.ParamsError.{ParamsError}

-- the words, in long form, give settings
pub record IsAsked (words : List Word) : Type 0 where
  pub taken : is_taken Kmc words ≡ true
  pub params : Params
  pub given : AreGiven (found Kmc words) params

-- the words, in long form, give settings by which the text is the dump of the bytes, and has so many lines
pub record IsAnswered (words : List Word) (bytes text : List ℕ) (lines : ℕ) : Type 0 where
  pub asked : IsAsked words
  pub dump : IsDumpOf asked.params.format bytes asked.params.strands asked.params.k asked.params.limits text lines

-- a count of what a reader gives by the words, in long form, from the reader to a writer, each before and after, by its answer
pub record IsCount {R W : Type 0} (words : List Word) (remaining : R → Option (List ℕ)) (contents : W → Option (List ℕ))
    (reader read : Watched R) (writer written : Watched W) (answer : Result ℕ Fault) : Type 0 where
  -- what was written is the dump that the words ask for, and the answer is its number of lines
  pub ok : IfOk answer (λ lines. (bytes text : List ℕ) × GaveAll (remaining reader.inner) (remaining read.inner) bytes
      × IsAnswered words bytes text lines × Appends (contents writer.inner) (contents written.inner) text)
  pub sound : IfOk answer (λ lines. (read.failures ≡ reader.failures) × (written.failures ≡ writer.failures))
  -- each fault has its cause
  pub options : (e : ParamsError) → IsErrOf answer (Options e) → Explains Kmc words e × (read ≡ reader)
  pub run : (e : RunError) → IsErrOf answer (Run e) → IsAsked words
  pub input : (e : ReadsError) → IsErrOf answer (Run (Input e)) → (asked : IsAsked words)
      × IsRefused asked.params.format (remaining reader.inner) (remaining read.inner) [] e
  pub read_failed : IsErrOf answer (Run Read) → RisesByOne reader.failures read.failures
  pub write_failed : IsErrOf answer (Run Write) → RisesByOne writer.failures written.failures × (bytes text : List ℕ) × (lines : ℕ)
      × GaveAll (remaining reader.inner) (remaining read.inner) bytes
      × IsAnswered words bytes text lines × AppendsFront (contents writer.inner) (contents written.inner) text
  pub long : IsErrOf answer (Run TooLong) → (asked : IsAsked words) × (read.reads ≡ reader.reads + 2 ^ 32)
      × (bytes : List ℕ) × Consumes (remaining reader.inner) (remaining read.inner) bytes
      × (2 ^ 32 ≤ length bytes) × (fault asked.params.format bytes ≡ None)
  -- only a failed write leaves anything written, and no other fault passes over a failed read
  pub silent : IfErr answer (λ e. e ≢ Run Write → written ≡ writer)
  pub kept : IfErr answer (λ e. e ≢ Run Read → read.failures ≡ reader.failures)

-- the dump that the words ask for was written whole, and no device failed
pub record IsDone {R W : Type 0} (words : List Word) (remaining : R → Option (List ℕ)) (contents : W → Option (List ℕ))
    (reader read : Watched R) (writer written : Watched W) : Type 0 where
  pub bytes : List ℕ
  pub text : List ℕ
  pub lines : ℕ
  pub given : GaveAll (remaining reader.inner) (remaining read.inner) bytes
  pub answered : IsAnswered words bytes text lines
  pub out : Appends (contents writer.inner) (contents written.inner) text
  pub reader_sound : read.failures ≡ reader.failures
  pub writer_sound : written.failures ≡ writer.failures

-- a write failed once, and a front of the dump that the words ask for is out
pub record LeavesFront {R W : Type 0} (words : List Word) (remaining : R → Option (List ℕ)) (contents : W → Option (List ℕ))
    (reader read : Watched R) (writer written : Watched W) : Type 0 where
  pub bytes : List ℕ
  pub text : List ℕ
  pub lines : ℕ
  pub given : GaveAll (remaining reader.inner) (remaining read.inner) bytes
  pub answered : IsAnswered words bytes text lines
  pub out : AppendsFront (contents writer.inner) (contents written.inner) text
  pub failed : RisesByOne writer.failures written.failures
