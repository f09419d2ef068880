-- What the words of a command line ask for, and what is answered.
use Rattle.std.specs.Prelude.{◌≡◌, List, ℕ, Option, Result, Ok, Err}
use Rattle.std.specs.Io.KnownBytes.{Appends}
use Rattle.kmc_device.specs.Device.{AppendsFront, RisesByOne, Watched}
use Rattle.kmc_options.specs.Words.{Word}
use Rattle.kmc_options.specs.Options.{Explains}
use Rattle.kmc_options.specs.declared.fault.Fault.{Fault}
use Rattle.kmc_options.specs.declared.fault.Fault.TheVariants.{Options, Run}
use Rattle.kmc_options.specs.declared.program.Program.TheVariants.{Kmc}
use Rattle.kmc_tool.specs.Program.{IsAsked}
use Rattle.kmc_spectrum.specs.Spectrum.{IsSpectrumAnswer, IsSpectrumOfInput}

-- a spectrum of what a reader gives by the words, in long form, from the reader to a writer, each before and after, by its answer: a run
-- by the settings that they give, or why they give none; then nothing was read or written
abbrev pub IsSpectrumByWords : {R W A : Type 0} → List Word → (R → Option (List ℕ)) → (W → Option (List ℕ)) → Watched R → Watched R → Watched W
    → Watched W → Result A Fault → Type 0
IsSpectrumByWords {A = A} words remaining contents reader read writer written (Ok a) =
    (asked : IsAsked words) × IsSpectrumAnswer {A = A} remaining contents asked.params reader read writer written (Ok a)
IsSpectrumByWords words remaining contents reader read writer written (Err (Options e)) =
    Explains Kmc words e × (read ≡ reader) × (written ≡ writer)
IsSpectrumByWords {A = A} words remaining contents reader read writer written (Err (Run e)) =
    (asked : IsAsked words) × IsSpectrumAnswer {A = A} remaining contents asked.params reader read writer written (Err e)

-- the spectrum that the words ask for was written whole, and no device failed
pub record IsSpectrumDone {R W : Type 0} (words : List Word) (remaining : R → Option (List ℕ)) (contents : W → Option (List ℕ))
    (reader read : Watched R) (writer written : Watched W) : Type 0 where
  pub asked : IsAsked words
  pub text : List ℕ
  pub spectrum : IsSpectrumOfInput asked.params (remaining reader.inner) (remaining read.inner) text
  pub out : Appends (contents writer.inner) (contents written.inner) text
  pub reader_sound : read.failures ≡ reader.failures
  pub writer_sound : written.failures ≡ writer.failures

-- a write failed once, and a front of the spectrum that the words ask for is out
pub record LeavesSpectrumFront {R W : Type 0} (words : List Word) (remaining : R → Option (List ℕ)) (contents : W → Option (List ℕ))
    (reader read : Watched R) (writer written : Watched W) : Type 0 where
  pub asked : IsAsked words
  pub text : List ℕ
  pub spectrum : IsSpectrumOfInput asked.params (remaining reader.inner) (remaining read.inner) text
  pub out : AppendsFront (contents writer.inner) (contents written.inner) text
  pub failed : RisesByOne writer.failures written.failures
