-- What was written to a device.
use Rattle.std.specs.Prelude.{◌≡◌, ℕ, List, Option, Result, OnOk, OnErr, IfOk, IsErrOf}
use Rattle.std.specs.Io.KnownBytes.{Appends}
use Rattle.kmc_device.specs.Device.{AppendsFront, RisesByOne, Watched}
use Rattle.kmc_dump.specs.declared.write.DumpError.{DumpError}
use Rattle.kmc_dump.specs.declared.write.DumpError.TheVariants.{Memory, Write}

-- a text that is written to a device, which is given before and after, by the answer: all of it, or a front where a call failed
pub record IsWritten {D A E : Type 0} (contents : D → Option (List ℕ)) (text : List ℕ) (writer written : Watched D) (answer : Result A E) : Type 0 where
  pub ok : OnOk answer (Appends (contents writer.inner) (contents written.inner) text)
  pub kept : OnOk answer (written.failures ≡ writer.failures)
  pub failed : OnErr answer (RisesByOne writer.failures written.failures)
  pub front : OnErr answer (AppendsFront (contents writer.inner) (contents written.inner) text)

-- a dump that is written to a device, and the number of its lines: all of it, a front where a call failed, or nothing for want of memory
pub record IsDumped {D : Type 0} (contents : D → Option (List ℕ)) (text : List ℕ) (count : ℕ) (writer written : Watched D) (answer : Result ℕ DumpError)
    : Type 0 where
  pub ok : OnOk answer (Appends (contents writer.inner) (contents written.inner) text)
  pub lines : IfOk answer (λ lines. lines ≡ count)
  pub kept : OnOk answer (written.failures ≡ writer.failures)
  pub failed : IsErrOf answer Write → RisesByOne writer.failures written.failures
  pub front : IsErrOf answer Write → AppendsFront (contents writer.inner) (contents written.inner) text
  pub silent : IsErrOf answer Memory → written ≡ writer
