-- How many k-mers of reads have each count, and what a run does that writes it.
use Rattle.std.specs.Prelude.{◌≡◌, ◌≢◌, ℕ, ◌+◌, ◌^◌, ◌<◌, ◌≤◌, List, [], length, Ok, Option, None, Result, IfErr, OnOk, IsErrOf}
use Rattle.std.specs.Io.KnownBytes.{Appends, Consumes}
use Rattle.kmc_device.specs.Device.{AppendsFront, GaveAll, RisesByOne, Watched}
use Rattle.kmc_base.specs.declared.strands.Strands.{Strands}
use Rattle.kmc_reads.specs.declared.format.Format.{Format}
use Rattle.kmc_reads.specs.declared.error.ReadsError.{ReadsError}
use Rattle.kmc_reads.specs.declared.error.ReadsError.TheVariants.{Memory as NoMemory}
use Rattle.kmc_reads.specs.Reads.{reads_of}
use Rattle.kmc_reads.specs.Stages.{fault}
use Rattle.kmc_count.specs.declared.limits.Limits.{Limits}
use Rattle.kmc_count.specs.Occurrences.{count_of}
use Rattle.kmc_count.specs.Dump.{IsDump}
use Rattle.kmc_stage_one.specs.Fed.{IsRefused}
use Rattle.kmc_join.specs.Histogram.{IsHistogram, rows_text}
use Rattle.kmc_options.specs.declared.run_params.Params.{Params}
use Rattle.kmc_options.specs.declared.run_error.RunError.{RunError}
use Rattle.kmc_options.specs.declared.run_error.RunError.TheVariants.{Read, Write, Input, TooLong}

-- the text is the histogram of the dump of the direct count of the reads of these bytes: a line for each count that a k-mer has there,
-- the counts rising, with how many k-mers have it
pub record IsSpectrumOf (format : Format) (bytes : List ℕ) (strands : Strands) (k : ℕ) (limits : Limits) (text : List ℕ) : Type 0 where
  pub reads : List (List ℕ)
  pub are_reads : reads_of format bytes ≡ Ok reads
  pub pairs : List (List ℕ × ℕ)
  pub is_dump : IsDump (count_of strands k reads) limits pairs
  pub rows : List (ℕ × ℕ)
  pub is_histogram : IsHistogram pairs rows
  pub is_text : text ≡ rows_text rows

-- the text is the spectrum, by these settings, of all that a reader gave
pub record IsSpectrumOfInput (params : Params) (old new : Option (List ℕ)) (text : List ℕ) : Type 0 where
  pub bytes : List ℕ
  pub given : GaveAll old new bytes
  pub spectrum : IsSpectrumOf params.format bytes params.strands params.k params.limits text

-- a run from a reader to a writer, each before and after, by its answer; want of memory says nothing of the text
pub record IsSpectrumAnswer {R W A : Type 0} (remaining : R → Option (List ℕ)) (contents : W → Option (List ℕ)) (params : Params)
    (reader read : Watched R) (writer written : Watched W) (answer : Result A RunError) : Type 0 where
  -- what was written is the spectrum of what the reader gave to its end
  pub ok : OnOk answer ((text : List ℕ) × IsSpectrumOfInput params (remaining reader.inner) (remaining read.inner) text
      × Appends (contents writer.inner) (contents written.inner) text)
  -- no failure was passed over
  pub sound : OnOk answer ((read.failures ≡ reader.failures) × (written.failures ≡ writer.failures) × (read.reads < reader.reads + 2 ^ 32))
  -- each refusal has its cause
  pub read_failed : IsErrOf answer Read → RisesByOne reader.failures read.failures × (read.reads < reader.reads + 2 ^ 32)
  pub write_failed : IsErrOf answer Write → RisesByOne writer.failures written.failures × (text : List ℕ)
      × IsSpectrumOfInput params (remaining reader.inner) (remaining read.inner) text × AppendsFront (contents writer.inner) (contents written.inner) text
  pub input : (e : ReadsError) → IsErrOf answer (Input e) → IsRefused params.format (remaining reader.inner) (remaining read.inner) [] e
  pub faulty : IfErr answer (λ e. e ≢ Input NoMemory)
  pub long : IsErrOf answer TooLong → (read.reads ≡ reader.reads + 2 ^ 32) × (bytes : List ℕ)
      × Consumes (remaining reader.inner) (remaining read.inner) bytes × (2 ^ 32 ≤ length bytes) × (fault params.format bytes ≡ None)
  -- only a failed write leaves anything written, and no other refusal passes over a failure
  pub silent : IfErr answer (λ e. e ≢ Write → written ≡ writer)
  pub reader_kept : IfErr answer (λ e. e ≢ Read → read.failures ≡ reader.failures)
  pub reads_most : read.reads ≤ reader.reads + 2 ^ 32
