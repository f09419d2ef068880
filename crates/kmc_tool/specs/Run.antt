-- What a run does.
use Rattle.std.specs.Prelude.{◌≡◌, ◌≢◌, ℕ, ◌+◌, ◌^◌, ◌<◌, ◌≤◌, List, [], length, Ok, Option, None, Result, IfOk, IfErr, OnOk, IsErrOf}
use Rattle.std.specs.Io.KnownBytes.{Appends, Consumes}
use Rattle.kmc_device.specs.Device.{AppendsFront, GaveAll, RisesByOne, Watched}
use Rattle.kmc_base.specs.declared.strands.Strands.{Strands}
use Rattle.kmc_reads.specs.declared.format.Format.{Format}
use Rattle.kmc_reads.specs.Reads.{reads_of}
use Rattle.kmc_reads.specs.Stages.{fault}
use Rattle.kmc_count.specs.declared.limits.Limits.{Limits}
use Rattle.kmc_count.specs.Occurrences.{count_of}
use Rattle.kmc_count.specs.Dump.{IsDump}
use Rattle.kmc_lists.specs.Line.{text_of}
use Rattle.kmc_lists.specs.declared.bin_lists.BinLists.{BinLists}
use Rattle.kmc_lists.specs.Listed.{spelled}
use Rattle.kmc_lists.specs.Lists.{lists_of}
use Rattle.kmc_lists.specs.Ordered.{CanBeMerged, whole}
use Rattle.kmc_reads.specs.declared.error.ReadsError.{ReadsError}
use Rattle.kmc_reads.specs.declared.error.ReadsError.TheVariants.{Memory as NoMemory}
use Rattle.kmc_options.specs.declared.run_params.Params.{Params}
use Rattle.kmc_stage_one.specs.Fed.{AreCountsOf, IsRefused}
use Rattle.kmc_stage_one.specs.Rounds.{IsInputError}
use Rattle.kmc_reads.specs.declared.input_error.InputError.{InputError}
use Rattle.kmc_options.specs.declared.run_error.RunError.{RunError}
use Rattle.kmc_options.specs.declared.run_error.RunError.TheVariants.{Read, Write, Input, TooLong}

-- the pairs are the dump of the direct count of the reads of all that a reader gave
pub record IsDumpOfInput (format : Format) (strands : Strands) (k : ℕ) (limits : Limits) (old new : Option (List ℕ)) (pairs : List (List ℕ × ℕ)) : Type 0 where
  pub bytes : List ℕ
  pub given : GaveAll old new bytes
  pub reads : List (List ℕ)
  pub are_reads : reads_of format bytes ≡ Ok reads
  pub is_dump : IsDump (count_of strands k reads) limits pairs

-- the text is the dump of the direct count of the reads of these bytes, and has so many lines
pub record IsDumpOf (format : Format) (bytes : List ℕ) (strands : Strands) (k : ℕ) (limits : Limits) (text : List ℕ) (lines : ℕ) : Type 0 where
  pub reads : List (List ℕ)
  pub are_reads : reads_of format bytes ≡ Ok reads
  pub pairs : List (List ℕ × ℕ)
  pub is_dump : IsDump (count_of strands k reads) limits pairs
  pub is_text : text ≡ text_of pairs
  pub is_count : lines ≡ length pairs

-- lists of bins that are the dump of all that a reader gave, of which at most so many reads gave bytes; or why there are none
pub record IsCountedInput {R : Type 0} (remaining : R → Option (List ℕ)) (params : Params) (most : ℕ) (reader read : Watched R)
    (answer : Result BinLists InputError) : Type 0 where
  pub merge : IfOk answer (λ lists. CanBeMerged params.k (lists_of lists))
  pub dump : IfOk answer (λ lists. IsDumpOfInput params.format params.strands params.k params.limits (remaining reader.inner) (remaining read.inner)
      (spelled params.k (whole (lists_of lists))))
  pub sound : OnOk answer ((read.failures ≡ reader.failures) × (reader.reads ≤ read.reads) × (read.reads < reader.reads + most))
  pub counts : IfErr answer (AreCountsOf (reader.reads + most) reader.reads read.reads reader.failures read.failures)
  pub cause : IfErr answer (IsInputError params.format most (remaining reader.inner) (remaining read.inner))

-- a run from a reader to a writer, each before and after, by its answer
pub record IsRunAnswer {R W : Type 0} (remaining : R → Option (List ℕ)) (contents : W → Option (List ℕ)) (params : Params) (reader read : Watched R)
    (writer written : Watched W) (answer : Result ℕ RunError) : Type 0 where
  -- what was written is the dump of what the reader gave to its end, and the answer is its number of lines
  pub ok : IfOk answer (λ lines. (bytes text : List ℕ) × GaveAll (remaining reader.inner) (remaining read.inner) bytes
      × IsDumpOf params.format bytes params.strands params.k params.limits text lines × Appends (contents writer.inner) (contents written.inner) text)
  -- no failure was passed over
  pub sound : OnOk answer ((read.failures ≡ reader.failures) × (written.failures ≡ writer.failures) × (read.reads < reader.reads + 2 ^ 32))
  -- each refusal has its cause
  pub read_failed : IsErrOf answer Read → RisesByOne reader.failures read.failures × (read.reads < reader.reads + 2 ^ 32)
  pub write_failed : IsErrOf answer Write → RisesByOne writer.failures written.failures × (bytes text : List ℕ) × (lines : ℕ)
      × GaveAll (remaining reader.inner) (remaining read.inner) bytes
      × IsDumpOf params.format bytes params.strands params.k params.limits text lines × AppendsFront (contents writer.inner) (contents written.inner) text
  pub input : (e : ReadsError) → IsErrOf answer (Input e) → IsRefused params.format (remaining reader.inner) (remaining read.inner) [] e
  pub faulty : IfErr answer (λ e. e ≢ Input NoMemory)
  pub long : IsErrOf answer TooLong → (read.reads ≡ reader.reads + 2 ^ 32) × (bytes : List ℕ)
      × Consumes (remaining reader.inner) (remaining read.inner) bytes × (2 ^ 32 ≤ length bytes) × (fault params.format bytes ≡ None)
  -- only a failed write leaves anything written, and no other refusal passes over a failure
  pub silent : IfErr answer (λ e. e ≢ Write → written ≡ writer)
  pub reader_kept : IfErr answer (λ e. e ≢ Read → read.failures ≡ reader.failures)
  pub reads_most : read.reads ≤ reader.reads + 2 ^ 32
