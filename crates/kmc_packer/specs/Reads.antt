-- What counting reads into a database answers.
use Rattle.std.specs.Prelude.{◌≡◌, ◌≢◌, ℕ, ◌+◌, ◌^◌, ◌<◌, ◌≤◌, List, [], length, Option, None, Result, IfOk, IfErr, OnOk}
use Rattle.std.specs.Io.KnownBytes.{Consumes}
use Rattle.kmc_device.specs.Device.{RisesByOne, Watched}
use Rattle.kmc_reads.specs.declared.error.ReadsError.TheVariants.{Memory as NoMemory}
use Rattle.kmc_reads.specs.Stages.{fault}
use Rattle.kmc_stage_one.specs.Fed.{IsRefused}
use Rattle.kmc_options.specs.declared.run_params.Params.{Params}
use Rattle.kmc_options.specs.declared.run_error.RunError.{RunError}
use Rattle.kmc_options.specs.declared.run_error.RunError.TheVariants as run
use Rattle.kmc_tool.specs.Run.{IsDumpOfInput}
use Rattle.kmc_database.specs.Layout.{IsLayout}
use Rattle.kmc_packer.specs.Form.{counted_form}
use Rattle.kmc_packer.specs.Lists.{AreFilesOut, IsListsCause}
use Rattle.kmc_packer.specs.declared.error.PackReadsError.{PackReadsError}
use Rattle.kmc_packer.specs.declared.error.PackReadsError.TheVariants.{Prefix, Count, TooGreat, WritePrefix, WriteSuffix, Memory}
use Rattle.kmc_packer.specs.declared.lists_error.PackListsError.{PackListsError}
use Rattle.kmc_packer.specs.declared.lists_error.PackListsError.TheVariants as lists

-- the database of the dump of the direct count of all that a reader gave, in the form that the settings and the first part ask for, was written,
-- and it has so many rows
pub record IsPackedReads (params : Params) (first_part : Option ℕ) (start now : Option (List ℕ)) (rows : ℕ)
    (prefix_old prefix_new suffix_old suffix_new : Option (List ℕ)) : Type 0 where
  pub pairs : List (List ℕ × ℕ)
  pub input : IsDumpOfInput params.format params.strands params.k params.limits start now pairs
  pub count : rows ≡ length pairs
  pub files : AreFilesOut (counted_form params first_part) pairs prefix_old prefix_new suffix_old suffix_new

-- why the reads were not counted: a read failed, the text is at fault, or it is too long
abbrev pub IsCountCause : {R : Type 0} → (R → Option (List ℕ)) → Params → Watched R → Watched R → RunError → Type 0
IsCountCause remaining params reader read run.Memory = read.failures ≡ reader.failures
IsCountCause remaining params reader read run.Read = RisesByOne reader.failures read.failures × (read.reads < reader.reads + 2 ^ 32)
IsCountCause remaining params reader read run.Write = ⊥
IsCountCause remaining params reader read (run.Input e) =
    (read.failures ≡ reader.failures) × (e ≢ NoMemory) × IsRefused params.format (remaining reader.inner) (remaining read.inner) [] e
IsCountCause remaining params reader read run.TooLong =
    (read.failures ≡ reader.failures) × (read.reads ≡ reader.reads + 2 ^ 32) × (bytes : List ℕ)
    × Consumes (remaining reader.inner) (remaining read.inner) bytes × (2 ^ 32 ≤ length bytes) × (fault params.format bytes ≡ None)

module _ {R W : Type 0} (remaining : R → Option (List ℕ)) (contents : W → Option (List ℕ)) (params : Params) (first_part : Option ℕ)
    (reader read : Watched R) (prefix prefix_written suffix suffix_written : Watched W) where
  -- all was read and counted, without a failure, and then the pairs of its dump were not packed
  pub record IsUnpackedCount (e : PackListsError) : Type 0 where
    pub pairs : List (List ℕ × ℕ)
    pub input : IsDumpOfInput params.format params.strands params.k params.limits (remaining reader.inner) (remaining read.inner) pairs
    pub kept : read.failures ≡ reader.failures
    pub cause : IsListsCause contents (counted_form params first_part) pairs (record { prefix = prefix; suffix = suffix })
        (record { prefix = prefix_written; suffix = suffix_written }) e

  -- nothing was written
  abbrev Unwritten : Type 0
  Unwritten = (prefix_written ≡ prefix) × (suffix_written ≡ suffix)

  -- why there is no database, and what is out of the two files
  abbrev pub IsPackReadsCause : PackReadsError → Type 0
  IsPackReadsCause (Prefix k) = (k ≡ params.k) × (IsLayout (counted_form params first_part).layout → ⊥) × (read ≡ reader) × Unwritten
  IsPackReadsCause (Count e) = IsCountCause remaining params reader read e × Unwritten
  IsPackReadsCause TooGreat = IsUnpackedCount lists.TooGreat
  IsPackReadsCause WritePrefix = IsUnpackedCount lists.WritePrefix
  IsPackReadsCause WriteSuffix = IsUnpackedCount lists.WriteSuffix
  IsPackReadsCause Memory = IsUnpackedCount lists.Memory

  -- a run from a reader to the two files of a database, each before and after, by its answer, which is how many rows the database has
  pub record IsPackReadsAnswer (answer : Result ℕ PackReadsError) : Type 0 where
    -- what was written is the database of what the reader gave to its end
    pub ok : IfOk answer (λ rows. IsPackedReads params first_part (remaining reader.inner) (remaining read.inner) rows (contents prefix.inner)
        (contents prefix_written.inner) (contents suffix.inner) (contents suffix_written.inner))
    -- no failure was passed over
    pub sound : OnOk answer ((read.failures ≡ reader.failures) × (prefix_written.failures ≡ prefix.failures)
        × (suffix_written.failures ≡ suffix.failures) × (read.reads < reader.reads + 2 ^ 32))
    -- each refusal has its cause
    pub cause : IfErr answer IsPackReadsCause
    pub reads_most : read.reads ≤ reader.reads + 2 ^ 32
