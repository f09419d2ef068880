-- What packing a dump answers.
use Rattle.std.specs.Prelude.{◌≡◌, ℕ, ◌+◌, ◌-◌, ◌^◌, ◌≤◌, ◌⊎◌, List, [], ◌∷◌, ◌++◌, length, Option, Some, None, Result, IfOk, IfErr, OnOk}
use Rattle.std.specs.Io.KnownBytes.{Appends}
use Rattle.kmc_device.specs.Device.{GaveAll, RisesByOne, Watched}
use Rattle.kmc_sum.specs.Faults.{GaveFront, IsFaultAt}
use Rattle.kmc_sum.specs.Listed.{IsLength, Lists}
use Rattle.kmc_sum.specs.Refusals.{BeginsWith}
use Rattle.kmc_sum.specs.declared.error.LineFault.TheVariants.{OtherLength}
use Rattle.kmc_sum.specs.declared.error.SourceFault.{SourceFault}
use Rattle.kmc_sum.specs.declared.error.SourceFault.TheVariants.{Line, Read}
use Rattle.kmc_database.specs.Begun.{IsBegun}
use Rattle.kmc_database.specs.Files.{IsDatabase}
use Rattle.kmc_database.specs.Form.{asked_form, IsAskedLength}
use Rattle.kmc_database.specs.Layout.{IsLayout, layout_of}
use Rattle.kmc_database.specs.declared.error.PackError.{PackError}
use Rattle.kmc_database.specs.declared.error.PackError.TheVariants.{Source, Empty, Prefix, TooGreat, WritePrefix, WriteSuffix, Memory, TooLong}
use Rattle.kmc_database.specs.declared.form.PackOptions.{PackOptions}

-- what the reader gave to its end is the text of a dump, and the database of it in the form that was asked for was written
pub record IsPacked (o : PackOptions) (start now : Option (List ℕ)) (rows : ℕ) (prefix_old prefix_new suffix_old suffix_new : Option (List ℕ)) : Type 0 where
  pub text : List ℕ
  pub gave : GaveAll start now text
  pub k : ℕ
  pub asked : IsAskedLength o.k k
  -- where no length of words is asked for there is a line, which tells it
  pub told : o.k ≡ None → 1 ≤ rows
  pub pairs : List (List ℕ × ℕ)
  pub lists : Lists k text pairs
  pub count : rows ≡ length pairs
  pub prefix_bytes : List ℕ
  pub suffix_bytes : List ℕ
  pub database : IsDatabase (asked_form o k) pairs prefix_bytes suffix_bytes
  pub prefix : Appends prefix_old prefix_new prefix_bytes
  pub suffix : Appends suffix_old suffix_new suffix_bytes

-- how many calls of the reader, of the prefix file and of the suffix file failed
pub record Failures : Type 0 where
  pub reader : ℕ
  pub prefix : ℕ
  pub suffix : ℕ

-- the count of this line does not fit so many bytes, and each line before lists a pair
pub record IsTooGreat (k counter : ℕ) (start now : Option (List ℕ)) (line : ℕ) : Type 0 where
  pub pairs : List (List ℕ × ℕ)
  pub pair : List ℕ × ℕ
  pub rest : List ℕ
  pub gave : GaveFront k start now (pairs ++ pair ∷ []) rest
  pub number : line ≡ length pairs + 1
  pub great : 256 ^ counter ≤ pair.1

-- the reader gave the lines of more pairs than are counted
pub record IsTooLong (k : ℕ) (start now : Option (List ℕ)) : Type 0 where
  pub pairs : List (List ℕ × ℕ)
  pub rest : List ℕ
  pub gave : GaveFront k start now pairs rest
  pub many : 2 ^ 64 - 2 ≤ length pairs

-- a read failed, or this line is the first at fault; where its word has another length, k was asked for, or is that of the lines before
abbrev pub IsSourceFault : PackOptions → Option (List ℕ) → Option (List ℕ) → Failures → Failures → SourceFault → Type 0
IsSourceFault o start now old new Read = RisesByOne old.reader new.reader
IsSourceFault o start now old new (Line line fault) =
    (k : ℕ) × IsLength k × IsFaultAt k start now line fault × (fault ≡ OtherLength → (o.k ≡ Some k) ⊎ (2 ≤ line))

-- why a dump is not packed; want of memory comes before anything is read
abbrev pub IsCause : PackOptions → Option (List ℕ) → Option (List ℕ) → Failures → Failures → PackError → Type 0
IsCause o start now old new (Source fault) = IsSourceFault o start now old new fault × (new.prefix ≡ old.prefix) × (new.suffix ≡ old.suffix)
IsCause o start now old new Empty = (o.k ≡ None) × GaveAll start now [] × (new ≡ old)
IsCause o start now old new (Prefix k) = ((o.k ≡ Some k) ⊎ BeginsWith k start now) × (IsLayout (layout_of k o.prefix o.counter) → ⊥) × (new ≡ old)
IsCause o start now old new (TooGreat line) = (k : ℕ) × IsAskedLength o.k k × IsTooGreat k o.counter start now line × (new ≡ old)
IsCause o start now old new WritePrefix = (new.reader ≡ old.reader) × RisesByOne old.prefix new.prefix × (new.suffix ≡ old.suffix)
IsCause o start now old new WriteSuffix = (new.reader ≡ old.reader) × (new.prefix ≡ old.prefix) × RisesByOne old.suffix new.suffix
IsCause o start now old new Memory = (now ≡ start) × (new ≡ old)
IsCause o start now old new TooLong = (k : ℕ) × IsAskedLength o.k k × IsTooLong k start now × (new ≡ old)

abbrev pub failures_of : {R W : Type 0} → Watched R → Watched W → Watched W → Failures
failures_of reader prefix suffix = record { reader = reader.failures; prefix = prefix.failures; suffix = suffix.failures }

-- a dump packed into two files, each device before and after, by the answer; `start` is what the reader had at first
pub record IsPackAnswer {R W : Type 0} (remaining : R → Option (List ℕ)) (contents : W → Option (List ℕ)) (o : PackOptions) (start : Option (List ℕ))
    (reader read : Watched R) (prefix prefix_written suffix suffix_written : Watched W) (answer : Result ℕ PackError) : Type 0 where
  -- the database was written, and the answer is how many rows it has
  pub ok : IfOk answer (λ rows. IsPacked o start (remaining read.inner) rows (contents prefix.inner) (contents prefix_written.inner)
      (contents suffix.inner) (contents suffix_written.inner))
  -- no failure was passed over
  pub sound : OnOk answer (failures_of read prefix_written suffix_written ≡ failures_of reader prefix suffix)
  -- each refusal has its cause
  pub cause : IfErr answer (IsCause o start (remaining read.inner) (failures_of reader prefix suffix) (failures_of read prefix_written suffix_written))
  -- and leaves the files as they were, or a front of each
  pub begun : IfErr answer (λ e. ((prefix_written ≡ prefix) × (suffix_written ≡ suffix)) ⊎ IsBegun o start (remaining read.inner)
      (contents prefix.inner) (contents prefix_written.inner) (contents suffix.inner) (contents suffix_written.inner) e)
