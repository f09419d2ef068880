-- What unpacking a database answers.
use Rattle.std.specs.Prelude.{◌≡◌, ℕ, ◌⊎◌, List, Option, Result, IfOk, IfErr, OnOk, OnErr}
use Rattle.kmc_device.specs.Device.{Watched}
use Rattle.kmc_database.specs.Given.{IsUnpackBegun, Starts}
use Rattle.kmc_database.specs.Unpacked.{EndsInHeader, IsUnpacked}
use Rattle.kmc_database.specs.UnpackCauses.{IsRefusedFirst, IsRefusedWith, UnpackFailures}
use Rattle.kmc_database.specs.declared.reading.Header.{Header}
use Rattle.kmc_database.specs.declared.unpack_error.UnpackError.{UnpackError}
use Rattle.kmc_database.specs.declared.unpack_error.UnpackError.TheVariants.{Memory}

-- what the readers of both files have and what the writer holds, before they are used
abbrev pub starts_of : {R W : Type 0} → (R → Option (List ℕ)) → (W → Option (List ℕ)) → Watched R → Watched R → Watched W → Starts
starts_of remaining contents prefix suffix writer =
    record { prefix = remaining prefix.inner; suffix = remaining suffix.inner; written = contents writer.inner }

abbrev pub unpack_failures : {R W : Type 0} → ℕ → Watched R → Watched R → Watched W → UnpackFailures
unpack_failures first prefix suffix writer =
    record { first = first; prefix = prefix.failures; suffix = suffix.failures; writer = writer.failures }

-- a step of reading the two files with this header and writing the dump, each device before and after, by the answer: what is done then,
-- and what is left of it after a refusal; `s` is what the devices had at first
pub record IsStepAnswer {R W A : Type 0} (remaining : R → Option (List ℕ)) (contents : W → Option (List ℕ)) (h : Header) (s : Starts)
    (prefix prefix_read suffix suffix_read : Watched R) (writer written : Watched W) (answer : Result A UnpackError) (done begun : Type 0) : Type 0 where
  pub ok : OnOk answer done
  pub sound : (first : ℕ) → OnOk answer (unpack_failures first prefix_read suffix_read written ≡ unpack_failures first prefix suffix writer)
  pub cause : (first : ℕ) → IfErr answer (IsRefusedWith h s (remaining prefix_read.inner) (remaining suffix_read.inner)
      (unpack_failures first prefix suffix writer) (unpack_failures first prefix_read suffix_read written))
  pub left : OnErr answer begun

-- nothing was read but the prefix file once, and nothing was written
pub record IsUntouched {R W : Type 0} (prefix prefix_read suffix suffix_read : Watched R) (writer written : Watched W) : Type 0 where
  pub prefix_kept : prefix_read ≡ prefix
  pub suffix_kept : suffix_read ≡ suffix
  pub writer_kept : written ≡ writer

-- why a database is not unpacked: want of memory before anything is read, or no header at the first reading, or with that header what
-- the files are or a device
abbrev pub IsUnpackCause : {R W : Type 0} → (R → Option (List ℕ)) → (W → Option (List ℕ)) → Watched R → Watched R → Watched R → Watched R → Watched R
    → Watched R → Watched W → Watched W → UnpackError → Type 0
IsUnpackCause remaining contents first first_read prefix prefix_read suffix suffix_read writer written e =
    ((e ≡ Memory) × (first_read ≡ first) × IsUntouched prefix prefix_read suffix suffix_read writer written)
    ⊎ (IsRefusedFirst (remaining first.inner) (remaining first_read.inner) first.failures first_read.failures e
    × IsUntouched prefix prefix_read suffix suffix_read writer written)
    ⊎ ((h : Header) × EndsInHeader (remaining first.inner) (remaining first_read.inner) h
    × IsRefusedWith h (starts_of remaining contents prefix suffix writer) (remaining prefix_read.inner) (remaining suffix_read.inner)
    (unpack_failures first.failures prefix suffix writer) (unpack_failures first_read.failures prefix_read suffix_read written) e)

-- a database unpacked, each device before and after, by the answer; the prefix file is read twice
pub record IsUnpackAnswer {R W : Type 0} (remaining : R → Option (List ℕ)) (contents : W → Option (List ℕ))
    (first first_read prefix prefix_read suffix suffix_read : Watched R) (writer written : Watched W) (answer : Result ℕ UnpackError) : Type 0 where
  -- the dump of what the files gave to their ends was written, and the answer is how many lines it has
  pub ok : IfOk answer (λ rows. IsUnpacked (remaining first.inner) (remaining first_read.inner)
      (starts_of remaining contents prefix suffix writer) (remaining prefix_read.inner) (remaining suffix_read.inner) (contents written.inner) rows)
  -- no failure was passed over
  pub sound : OnOk answer (unpack_failures first_read.failures prefix_read suffix_read written ≡ unpack_failures first.failures prefix suffix writer)
  -- each refusal has its cause
  pub cause : IfErr answer (IsUnpackCause remaining contents first first_read prefix prefix_read suffix suffix_read writer written)
  -- and leaves the writer as it was, or a front of the dump of what the files gave first
  pub begun : OnErr answer ((written ≡ writer) ⊎ IsUnpackBegun (starts_of remaining contents prefix suffix writer)
      (remaining prefix_read.inner) (remaining suffix_read.inner) (contents written.inner))
