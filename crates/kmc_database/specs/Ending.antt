-- The ends of the two files.
use Rattle.std.specs.Prelude.{◌≡◌, ℕ, List, ◌++◌, Option}
use Rattle.std.specs.Io.KnownBytes.{Appends}
use Rattle.kmc_device.specs.Device.{AppendsFront, RisesByOne, Watched}
use Rattle.kmc_database.specs.Files.{header_of, limits_of, strands_of, suffix_marker}
use Rattle.kmc_database.specs.declared.error.PackError.{PackError}
use Rattle.kmc_database.specs.declared.error.PackError.TheVariants.{WritePrefix, WriteSuffix}
use Rattle.kmc_database.specs.declared.form.Form.{Form}

-- behind the bytes of a table
abbrev pub with_header : Form → ℕ → List ℕ → List ℕ
with_header f rows table = table ++ header_of f.layout rows (limits_of f) (strands_of f)

-- what was gathered and the ends were written
pub record IsEnded {W : Type 0} (contents : W → Option (List ℕ)) (f : Form) (rows : ℕ) (prefix prefix_written : Watched W) (table : List ℕ)
    (suffix suffix_written : Watched W) (body : List ℕ) : Type 0 where
  pub prefix_bytes : Appends (contents prefix.inner) (contents prefix_written.inner) (with_header f rows table)
  pub suffix_bytes : Appends (contents suffix.inner) (contents suffix_written.inner) (body ++ suffix_marker)
  pub prefix_kept : prefix_written.failures ≡ prefix.failures
  pub suffix_kept : suffix_written.failures ≡ suffix.failures

-- the suffix file was not written, and the prefix file is as it was
pub record IsSuffixLost {W : Type 0} (contents : W → Option (List ℕ)) (prefix prefix_written suffix suffix_written : Watched W) (body : List ℕ)
    : Type 0 where
  pub prefix_same : prefix_written ≡ prefix
  pub suffix_front : AppendsFront (contents suffix.inner) (contents suffix_written.inner) (body ++ suffix_marker)
  pub suffix_failed : RisesByOne suffix.failures suffix_written.failures

-- the suffix file was written, and the prefix file was not
pub record IsPrefixLost {W : Type 0} (contents : W → Option (List ℕ)) (f : Form) (rows : ℕ) (prefix prefix_written : Watched W) (table : List ℕ)
    (suffix suffix_written : Watched W) (body : List ℕ) : Type 0 where
  pub suffix_bytes : Appends (contents suffix.inner) (contents suffix_written.inner) (body ++ suffix_marker)
  pub suffix_kept : suffix_written.failures ≡ suffix.failures
  pub prefix_front : AppendsFront (contents prefix.inner) (contents prefix_written.inner) (with_header f rows table)
  pub prefix_failed : RisesByOne prefix.failures prefix_written.failures

-- why an end is missing
abbrev pub IsNotEnded : {W : Type 0} → (W → Option (List ℕ)) → Form → ℕ → Watched W → Watched W → List ℕ → Watched W → Watched W → List ℕ → PackError
    → Type 0
IsNotEnded contents f rows prefix prefix_written table suffix suffix_written body WriteSuffix =
    IsSuffixLost contents prefix prefix_written suffix suffix_written body
IsNotEnded contents f rows prefix prefix_written table suffix suffix_written body WritePrefix =
    IsPrefixLost contents f rows prefix prefix_written table suffix suffix_written body
IsNotEnded contents f rows prefix prefix_written table suffix suffix_written body e = ⊥
