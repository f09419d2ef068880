-- What packing lists answers.
use Rattle.std.specs.Prelude.{◌≡◌, ℕ, List, length, Option, Result, IfOk, IfErr, OnOk}
use Rattle.std.specs.Io.KnownBytes.{Appends}
use Rattle.kmc_device.specs.Device.{AppendsFront, RisesByOne, Watched}
use Rattle.kmc_database.specs.Files.{IsDatabase, prefix_file, suffix_file, suffix_marker}
use Rattle.kmc_database.specs.declared.form.Form.{Form}
use Rattle.kmc_packer.specs.Counts.{HasGreat}
use Rattle.kmc_packer.specs.declared.lists_error.PackListsError.{PackListsError}
use Rattle.kmc_packer.specs.declared.lists_error.PackListsError.TheVariants.{TooGreat, WritePrefix, WriteSuffix, Memory}

-- the two files of a database of these pairs were written
pub record AreFilesOut (f : Form) (pairs : List (List ℕ × ℕ)) (prefix_old prefix_new suffix_old suffix_new : Option (List ℕ)) : Type 0 where
  pub prefix_bytes : List ℕ
  pub suffix_bytes : List ℕ
  pub database : IsDatabase f pairs prefix_bytes suffix_bytes
  pub prefix : Appends prefix_old prefix_new prefix_bytes
  pub suffix : Appends suffix_old suffix_new suffix_bytes

-- the two files that a database is written to
pub record BothFiles (W : Type 0) : Type 0 where
  pub prefix : Watched W
  pub suffix : Watched W

module _ {W : Type 0} (contents : W → Option (List ℕ)) (f : Form) (pairs : List (List ℕ × ℕ)) (old new : BothFiles W) where
  -- of the suffix file a front of these bytes is out
  abbrev suffix_front : List ℕ → Type 0
  suffix_front bytes = AppendsFront (contents old.suffix.inner) (contents new.suffix.inner) bytes

  -- why pairs are not packed, and what is out: nothing, a front of the suffix file, or that file whole and a front of the prefix file
  abbrev pub IsListsCause : PackListsError → Type 0
  IsListsCause TooGreat = HasGreat f.layout.counter pairs × (new ≡ old)
  IsListsCause Memory = (new.prefix ≡ old.prefix) × (new.suffix.failures ≡ old.suffix.failures) × suffix_front suffix_marker
  IsListsCause WriteSuffix = (new.prefix ≡ old.prefix) × RisesByOne old.suffix.failures new.suffix.failures × suffix_front (suffix_file f.layout pairs)
  IsListsCause WritePrefix =
      RisesByOne old.prefix.failures new.prefix.failures
      × AppendsFront (contents old.prefix.inner) (contents new.prefix.inner) (prefix_file f pairs)
      × (new.suffix.failures ≡ old.suffix.failures)
      × Appends (contents old.suffix.inner) (contents new.suffix.inner) (suffix_file f.layout pairs)

  -- pairs that are packed, by the answer, which is how many rows the database has
  pub record IsPackListsAnswer (answer : Result ℕ PackListsError) : Type 0 where
    pub rows : IfOk answer (λ rows. rows ≡ length pairs)
    -- the database was written
    pub ok : OnOk answer (AreFilesOut f pairs (contents old.prefix.inner) (contents new.prefix.inner) (contents old.suffix.inner)
        (contents new.suffix.inner))
    -- no failure was passed over
    pub sound : OnOk answer ((new.prefix.failures ≡ old.prefix.failures) × (new.suffix.failures ≡ old.suffix.failures))
    -- each refusal has its cause
    pub cause : IfErr answer IsListsCause
