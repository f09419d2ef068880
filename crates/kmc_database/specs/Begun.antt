-- What is out of a database that was given up.
use Rattle.std.specs.Prelude.{ℕ, List, Option}
use Rattle.kmc_device.specs.Device.{AppendsFront}
use Rattle.kmc_sum.specs.Faults.{GaveFront}
use Rattle.kmc_database.specs.Files.{prefix_file, prefix_start, suffix_file, suffix_start}
use Rattle.kmc_database.specs.Form.{asked_form, IsAskedLength}
use Rattle.kmc_database.specs.declared.error.PackError.{PackError}
use Rattle.kmc_database.specs.declared.error.PackError.TheVariants.{WritePrefix, WriteSuffix}
use Rattle.kmc_database.specs.declared.form.Form.{Form}
use Rattle.kmc_database.specs.declared.form.PackOptions.{PackOptions}

-- of the prefix file all but the header, which is written last: the header too only where that or the last flush failed
abbrev pub most_of_prefix : PackError → Form → List (List ℕ × ℕ) → List ℕ
most_of_prefix WritePrefix f pairs = prefix_file f pairs
most_of_prefix e f pairs = prefix_start f.layout pairs

-- of the suffix file all but its last marker, unless a write failed
abbrev pub most_of_suffix : PackError → Form → List (List ℕ × ℕ) → List ℕ
most_of_suffix WritePrefix f pairs = suffix_file f.layout pairs
most_of_suffix WriteSuffix f pairs = suffix_file f.layout pairs
most_of_suffix e f pairs = suffix_start f.layout pairs

-- the reader gave the lines of these pairs first, and a front of their prefix file and one of their suffix file were written
pub record IsBegun (o : PackOptions) (start now prefix_old prefix_new suffix_old suffix_new : Option (List ℕ)) (e : PackError) : Type 0 where
  pub k : ℕ
  pub asked : IsAskedLength o.k k
  pub pairs : List (List ℕ × ℕ)
  pub rest : List ℕ
  pub gave : GaveFront k start now pairs rest
  pub prefix : AppendsFront prefix_old prefix_new (most_of_prefix e (asked_form o k) pairs)
  pub suffix : AppendsFront suffix_old suffix_new (most_of_suffix e (asked_form o k) pairs)
