-- What is read as a dump.
use Rattle.std.specs.Prelude.{ℕ, Bool, true, false, List, Option, Some, None}
use Rattle.kmc_base.specs.declared.strands.Strands.{Strands}
use Rattle.kmc_base.specs.declared.strands.Strands.TheVariants.{Apart, Joined}
use Rattle.kmc_database.specs.DumpReader.{rest_of}
use Rattle.kmc_database.specs.declared.dump_source.DumpSource.{DumpSource}
use Rattle.kmc_database.specs.declared.dump_source.DumpSource.TheVariants.{Text, Database}
use Rattle.kmc_database.specs.declared.unpack_error.UnpackError.{UnpackError}

-- what is left of it, where that is known: of a database the text of the rows that are still to come
abbrev pub rest_of_source : {T R : Type 0} → (T → Option (List ℕ)) → (R → Option (List ℕ)) → DumpSource T R → Option (List ℕ)
rest_of_source text file (Text t) = text t
rest_of_source text file (Database d) = rest_of file d

-- why the text of a database ended before its rows did
abbrev pub fault_of : {T R : Type 0} → DumpSource T R → Option UnpackError
fault_of (Text t) = None
fault_of (Database d) = d.fault

-- whether words and their reverse complements are counted together, where that is told
abbrev pub strands_of : {T R : Type 0} → DumpSource T R → Option Strands
strands_of (Text t) = None
strands_of (Database d) = Some d.strands

-- strands of two sources that are not unlike: a source that tells none fits any other
abbrev pub are_alike : Option Strands → Option Strands → Bool
are_alike None other = true
are_alike (Some one) None = true
are_alike (Some Joined) (Some Joined) = true
are_alike (Some Joined) (Some Apart) = false
are_alike (Some Apart) (Some Joined) = false
are_alike (Some Apart) (Some Apart) = true
