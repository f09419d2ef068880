-- The walk over one dump that tallies its counts.
use Rattle.std.specs.Prelude.{◌≡◌, ℕ, ◌+◌, ◌==◌, List, Option, Result, IfErr, OnOk, if◌then◌else◌, slice_index}
use Rattle.std.specs.BTreeMap.{BTreeMap}
use Rattle.kmc_device.specs.Device.{Watched, RisesByOne}
use Rattle.kmc_sum.specs.Listed.{IsLength}
use Rattle.kmc_sum.specs.Refusals.{IsFaultOf, HaveTooMany}
use Rattle.kmc_sum.specs.Sources.{AreSources, failures_of, left_at, lefts_of, list_at}
use Rattle.kmc_sum.specs.declared.error.SumError.{SumError}
use Rattle.kmc_sum.specs.declared.error.SumError.TheVariants.{Source, Write, Memory, TooLong}
use Rattle.kmc_sum.specs.declared.heads.Head.{Head}
use Rattle.kmc_sum.specs.declared.source.Room.{Room}
use Rattle.std.specs.Ordering.{nat_cmp}
use Rattle.kmc_join.specs.Histogram.{GaveDump, IsHistogramBegun, IsHistogramWritten, number_with}
use Rattle.kmc_join.specs.Rows.{HasNoZero, number_of}

-- how often a count was seen: by its place in a list, where this is so long, and in a map
abbrev pub seen : List ℕ → BTreeMap ℕ ℕ → ℕ → ℕ
seen small great n = slice_index small n + number_of nat_cmp great n

-- a count was seen once more
pub record SeesOneMore (small small' : List ℕ) (great great' : BTreeMap ℕ ℕ) (n : ℕ) : Type 0 where
  pub sound : HasNoZero nat_cmp great'
  pub counts : (other : ℕ) → seen small' great' other ≡ seen small great other + (if n == other then 1 else 0)

-- so far a list was taken from the source, and its counts are tallied
pub record IsTallied (k : ℕ) (starts nows : List (Option (List ℕ))) (rooms : List Room) (heads : List Head) (number : ℕ → ℕ) : Type 0 where
  pub lists : List (List (List ℕ × ℕ))
  pub sources : AreSources k starts nows rooms heads lists
  pub counts : (n : ℕ) → number n ≡ number_with (list_at lists 0) n

-- the source gave a dump, and its counts are tallied
pub record IsWholeTally (start now : Option (List ℕ)) (tally : BTreeMap ℕ ℕ) : Type 0 where
  pub pairs : List (List ℕ × ℕ)
  pub gave : GaveDump start now pairs
  pub counts : (n : ℕ) → number_of nat_cmp tally n ≡ number_with pairs n

-- why a source is not tallied; want of memory says nothing of it
abbrev pub IsTallyCause : List (Option (List ℕ)) → List (Option (List ℕ)) → List ℕ → List ℕ → SumError → Type 0
IsTallyCause starts nows olds news (Source e) = (k : ℕ) × IsLength k × IsFaultOf k starts nows olds news e.source e.fault
IsTallyCause starts nows olds news Write = ⊥
IsTallyCause starts nows olds news Memory = Unit {0}
IsTallyCause starts nows olds news TooLong = (k : ℕ) × IsLength k × HaveTooMany k starts nows

-- why a histogram was given up: where the writer is at fault, a front of it is out, and else nothing was written
abbrev pub IsHistogramCause : {W : Type 0} → (W → Option (List ℕ)) → List (Option (List ℕ)) → List (Option (List ℕ)) → List ℕ → List ℕ → Watched W
    → Watched W → SumError → Type 0
IsHistogramCause contents starts nows olds news writer written (Source e) = IsTallyCause starts nows olds news (Source e) × (written ≡ writer)
IsHistogramCause contents starts nows olds news writer written Write =
    RisesByOne writer.failures written.failures
    × IsHistogramBegun (left_at starts 0) (left_at nows 0) (contents writer.inner) (contents written.inner)
IsHistogramCause contents starts nows olds news writer written Memory = written ≡ writer
IsHistogramCause contents starts nows olds news writer written TooLong = IsTallyCause starts nows olds news TooLong × (written ≡ writer)

-- a histogram of a reader, which had these bytes at its start, into a writer, each before and after, by its answer
pub record IsHistogramAnswer {R W A : Type 0} (remaining : R → Option (List ℕ)) (contents : W → Option (List ℕ)) (starts : List (Option (List ℕ)))
    (readers read : List (Watched R)) (writer written : Watched W) (answer : Result A SumError) : Type 0 where
  pub ok : OnOk answer (IsHistogramWritten (left_at starts 0) (left_at (lefts_of remaining read) 0) (contents writer.inner) (contents written.inner))
  pub sound : OnOk answer ((failures_of read ≡ failures_of readers) × (written.failures ≡ writer.failures))
  pub cause : IfErr answer (IsHistogramCause contents starts (lefts_of remaining read) (failures_of readers) (failures_of read) writer written)
