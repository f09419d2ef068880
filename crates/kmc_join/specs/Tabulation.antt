-- The walk over two dumps that tallies the counts of words in both.
use Rattle.std.specs.Prelude.{◌≡◌, ◌≤◌, ℕ, List, Option, Result, IfErr, OnOk, length}
use Rattle.std.specs.BTreeMap.{BTreeMap}
use Rattle.std.specs.List.{sum_by}
use Rattle.kmc_device.specs.Device.{Watched, RisesByOne}
use Rattle.kmc_sum.specs.Sources.{failures_of, lefts_of, list_at}
use Rattle.kmc_sum.specs.declared.error.SumError.{SumError}
use Rattle.kmc_sum.specs.declared.error.SumError.TheVariants.{Source, Write, Memory, TooLong}
use Rattle.kmc_sum.specs.declared.heads.Head.{Head}
use Rattle.kmc_sum.specs.declared.source.Room.{Room}
use Rattle.kmc_join.specs.Rows.{number_of}
use Rattle.kmc_join.specs.Table.{AreBeside, GaveDumps, IsTableBegun, IsTableWritten, counts_cmp, number_of_both}
use Rattle.kmc_join.specs.Taking.{AreAbreast}
use Rattle.kmc_join.specs.Tally.{IsTallyCause}

-- so far lists were taken from the two sources, and the counts of their words are tallied
pub record IsTabulated (k cap : ℕ) (starts nows : List (Option (List ℕ))) (rooms : List Room) (heads : List Head) (steps : ℕ)
    (tally : BTreeMap (ℕ × ℕ) ℕ) : Type 0 where
  pub lists : List (List (List ℕ × ℕ))
  pub abreast : AreAbreast k starts nows rooms heads lists
  pub many : steps ≤ sum_by length lists
  pub words : List (List ℕ × ℕ × ℕ)
  pub beside : AreBeside (list_at lists 0) (list_at lists 1) words
  pub counts : (c : ℕ × ℕ) → number_of counts_cmp tally c ≡ number_of_both cap words c

-- the two sources gave dumps, and the counts of their words are tallied
pub record IsTableTally (cap : ℕ) (starts nows : List (Option (List ℕ))) (tally : BTreeMap (ℕ × ℕ) ℕ) : Type 0 where
  pub left : List (List ℕ × ℕ)
  pub right : List (List ℕ × ℕ)
  pub gave : GaveDumps starts nows left right
  pub words : List (List ℕ × ℕ × ℕ)
  pub beside : AreBeside left right words
  pub counts : (c : ℕ × ℕ) → number_of counts_cmp tally c ≡ number_of_both cap words c

-- why a table was given up: where the writer is at fault, a front of it is out, and else nothing was written
abbrev pub IsTableCause : {W : Type 0} → (W → Option (List ℕ)) → ℕ → List (Option (List ℕ)) → List (Option (List ℕ)) → List ℕ → List ℕ → Watched W
    → Watched W → SumError → Type 0
IsTableCause contents cap starts nows olds news writer written (Source e) = IsTallyCause starts nows olds news (Source e) × (written ≡ writer)
IsTableCause contents cap starts nows olds news writer written Write =
    RisesByOne writer.failures written.failures × IsTableBegun cap starts nows (contents writer.inner) (contents written.inner)
IsTableCause contents cap starts nows olds news writer written Memory = written ≡ writer
IsTableCause contents cap starts nows olds news writer written TooLong = IsTallyCause starts nows olds news TooLong × (written ≡ writer)

-- a table of two readers, which had these bytes at its start, into a writer, each before and after, by its answer
pub record IsTableAnswer {R W A : Type 0} (remaining : R → Option (List ℕ)) (contents : W → Option (List ℕ)) (cap : ℕ)
    (starts : List (Option (List ℕ))) (readers read : List (Watched R)) (writer written : Watched W) (answer : Result A SumError) : Type 0 where
  pub ok : OnOk answer (IsTableWritten cap starts (lefts_of remaining read) (contents writer.inner) (contents written.inner))
  pub sound : OnOk answer ((failures_of read ≡ failures_of readers) × (written.failures ≡ writer.failures))
  pub cause : IfErr answer (IsTableCause contents cap starts (lefts_of remaining read) (failures_of readers) (failures_of read) writer written)
