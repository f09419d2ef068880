-- The state of a merge.
use Rattle.std.specs.Prelude.{◌≡◌, ℕ, ◌<◌, List, [], length, slice_index_or, Option}
use Rattle.kmc_count.specs.declared.limits.Limits.{Limits}
use Rattle.kmc_device.specs.Device.{AppendsFront, GaveAll, WritesOut}
use Rattle.kmc_count.specs.Dump.{IsDump}
use Rattle.kmc_lists.specs.Line.{text_of}
use Rattle.std.specs.Io.KnownBytes.{Appends}
use Rattle.kmc_sum.specs.Sum.{sum_of}
use Rattle.kmc_sum.specs.Listed.{IsMerge}
use Rattle.kmc_sum.specs.Tally.{Tallied}
use Rattle.kmc_sum.specs.Sources.{AreSources, GaveFronts, left_at}
use Rattle.kmc_sum.specs.declared.heads.Head.{Head}
use Rattle.kmc_sum.specs.declared.source.Room.{Room}

-- so far lists were taken from the sources, and the dump of their sum but for the open word went out or is gathered
pub record IsSoFar (k : ℕ) (l : Limits) (starts nows : List (Option (List ℕ))) (rooms : List Room) (heads : List Head) (x : List ℕ) (n lines : ℕ)
    (old new : Option (List ℕ)) (gathered : List ℕ) : Type 0 where
  pub lists : List (List (List ℕ × ℕ))
  pub sources : AreSources k starts nows rooms heads lists
  pub pairs : List (List ℕ × ℕ)
  pub tallied : Tallied l (sum_of lists) x n pairs
  pub out : WritesOut old new (text_of pairs) gathered
  pub count : lines ≡ length pairs

-- each reader gave the lines of its list first, and a front of the dump of the sum of the lists was written
pub record IsBegun (k : ℕ) (l : Limits) (starts nows : List (Option (List ℕ))) (old new : Option (List ℕ)) : Type 0 where
  pub lists : List (List (List ℕ × ℕ))
  pub gave : GaveFronts k starts nows lists
  pub pairs : List (List ℕ × ℕ)
  pub dump : IsDump (sum_of lists) l pairs
  pub text : AppendsFront old new (text_of pairs)

-- what each reader gave is the text of a dump, and the dump of their sum was written
pub record IsSumWritten (l : Limits) (starts nows : List (Option (List ℕ))) (lines : ℕ) (old new : Option (List ℕ)) : Type 0 where
  pub texts : List (List ℕ)
  pub texts_long : length texts ≡ length starts
  pub gave : (i : ℕ) → i < length starts → GaveAll (left_at starts i) (left_at nows i) (slice_index_or texts i [])
  pub pairs : List (List ℕ × ℕ)
  pub merge : IsMerge l texts pairs
  pub text : Appends old new (text_of pairs)
  pub count : lines ≡ length pairs
