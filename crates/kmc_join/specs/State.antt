-- The state of a join.
use Rattle.std.specs.Prelude.{◌≡◌, ◌≤◌, ℕ, List, length, Option}
use Rattle.std.specs.Io.KnownBytes.{Appends}
use Rattle.std.specs.List.{sum_by}
use Rattle.kmc_count.specs.declared.limits.Limits.{Limits}
use Rattle.kmc_count.specs.Dump.{IsDump}
use Rattle.kmc_device.specs.Device.{AppendsFront, GaveAll, WritesOut}
use Rattle.kmc_lists.specs.Line.{text_of}
use Rattle.kmc_sum.specs.Sources.{GaveFronts, left_at, list_at}
use Rattle.kmc_sum.specs.declared.heads.Head.{Head}
use Rattle.kmc_sum.specs.declared.source.Room.{Room}
use Rattle.kmc_join.specs.Join.{IsJoin, joined}
use Rattle.kmc_join.specs.Taking.{AreAbreast}
use Rattle.kmc_join.specs.declared.rule.JoinRule.{JoinRule}

-- the number of a word by what was taken from the first two sources
abbrev pub joined_of : JoinRule → List (List (List ℕ × ℕ)) → List ℕ → ℕ
joined_of rule lists = joined rule (list_at lists 0) (list_at lists 1)

-- so far lists were taken from the two sources, and the dump of their join went out or is gathered
pub record IsSoFar (k : ℕ) (rule : JoinRule) (l : Limits) (starts nows : List (Option (List ℕ))) (rooms : List Room) (heads : List Head)
    (steps lines : ℕ) (old new : Option (List ℕ)) (gathered : List ℕ) : Type 0 where
  pub lists : List (List (List ℕ × ℕ))
  pub abreast : AreAbreast k starts nows rooms heads lists
  pub many : steps ≤ sum_by length lists
  pub pairs : List (List ℕ × ℕ)
  pub dump : IsDump (joined_of rule lists) l pairs
  pub out : WritesOut old new (text_of pairs) gathered
  pub count : lines ≡ length pairs

-- each reader gave the lines of its list first, and a front of the dump of the join of the lists was written
pub record IsBegun (k : ℕ) (rule : JoinRule) (l : Limits) (starts nows : List (Option (List ℕ))) (old new : Option (List ℕ)) : Type 0 where
  pub lists : List (List (List ℕ × ℕ))
  pub gave : GaveFronts k starts nows lists
  pub pairs : List (List ℕ × ℕ)
  pub dump : IsDump (joined_of rule lists) l pairs
  pub text : AppendsFront old new (text_of pairs)

-- what each of the two readers gave is the text of a dump, and the dump of their join was written
pub record IsJoinWritten (rule : JoinRule) (l : Limits) (starts nows : List (Option (List ℕ))) (lines : ℕ) (old new : Option (List ℕ)) : Type 0 where
  pub first : List ℕ
  pub second : List ℕ
  pub first_gave : GaveAll (left_at starts 0) (left_at nows 0) first
  pub second_gave : GaveAll (left_at starts 1) (left_at nows 1) second
  pub pairs : List (List ℕ × ℕ)
  pub join : IsJoin rule l first second pairs
  pub text : Appends old new (text_of pairs)
  pub count : lines ≡ length pairs
