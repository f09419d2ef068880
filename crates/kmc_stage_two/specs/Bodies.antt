-- The packed lists of bodies of records.
use Rattle.std.specs.Prelude.{◌≡◌, ℕ, ◌<◌, ◌⊎◌, List, Option, [], length, get_or, map, take, slice_index_or}
use Rattle.std.specs.List.{All}
use Rattle.kmc_base.specs.declared.strands.Strands.{Strands}
use Rattle.kmc_count.specs.declared.limits.Limits.{Limits}
use Rattle.kmc_count.specs.Asked.{asked_behind, IsOfBin}
use Rattle.kmc_count.specs.declared.judging.AskedBin.{AskedBin}
use Rattle.kmc_count.specs.Bodies.{AreDumpsOfBodies, IsDumpOfBody, IsWhole, WantsMemory}
use Rattle.kmc_lists.specs.Listed.{Listed, pairs_of, IsListOf}

-- as many lists as bodies, each of words of k codes, and the dump of the body at its place
pub record AreListsOfBodies (strands : Strands) (k : ℕ) (l : Limits) (bodies : List (List ℕ)) (lists : List Listed) : Type 0 where
  pub each : All (IsListOf k) lists
  pub dumps : AreDumpsOfBodies strands k l bodies (map pairs_of lists)

-- the list is the dump of the body at this place, whose words belong to the bin that is asked for there
pub record IsListAt (strands : Strands) (k : ℕ) (l : Limits) (asked : Option AskedBin) (bodies : List (List ℕ)) (place : ℕ) (list : Listed) : Type 0 where
  pub inside : place < length bodies
  pub is : IsListOf k list
  pub dump : IsDumpOfBody strands k l (get_or bodies place []) (pairs_of list)
  pub judged : IsOfBin (asked_behind place asked) (get_or bodies place [])

-- what is left of bodies that were to be counted: each is as it was, or it is of the bin that is asked for and its records were freed
pub record AreLeft (asked : Option AskedBin) (old new : List (List ℕ)) : Type 0 where
  pub wide : length new ≡ length old
  pub each : (i : ℕ) → i < length old
      → (get_or new i [] ≡ get_or old i []) ⊎ ((get_or new i [] ≡ []) × IsOfBin (asked_behind i asked) (get_or old i []))

-- where a count of bodies wants memory no fault was met: the bodies before this one are whole, and it has whole records up to one more, or is whole
pub record BodiesWantMemory (k : ℕ) (bodies : List (List ℕ)) : Type 0 where
  pub number : ℕ
  pub inside : number < length bodies
  pub before : All (IsWhole k) (take number bodies)
  pub here : WantsMemory k (slice_index_or bodies number [])
