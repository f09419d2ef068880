-- Many sources side by side, and what each gave so far.
use Rattle.std.specs.Prelude.{◌≡◌, ℕ, ◌+◌, ◌*◌, ◌-◌, ◌<◌, ◌≤◌, ◌^◌, ◌⊎◌, min, map, true, false, List, [], ◌++◌, length, slice_index_or, slice_set, Option, None}
use Rattle.std.specs.Io.KnownBytes.{IsAtEnd}
use Rattle.kmc_device.specs.Device.{Watched}
use Rattle.kmc_sum.specs.Heads.{head_at, pending}
use Rattle.kmc_sum.specs.Source.{unread, IsRoom}
use Rattle.kmc_sum.specs.Faults.{GaveFront}
use Rattle.kmc_sum.specs.declared.heads.Head.{Head}
use Rattle.kmc_sum.specs.declared.source.Room.{Room}

-- what each reader has left, where that is known
abbrev pub lefts_of : {R : Type 0} → (R → Option (List ℕ)) → List (Watched R) → List (Option (List ℕ))
lefts_of remaining readers = map (λ r. remaining r.inner) readers

-- how many calls of each reader failed
abbrev pub failures_of : {R : Type 0} → List (Watched R) → List ℕ
failures_of readers = map (λ r. r.failures) readers

-- the pairs that were taken from one of the sources
abbrev pub list_at : List (List (List ℕ × ℕ)) → ℕ → List (List ℕ × ℕ)
list_at lists i = slice_index_or lists i []

-- what a reader has left, where that is known
abbrev pub left_at : List (Option (List ℕ)) → ℕ → Option (List ℕ)
left_at lefts i = slice_index_or lefts i None

-- a source gave the lines of the pairs that were taken and that of its head
pub record IsSource (k : ℕ) (start now : Option (List ℕ)) (room : Room) (head : Head) (taken : List (List ℕ × ℕ)) : Type 0 where
  pub gave : GaveFront k start now (taken ++ pending k head) (unread room)
  pub lines : room.lines ≡ min (length (taken ++ pending k head)) (2 ^ 64 - 1)
  pub fits : head.live ≡ true → head.packed < 4 ^ k
  pub most : head.count < 2 ^ 64
  pub ended : head.live ≡ false → (unread room ≡ []) × IsAtEnd now

-- so many rooms and, as the last ones of a tree, the heads of so many sources, whose words have k codes
pub record AreReady (k n : ℕ) (rooms : List Room) (heads : List Head) : Type 0 where
  pub rooms_long : length rooms ≡ n
  pub heads_long : length heads ≡ 2 * n
  pub rooms_are : (i : ℕ) (room : Room) → i < n → IsRoom (slice_index_or rooms i room)
  pub source : (i : ℕ) → i < n → (head_at heads (n + i)).source ≡ i
  pub fits : (i : ℕ) → i < n → (head_at heads (n + i)).packed < 4 ^ k

-- each of the sources gave what was taken from it, and its head
pub record AreSources (k : ℕ) (starts nows : List (Option (List ℕ))) (rooms : List Room) (heads : List Head) (lists : List (List (List ℕ × ℕ))) : Type 0 where
  pub nows_long : length nows ≡ length starts
  pub lists_long : length lists ≡ length starts
  pub each : (i : ℕ) (room : Room) → i < length starts
      → IsSource k (left_at starts i) (left_at nows i) (slice_index_or rooms i room) (head_at heads (length starts + i)) (list_at lists i)

-- the pair of the first head is taken from its source
abbrev pub with_first : ℕ → List Head → List (List (List ℕ × ℕ)) → List (List (List ℕ × ℕ))
with_first k heads lists = let i = (head_at heads 1).source in slice_set lists i (list_at lists i ++ pending k (head_at heads 1))

-- each reader gave the lines of these pairs first
pub record GaveFronts (k : ℕ) (starts nows : List (Option (List ℕ))) (lists : List (List (List ℕ × ℕ))) : Type 0 where
  pub lists_long : length lists ≡ length starts
  pub each : (i : ℕ) → i < length starts → (rest : List ℕ) × GaveFront k (left_at starts i) (left_at nows i) (list_at lists i) rest

-- a length of words that is not yet known, 0, agrees with each
abbrev pub Agrees : ℕ → ℕ → Type 0
Agrees k m = (k ≡ 0) ⊎ (k ≡ m)

-- a room from which nothing was taken
pub record IsFresh (room : Room) : Type 0 where
  pub is : IsRoom room
  pub none : unread room ≡ []
  pub lines : room.lines ≡ 0

-- no pair of each source
abbrev pub no_lists : List (Option (List ℕ)) → List (List (List ℕ × ℕ))
no_lists starts = map (λ _. []) starts

-- the sources before this one have given their first lines, and the others nothing
pub record AreOpened (k n i : ℕ) (starts nows : List (Option (List ℕ))) (rooms : List Room) (heads : List Head) : Type 0 where
  pub starts_long : length starts ≡ n
  pub nows_long : length nows ≡ n
  pub rooms_long : length rooms ≡ n
  pub heads_long : length heads ≡ 2 * n
  pub source : (j : ℕ) → j < i → (head_at heads (n + j)).source ≡ j
  pub fits : (m j : ℕ) → Agrees k m → j < i → (head_at heads (n + j)).packed < 4 ^ m
  pub opened : (m j : ℕ) (room : Room) → Agrees k m → j < i
      → IsRoom (slice_index_or rooms j room) × IsSource m (left_at starts j) (left_at nows j) (slice_index_or rooms j room) (head_at heads (n + j)) []
  pub fresh : (j : ℕ) (room : Room) → i ≤ j → j < n → IsFresh (slice_index_or rooms j room) × (left_at nows j ≡ left_at starts j)
