-- Two sources word by word: what was taken from each, and the least word that either has next.
use Rattle.std.specs.Prelude.{◌≡◌, ℕ, ◌+◌, ◌<◌, ◌≤◌, true, cond, List, slice_index_or, Option}
use Rattle.std.specs.List.{sum_by}
use Rattle.std.specs.Prelude.{length}
use Rattle.std.specs.declared.cmp.Ordering.TheVariants.{Less}
use Rattle.kmc_base.specs.Packed.{unpack}
use Rattle.kmc_base.specs.Words.{kmer_cmp}
use Rattle.kmc_count.specs.Occurrences.{same_word}
use Rattle.kmc_sum.specs.Heads.{head_at}
use Rattle.kmc_sum.specs.Sources.{AreSources, list_at}
use Rattle.kmc_sum.specs.Sum.{listed_count}
use Rattle.kmc_sum.specs.declared.heads.Head.{Head}
use Rattle.kmc_sum.specs.declared.source.Room.{Room}
use Rattle.kmc_join.specs.declared.taking.CountedWord.{CountedWord}

-- the word x is above each word of the two lists
abbrev pub IsAbove : List ℕ → List (List (List ℕ × ℕ)) → Type 0
IsAbove x lists = (i : ℕ) (y : List ℕ) → i < 2 → 1 ≤ listed_count (list_at lists i) y → kmer_cmp y x ≡ Less

-- the two sources gave these lists, and the next word of either is above them
pub record AreAbreast (k : ℕ) (starts nows : List (Option (List ℕ))) (rooms : List Room) (heads : List Head) (lists : List (List (List ℕ × ℕ))) : Type 0 where
  pub sources : AreSources k starts nows rooms heads lists
  pub above : (head_at heads 1).live ≡ true → IsAbove (unpack k (head_at heads 1).packed) lists

-- the count of the word in the first source, where i is 0, or in the second
abbrev pub count_in : CountedWord → ℕ → ℕ
count_in w i = slice_index_or w.counts i 0

-- the word, which is above the lists, was taken from each source that has it next: the lists have it now with its counts
pub record IsTaken (k : ℕ) (starts nows : List (Option (List ℕ))) (rooms : List Room) (heads : List Head) (lists : List (List (List ℕ × ℕ)))
    (w : CountedWord) : Type 0 where
  pub after : List (List (List ℕ × ℕ))
  pub abreast : AreAbreast k starts nows rooms heads after
  pub above : IsAbove (unpack k w.packed) lists
  pub counts : (i : ℕ) (y : List ℕ) → i < 2
      → listed_count (list_at after i) y ≡ listed_count (list_at lists i) y + cond (same_word (unpack k w.packed) y) (count_in w i) 0
  pub some : 1 ≤ count_in w 0 + count_in w 1
  pub more : sum_by length lists + 1 ≤ sum_by length after
