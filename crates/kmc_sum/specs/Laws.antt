-- Laws of sums of dumps.
use Rattle.std.specs.Prelude.{◌≡◌, ℕ, ◌+◌, ◌≤◌, ◌^◌, List, ◌++◌, length}
use Rattle.std.specs.List.{AllZip}
use Rattle.kmc_base.specs.declared.strands.Strands.{Strands}
use Rattle.kmc_count.specs.declared.limits.Limits.{Limits}
use Rattle.kmc_count.specs.Occurrences.{count_of}
use Rattle.kmc_count.specs.Dump.{IsDump}
use Rattle.kmc_count.specs.Merge.{joined}
use Rattle.kmc_lists.specs.Line.{line_of, text_of}
use Rattle.kmc_sum.specs.Listed.{IsLength, IsPair, Lists, IsMerge}
use Rattle.kmc_sum.specs.Numbers.{longest_line}
use Rattle.kmc_sum.specs.Sum.{sum_of}

-- the direct count of reads and then others is, word by word, the sum of their direct counts
abbrev pub CountsAdd : Type 0
CountsAdd = (strands : Strands) (k : ℕ) (reads others : List (List ℕ)) (x : List ℕ)
    → count_of strands k (reads ++ others) x ≡ count_of strands k reads x + count_of strands k others x

-- limits within which each count up to 2^63 is listed as it is
pub record ListsEach (l : Limits) : Type 0 where
  pub ci : l.ci ≤ 1
  pub cx : l.cx ≡ 2 ^ 63
  pub cs : l.cs ≡ 2 ^ 63

-- a dump of each part of the reads, as many as there are parts
abbrev pub AreDumpsOfParts : Strands → ℕ → Limits → List (List (List ℕ)) → List (List (List ℕ × ℕ)) → Type 0
AreDumpsOfParts strands k l parts lists = AllZip (λ reads pairs. IsDump (count_of strands k reads) l pairs) parts lists

-- dumps of the parts of reads, each count listed, are summed to the dump of all of the reads, where no word occurs more than 2^63 times
abbrev pub SumOfPartsIsWhole : Type 0
SumOfPartsIsWhole = (strands : Strands) (k : ℕ) (every l : Limits) (parts : List (List (List ℕ))) (lists : List (List (List ℕ × ℕ))) (pairs : List (List ℕ × ℕ))
    → ListsEach every → AreDumpsOfParts strands k every parts lists → ((x : List ℕ) → count_of strands k (joined parts) x ≤ 2 ^ 63)
    → IsDump (sum_of lists) l pairs → IsDump (count_of strands k (joined parts)) l pairs

-- each line of a dump, of a word of 1 to 64 letters and a number from 1 to 2^64 - 1, has at most the bytes that are looked at
abbrev pub LinesFit : Type 0
LinesFit = (k : ℕ) (p : List ℕ × ℕ) → IsLength k → IsPair k p → length (line_of p) ≤ longest_line

-- a text lists one list of pairs, of whatever length its words are taken to be
abbrev pub TextListsOne : Type 0
TextListsOne = (k n : ℕ) (text : List ℕ) (pairs others : List (List ℕ × ℕ)) → Lists k text pairs → Lists n text others → pairs ≡ others

-- the text of the dump of the direct count of reads within limits, as a run writes it
pub record IsDumpText (strands : Strands) (k : ℕ) (l : Limits) (reads : List (List ℕ)) (text : List ℕ) : Type 0 where
  pub pairs : List (List ℕ × ℕ)
  pub dump : IsDump (count_of strands k reads) l pairs
  pub is : text ≡ text_of pairs

-- such a text of each part of the reads, as many as there are parts
abbrev pub AreDumpTexts : Strands → ℕ → Limits → List (List (List ℕ)) → List (List ℕ) → Type 0
AreDumpTexts strands k l parts texts = AllZip (IsDumpText strands k l) parts texts

-- texts of dumps of the parts of reads, each count listed, are merged to the one text of the dump of all of the reads, where no word
-- occurs more than 2^63 times
abbrev pub MergedTextsAreWhole : Type 0
MergedTextsAreWhole = (strands : Strands) (k : ℕ) (every l : Limits) (parts : List (List (List ℕ))) (texts : List (List ℕ)) (pairs : List (List ℕ × ℕ))
    → ListsEach every → AreDumpTexts strands k every parts texts → ((x : List ℕ) → count_of strands k (joined parts) x ≤ 2 ^ 63) → IsMerge l texts pairs
    → IsDumpText strands k l (joined parts) (text_of pairs) × ((text : List ℕ) → IsDumpText strands k l (joined parts) text → text ≡ text_of pairs)
