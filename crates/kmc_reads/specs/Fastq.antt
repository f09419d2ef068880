-- The reads of a FASTQ text, by cases on its lines. A record has four lines, which are judged in order:
-- a header, a sequence, a plus line and a quality line. Blank lines are passed over where a header may stand.
use Rattle.std.specs.Prelude.{ℕ, ◌==◌, if◌then◌else◌, nat_eq, List, [], ◌∷◌, length, Ok, Err}
use Rattle.kmc_reads.specs.declared.error.ReadsError.TheVariants.{BadHeader, BadPlus, QualityLength, Truncated}
use Rattle.kmc_reads.specs.Answer.{Answer, with_reads}
use Rattle.kmc_reads.specs.Lines.{line_past}

abbrev pub at_sign : ℕ
at_sign = 64

abbrev pub plus_sign : ℕ
plus_sign = 43

-- a header, line n, that begins with this byte: it must be @
abbrev pub header_then : ℕ → ℕ → Answer → Answer
header_then n first rest = if first == at_sign then rest else Err (BadHeader n)

-- a plus line, line n: it must begin with +, and what follows is not looked at
abbrev pub plus_then : ℕ → List ℕ → Answer → Answer
plus_then n [] rest = Err (BadPlus n)
plus_then n (first ∷ line) rest = if first == plus_sign then rest else Err (BadPlus n)

-- a quality line, line n: it must be as long as the sequence
abbrev pub quality_then : ℕ → List ℕ → List ℕ → Answer → Answer
quality_then n sequence line rest = if nat_eq (length line) (length sequence) then rest else Err (QualityLength n)

-- the reads of the lines from line n on: of no line none; a record that has its four lines gives its sequence,
-- and one whose lines end too soon is refused at the first line that is not there, if no line that is there is faulty
abbrev pub fastq_reads : ℕ → List (List ℕ) → Answer
fastq_reads n [] = Ok []
fastq_reads n ([] ∷ ls) = fastq_reads (line_past n 1) ls
fastq_reads n ((c ∷ h) ∷ []) = header_then n c (Err (Truncated (line_past n 1)))
fastq_reads n ((c ∷ h) ∷ s ∷ []) = header_then n c (Err (Truncated (line_past n 2)))
fastq_reads n ((c ∷ h) ∷ s ∷ p ∷ []) = header_then n c (plus_then (line_past n 2) p (Err (Truncated (line_past n 3))))
fastq_reads n ((c ∷ h) ∷ s ∷ p ∷ q ∷ ls) =
    header_then n c (plus_then (line_past n 2) p (quality_then (line_past n 3) s q (with_reads (s ∷ []) (fastq_reads (line_past n 4) ls))))
