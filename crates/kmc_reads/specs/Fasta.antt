-- The reads of a FASTA text, by cases on its lines.
use Rattle.std.specs.Prelude.{ℕ, ◌==◌, Bool, false, if◌then◌else◌, List, [], ◌∷◌, ◌++◌, Ok, Err}
use Rattle.kmc_reads.specs.declared.error.ReadsError.TheVariants.{BadHeader}
use Rattle.kmc_reads.specs.Answer.{Answer}
use Rattle.kmc_reads.specs.Lines.{line_past}

abbrev pub greater_sign : ℕ
greater_sign = 62

-- whether a line is a header: it begins with >
abbrev pub is_header : List ℕ → Bool
is_header [] = false
is_header (first ∷ line) = first == greater_sign

-- a line more at the front of the first read
abbrev pub onto_read : List ℕ → List (List ℕ) → List (List ℕ)
onto_read line [] = line ∷ []
onto_read line (read ∷ reads) = (line ++ read) ∷ reads

-- the read of a header and those after it, from the lines after that header:
-- each header begins a read, and any other line is a part of the read that it stands in
abbrev pub reads_after : List (List ℕ) → List (List ℕ)
reads_after [] = [] ∷ []
reads_after (l ∷ ls) = if is_header l then [] ∷ reads_after ls else onto_read l (reads_after ls)

-- the reads of the lines from line n on: blank lines are passed over, and then a header must come
abbrev pub fasta_reads : ℕ → List (List ℕ) → Answer
fasta_reads n [] = Ok []
fasta_reads n ([] ∷ ls) = fasta_reads (line_past n 1) ls
fasta_reads n ((c ∷ line) ∷ ls) = if is_header (c ∷ line) then Ok (reads_after ls) else Err (BadHeader n)
