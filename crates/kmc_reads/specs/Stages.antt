-- What each line of a text does, by the lines before it: the reads that it ends, its fault, and what the next line is.
use Rattle.std.specs.Prelude.{ℕ, ◌==◌, if◌then◌else◌, nat_eq, List, [], ◌∷◌, ◌++◌, length, Option, Some, None, Ok, Err}
use Rattle.kmc_reads.specs.declared.error.ReadsError.{ReadsError}
use Rattle.kmc_reads.specs.declared.error.ReadsError.TheVariants.{BadHeader, BadPlus, QualityLength, Truncated}
use Rattle.kmc_reads.specs.declared.format.Format.{Format}
use Rattle.kmc_reads.specs.declared.format.Format.TheVariants.{Fasta, Fastq}
use Rattle.kmc_reads.specs.declared.line_kind.LineKind.{LineKind}
use Rattle.kmc_reads.specs.declared.line_kind.LineKind.TheVariants.{Header, Sequence, Plus, Quality, FirstHeader, Body, Name, Rest}
use Rattle.kmc_reads.specs.Fastq.{at_sign, plus_sign}
use Rattle.kmc_reads.specs.Fasta.{is_header}
use Rattle.kmc_reads.specs.Answer.{Answer, with_reads}
use Rattle.kmc_reads.specs.Lines.{line_past}
use Rattle.kmc_reads.specs.OpenLines.{whole_lines, open_line}

-- the number of the next line, what it may be, and the symbols of the open read so far
pub record Spot : Type 0 where
  pub number : ℕ
  pub stage : LineKind
  pub read : List ℕ

abbrev pub first_stage : Format → LineKind
first_stage Fasta = FirstHeader
first_stage Fastq = Header

abbrev pub first_spot : Format → Spot
first_spot format = record { number = 1; stage = first_stage format; read = [] }

-- the fault of a line
abbrev pub fault_of : ℕ → LineKind → List ℕ → List ℕ → Option ReadsError
fault_of n Header read [] = None
fault_of n Header read (c ∷ line) = if c == at_sign then None else Some (BadHeader n)
fault_of n Sequence read line = None
fault_of n Plus read [] = Some (BadPlus n)
fault_of n Plus read (c ∷ line) = if c == plus_sign then None else Some (BadPlus n)
fault_of n Quality read line = if nat_eq (length line) (length read) then None else Some (QualityLength n)
fault_of n FirstHeader read [] = None
fault_of n FirstHeader read (c ∷ line) = if is_header (c ∷ line) then None else Some (BadHeader n)
fault_of n Body read line = None
fault_of n Name read line = None
fault_of n Rest read line = None

-- what comes after a line: blank ones may stand where a header may
abbrev pub stage_past : LineKind → List ℕ → LineKind
stage_past Header [] = Header
stage_past Header (c ∷ line) = Sequence
stage_past Sequence line = Plus
stage_past Plus line = Quality
stage_past Quality line = Header
stage_past FirstHeader [] = FirstHeader
stage_past FirstHeader (c ∷ line) = Body
stage_past Body line = Body
stage_past Name line = Body
stage_past Rest line = Body

-- the open read after a line
abbrev pub read_past : LineKind → List ℕ → List ℕ → List ℕ
read_past Header read line = read
read_past Sequence read line = read ++ line
read_past Plus read line = read
read_past Quality read line = []
read_past FirstHeader read line = read
read_past Body read line = if is_header line then [] else read ++ line
read_past Name read line = read
read_past Rest read line = read ++ line

abbrev pub past : Spot → List ℕ → Spot
past s line = record { number = line_past s.number 1; stage = stage_past s.stage line; read = read_past s.stage s.read line }

-- the open line ends the read as soon as it is seen to be the next header
abbrev pub begun_by : LineKind → List ℕ → List ℕ → List (List ℕ)
begun_by Header read front = []
begun_by Sequence read front = []
begun_by Plus read front = []
begun_by Quality read front = []
begun_by FirstHeader read front = []
begun_by Body read front = if is_header front then read ∷ [] else []
begun_by Name read front = []
begun_by Rest read front = []

-- a whole line ends it where it is the next header, or the quality line
abbrev pub given_by : LineKind → List ℕ → List ℕ → List (List ℕ)
given_by Header read line = []
given_by Sequence read line = []
given_by Plus read line = []
given_by Quality read line = read ∷ []
given_by FirstHeader read line = []
given_by Body read line = begun_by Body read line
given_by Name read line = []
given_by Rest read line = []

abbrev pub or_else : Option ReadsError → Option ReadsError → Option ReadsError
or_else None other = other
or_else (Some e) other = Some e

abbrev pub unless : Option ReadsError → List (List ℕ) → List (List ℕ)
unless None reads = reads
unless (Some e) reads = []

-- the first fault of these lines
abbrev pub fault_from : Spot → List (List ℕ) → Option ReadsError
fault_from s [] = None
fault_from s (l ∷ ls) = or_else (fault_of s.number s.stage s.read l) (fault_from (past s l) ls)

-- the reads that these lines, and then the open one, end before the first fault
abbrev pub ended_from : Spot → List (List ℕ) → List ℕ → List (List ℕ)
ended_from s [] front = begun_by s.stage s.read front
ended_from s (l ∷ ls) front = unless (fault_of s.number s.stage s.read l) (given_by s.stage s.read l ++ ended_from (past s l) ls front)

-- the refusal of the first faulty line of a text, among the lines that have their line feed
abbrev pub fault : Format → List ℕ → Option ReadsError
fault format text = fault_from (first_spot format) (whole_lines text)

-- the reads that stand before that fault and that no further byte changes: in FASTQ those whose quality line has its line feed,
-- in FASTA those after which the first byte of the next header has come
abbrev pub ended : Format → List ℕ → List (List ℕ)
ended format text = ended_from (first_spot format) (whole_lines text) (open_line text)

-- no line is left
abbrev pub answer_at_end : ℕ → LineKind → List ℕ → Answer
answer_at_end n Header read = Ok []
answer_at_end n Sequence read = Err (Truncated n)
answer_at_end n Plus read = Err (Truncated n)
answer_at_end n Quality read = Err (Truncated n)
answer_at_end n FirstHeader read = Ok []
answer_at_end n Body read = Ok (read ∷ [])
answer_at_end n Name read = Ok (read ∷ [])
answer_at_end n Rest read = Ok (read ∷ [])

abbrev pub answer_past : Option ReadsError → List (List ℕ) → Answer → Answer
answer_past None given rest = with_reads given rest
answer_past (Some e) given rest = Err e

-- what these lines, the last of the text, give
abbrev pub reads_from : Spot → List (List ℕ) → Answer
reads_from s [] = answer_at_end s.number s.stage s.read
reads_from s (l ∷ ls) = answer_past (fault_of s.number s.stage s.read l) (given_by s.stage s.read l) (reads_from (past s l) ls)
