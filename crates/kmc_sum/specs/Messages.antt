-- What a user is shown of a fault, and how the program ends.
use Rattle.std.specs.Prelude.{ℕ, Bool, true, false, List, ◌++◌, codes, decimal}
use Rattle.kmc_options.specs.Names.{name_of, usage_of}
use Rattle.kmc_options.specs.Words.{Word, name_at}
use Rattle.kmc_options.specs.declared.program.Program.TheVariants.{KmcMerge}
use Rattle.kmc_sum.specs.declared.error.LineFault.{LineFault}
use Rattle.kmc_sum.specs.declared.error.LineFault.TheVariants.{Malformed, OtherLength, NotRising}
use Rattle.kmc_sum.specs.declared.error.SourceFault.{SourceFault}
use Rattle.kmc_sum.specs.declared.error.SourceFault.TheVariants.{Line, Read}
use Rattle.kmc_sum.specs.declared.error.SumError.TheVariants.{Source, Write, Memory, TooLong}
use Rattle.kmc_sum.specs.declared.request.RequestError.{RequestError}
use Rattle.kmc_sum.specs.declared.request.RequestError.TheVariants.{Usage, OutOfRange}
use Rattle.kmc_sum.specs.declared.request.RequestError.TheVariants as request
use Rattle.kmc_sum.specs.declared.fault.Fault.{Fault}
use Rattle.kmc_sum.specs.declared.fault.Fault.TheVariants.{Request, NotOpened, Sum}

abbrev pub text_of_line_fault : LineFault → List ℕ
text_of_line_fault Malformed = codes "is no line of a dump"
text_of_line_fault OtherLength = codes "has a word of another length"
text_of_line_fault NotRising = codes "has a word that is not above the one before"

abbrev pub text_of_source_fault : SourceFault → List ℕ
text_of_source_fault Read = codes "cannot be read"
text_of_source_fault (Line line fault) = codes "line " ++ decimal line ++ codes " " ++ text_of_line_fault fault

abbrev pub text_of_request_error : RequestError → List ℕ
text_of_request_error Usage = usage_of KmcMerge
text_of_request_error (OutOfRange s) = codes "kmc_merge: value of -" ++ name_of s ++ codes " is out of range"
text_of_request_error request.Memory = codes "kmc_merge: out of memory"

-- the line that tells of a fault: `kmc_merge: b.dump: line 4 is no line of a dump`
abbrev pub message_of : List Word → Fault → List ℕ
message_of files (Request error) = text_of_request_error error
message_of files (NotOpened source) = codes "kmc_merge: " ++ name_at files source ++ codes ": cannot be opened"
message_of files (Sum (Source e)) = codes "kmc_merge: " ++ name_at files e.source ++ codes ": " ++ text_of_source_fault e.fault
message_of files (Sum Write) = codes "kmc_merge: cannot write"
message_of files (Sum Memory) = codes "kmc_merge: out of memory"
message_of files (Sum TooLong) = codes "kmc_merge: too many lines"

-- the command line is at fault; want of memory says nothing of it
abbrev pub is_misuse : Fault → Bool
is_misuse (Request Usage) = true
is_misuse (Request (OutOfRange s)) = true
is_misuse (Request request.Memory) = false
is_misuse (NotOpened source) = false
is_misuse (Sum error) = false

-- a write of the dump failed
abbrev pub is_unwritten : Fault → Bool
is_unwritten (Request error) = false
is_unwritten (NotOpened source) = false
is_unwritten (Sum (Source e)) = false
is_unwritten (Sum Write) = true
is_unwritten (Sum Memory) = false
is_unwritten (Sum TooLong) = false
