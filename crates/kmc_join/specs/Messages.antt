-- What a user is shown of a fault, and how the program ends.
use Rattle.std.specs.Prelude.{ℕ, Bool, true, false, List, ◌++◌, codes, decimal}
use Rattle.kmc_options.specs.Names.{name_of, usage_of}
use Rattle.kmc_options.specs.Words.{Word, name_at}
use Rattle.kmc_options.specs.declared.program.Program.TheVariants.{KmcDb}
use Rattle.kmc_sum.specs.Messages.{text_of_source_fault}
use Rattle.kmc_sum.specs.declared.error.SumError.TheVariants.{Source, Write, Memory, TooLong}
use Rattle.kmc_join.specs.declared.request.JoinRequestError.{JoinRequestError}
use Rattle.kmc_join.specs.declared.request.JoinRequestError.TheVariants.{Usage, OutOfRange}
use Rattle.kmc_join.specs.declared.request.JoinRequestError.TheVariants as request
use Rattle.kmc_join.specs.declared.fault.JoinFault.{JoinFault}
use Rattle.kmc_join.specs.declared.fault.JoinFault.TheVariants.{Request, NotOpened, Join, Query}
use Rattle.kmc_join.specs.declared.query_error.QueryError.{QueryError}
use Rattle.kmc_join.specs.declared.query_error.QueryError.TheVariants as query

abbrev pub text_of_request_error : JoinRequestError → List ℕ
text_of_request_error Usage = usage_of KmcDb
text_of_request_error (OutOfRange s) = codes "kmc_db: value of -" ++ name_of s ++ codes " is out of range"
text_of_request_error request.Memory = codes "kmc_db: out of memory"

-- the line that tells why a query was given up, by the name of the dump
abbrev pub query_message_of : Word → QueryError → List ℕ
query_message_of name query.ReadWords = codes "kmc_db: standard input: cannot be read"
query_message_of name (query.NoWord line) =
    codes "kmc_db: standard input: line " ++ decimal line ++ codes " is no word of 1 to 64 letters A, C, G and T"
query_message_of name (query.OtherLength line) =
    codes "kmc_db: standard input: line " ++ decimal line ++ codes " has a word that is not as long as those before it"
query_message_of name query.Unlike = codes "kmc_db: standard input: line 1 has a word that is not as long as those of " ++ name
query_message_of name (query.Dump fault) = codes "kmc_db: " ++ name ++ codes ": " ++ text_of_source_fault fault
query_message_of name query.Write = codes "kmc_db: cannot write"
query_message_of name query.Memory = codes "kmc_db: out of memory"
query_message_of name query.TooLong = codes "kmc_db: " ++ name ++ codes ": too many lines"

-- the line that tells of a fault: `kmc_db: b.dump: line 4 is no line of a dump`
abbrev pub message_of : List Word → JoinFault → List ℕ
message_of files (Request error) = text_of_request_error error
message_of files (NotOpened source) = codes "kmc_db: " ++ name_at files source ++ codes ": cannot be opened"
message_of files (Join (Source e)) = codes "kmc_db: " ++ name_at files e.source ++ codes ": " ++ text_of_source_fault e.fault
message_of files (Join Write) = codes "kmc_db: cannot write"
message_of files (Join Memory) = codes "kmc_db: out of memory"
message_of files (Join TooLong) = codes "kmc_db: too many lines"
message_of files (Query error) = query_message_of (name_at files 0) error

-- the command line is at fault; want of memory says nothing of it
abbrev pub is_misuse : JoinFault → Bool
is_misuse (Request Usage) = true
is_misuse (Request (OutOfRange s)) = true
is_misuse (Request request.Memory) = false
is_misuse (NotOpened source) = false
is_misuse (Join error) = false
is_misuse (Query error) = false

-- a write of the answer failed
abbrev pub is_unwritten : JoinFault → Bool
is_unwritten (Request error) = false
is_unwritten (NotOpened source) = false
is_unwritten (Join (Source e)) = false
is_unwritten (Join Write) = true
is_unwritten (Join Memory) = false
is_unwritten (Join TooLong) = false
is_unwritten (Query query.ReadWords) = false
is_unwritten (Query (query.NoWord line)) = false
is_unwritten (Query (query.OtherLength line)) = false
is_unwritten (Query query.Unlike) = false
is_unwritten (Query (query.Dump fault)) = false
is_unwritten (Query query.Write) = true
is_unwritten (Query query.Memory) = false
is_unwritten (Query query.TooLong) = false
