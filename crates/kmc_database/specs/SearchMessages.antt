-- What a user is shown where words are not looked up in a database.
use Rattle.std.specs.Prelude.{ℕ, Bool, true, false, List, ◌++◌, codes, decimal}
use Rattle.kmc_join.specs.Messages.{query_message_of}
use Rattle.kmc_join.specs.declared.query_error.QueryError.TheVariants as query_error
use Rattle.kmc_database.specs.Messages.{text_of_form_fault}
use Rattle.kmc_database.specs.declared.look_up_error.LookUpError.{LookUpError}
use Rattle.kmc_database.specs.declared.look_up_error.LookUpError.TheVariants as look_up
use Rattle.kmc_database.specs.declared.open_error.OpenError.{OpenError}
use Rattle.kmc_database.specs.declared.open_error.OpenError.TheVariants as open_error
use Rattle.kmc_database.specs.declared.search_error.SearchError.{SearchError}
use Rattle.kmc_database.specs.declared.search_error.SearchError.TheVariants.{Open, OneStrand, Words, OtherLength, LookUp, Write}

abbrev pub text_of_open_error : OpenError → List ℕ
text_of_open_error (open_error.Form fault) = text_of_form_fault fault
text_of_open_error open_error.PrefixLength = codes "the prefix file is not as long as its header asks for"
text_of_open_error open_error.Strands = codes "the header tells of strands that are unknown"
text_of_open_error open_error.PrefixMarker = codes "the prefix file does not begin with its marker"
text_of_open_error open_error.SuffixLength = codes "the suffix file is not as long as the header asks for"
text_of_open_error open_error.SuffixMarker = codes "the suffix file does not begin and end with its marker"
text_of_open_error open_error.Changed = codes "the prefix file is shorter than it was"
text_of_open_error open_error.ReadPrefix = codes "cannot read the prefix file"
text_of_open_error open_error.ReadSuffix = codes "cannot read the suffix file"

abbrev pub text_of_look_up_error : LookUpError → List ℕ
text_of_look_up_error (look_up.Entry entry) = codes "entry " ++ decimal entry ++ codes " of the table is out of order"
text_of_look_up_error look_up.Changed = codes "a file of the database is shorter than it was"
text_of_look_up_error look_up.ReadPrefix = codes "cannot read the prefix file"
text_of_look_up_error look_up.ReadSuffix = codes "cannot read the suffix file"

-- the line that tells why a database is not queried, by its name: `kmc_db: db: the suffix file is not as long as the header asks for`
abbrev pub search_message_of : List ℕ → SearchError → List ℕ
search_message_of name (Open error) = codes "kmc_db: " ++ name ++ codes ": " ++ text_of_open_error error
search_message_of name OneStrand =
    codes "kmc_db: " ++ name ++ codes ": counts a word and its reverse complement together, which -b does not ask for"
search_message_of name (Words error) = query_message_of name error
search_message_of name OtherLength = query_message_of name query_error.Unlike
search_message_of name (LookUp error) = codes "kmc_db: " ++ name ++ codes ": " ++ text_of_look_up_error error
search_message_of name Write = codes "kmc_db: cannot write"

-- a write of the answers failed
abbrev pub is_answer_unwritten : SearchError → Bool
is_answer_unwritten (Open error) = false
is_answer_unwritten OneStrand = false
is_answer_unwritten (Words error) = false
is_answer_unwritten OtherLength = false
is_answer_unwritten (LookUp error) = false
is_answer_unwritten Write = true
