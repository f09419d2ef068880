-- What a user is shown of a refusal.
use Rattle.std.specs.Prelude.{ℕ, Bool, true, false, List, ◌++◌, codes, decimal}
use Rattle.kmc_sum.specs.Messages.{text_of_source_fault}
use Rattle.kmc_database.specs.declared.error.PackError.{PackError}
use Rattle.kmc_database.specs.declared.error.PackError.TheVariants.{Source, Empty, Prefix, TooGreat, WritePrefix, WriteSuffix, Memory, TooLong}
use Rattle.kmc_database.specs.declared.reading.FormFault.{FormFault}
use Rattle.kmc_database.specs.declared.reading.FormFault.TheVariants.{Marker, Newer, Version, Size, Mode, NoLayout}
use Rattle.kmc_database.specs.declared.strands.StrandsError.{StrandsError}
use Rattle.kmc_database.specs.declared.strands.StrandsError.TheVariants.{Unlike}
use Rattle.kmc_database.specs.declared.unpack_error.UnpackError.{UnpackError}
use Rattle.kmc_database.specs.declared.unpack_error.UnpackError.TheVariants as unpack

-- the line that tells of a refusal, by the names of the dump and of the database: `kmc_db: a.dump: line 4 is no line of a dump`
abbrev pub message_of : List ℕ → List ℕ → PackError → List ℕ
message_of dump database (Source fault) = codes "kmc_db: " ++ dump ++ codes ": " ++ text_of_source_fault fault
message_of dump database Empty = codes "kmc_db: " ++ dump ++ codes ": has no line to tell the length of words"
message_of dump database (Prefix k) = codes "kmc_db: words of " ++ decimal k ++ codes " symbols have no such first part"
message_of dump database (TooGreat line) =
    codes "kmc_db: " ++ dump ++ codes ": the count of line " ++ decimal line ++ codes " does not fit its bytes"
message_of dump database WritePrefix = codes "kmc_db: " ++ database ++ codes ".kmc_pre: cannot be written"
message_of dump database WriteSuffix = codes "kmc_db: " ++ database ++ codes ".kmc_suf: cannot be written"
message_of dump database Memory = codes "kmc_db: out of memory"
message_of dump database TooLong = codes "kmc_db: " ++ dump ++ codes ": too many lines"

-- a write of one of the files failed
abbrev pub is_unwritten : PackError → Bool
is_unwritten WritePrefix = true
is_unwritten WriteSuffix = true
is_unwritten (Source fault) = false
is_unwritten Empty = false
is_unwritten (Prefix k) = false
is_unwritten (TooGreat line) = false
is_unwritten Memory = false
is_unwritten TooLong = false

abbrev pub text_of_form_fault : FormFault → List ℕ
text_of_form_fault Marker = codes "the prefix file does not end with its marker"
text_of_form_fault Newer = codes "the database is in the form of KMC 2 and 3: kmc_tools transform NAME sort OTHER writes it in this one"
text_of_form_fault Version = codes "the database has an unknown version"
text_of_form_fault Size = codes "the header has another length"
text_of_form_fault Mode = codes "the database has an unknown mode"
text_of_form_fault NoLayout = codes "the header has no lengths of words, first parts and counts that fit"

-- the line that tells why a database is not unpacked, by its name: `kmc_db: db.kmc_pre: does not begin with its marker`
abbrev pub unpack_message_of : List ℕ → UnpackError → List ℕ
unpack_message_of name (unpack.Form fault) = codes "kmc_db: " ++ name ++ codes ": " ++ text_of_form_fault fault
unpack_message_of name unpack.Length = codes "kmc_db: " ++ name ++ codes ".kmc_pre: is not as long as its header asks for"
unpack_message_of name unpack.PrefixMarker = codes "kmc_db: " ++ name ++ codes ".kmc_pre: does not begin with its marker"
unpack_message_of name unpack.SuffixMarker = codes "kmc_db: " ++ name ++ codes ".kmc_suf: does not begin with its marker"
unpack_message_of name (unpack.Entry entry) =
    codes "kmc_db: " ++ name ++ codes ".kmc_pre: entry " ++ decimal entry ++ codes " of the table does not fit those before it and the number of rows"
unpack_message_of name (unpack.Cut row) = codes "kmc_db: " ++ name ++ codes ".kmc_suf: ends in row " ++ decimal row
unpack_message_of name (unpack.NotRising row) =
    codes "kmc_db: " ++ name ++ codes ".kmc_suf: row " ++ decimal row ++ codes " has a word that is not above the one before"
unpack_message_of name (unpack.ZeroCount row) = codes "kmc_db: " ++ name ++ codes ".kmc_suf: row " ++ decimal row ++ codes " has a count of 0"
unpack_message_of name unpack.SuffixEnd = codes "kmc_db: " ++ name ++ codes ".kmc_suf: does not end with its marker right behind the rows"
unpack_message_of name unpack.Changed = codes "kmc_db: " ++ name ++ codes ".kmc_pre: was changed while it was read"
unpack_message_of name unpack.ReadPrefix = codes "kmc_db: " ++ name ++ codes ".kmc_pre: cannot be read"
unpack_message_of name unpack.ReadSuffix = codes "kmc_db: " ++ name ++ codes ".kmc_suf: cannot be read"
unpack_message_of name unpack.Write = codes "kmc_db: cannot write"
unpack_message_of name unpack.Memory = codes "kmc_db: out of memory"

-- a write of the dump failed
abbrev pub is_dump_unwritten : UnpackError → Bool
is_dump_unwritten unpack.Write = true
is_dump_unwritten (unpack.Form fault) = false
is_dump_unwritten unpack.Length = false
is_dump_unwritten unpack.PrefixMarker = false
is_dump_unwritten unpack.SuffixMarker = false
is_dump_unwritten (unpack.Entry entry) = false
is_dump_unwritten (unpack.Cut row) = false
is_dump_unwritten (unpack.NotRising row) = false
is_dump_unwritten (unpack.ZeroCount row) = false
is_dump_unwritten unpack.SuffixEnd = false
is_dump_unwritten unpack.Changed = false
is_dump_unwritten unpack.ReadPrefix = false
is_dump_unwritten unpack.ReadSuffix = false
is_dump_unwritten unpack.Memory = false

-- the line that tells why two databases of these names are not joined: `kmc_db: a, b: only one of the two was counted with -b`
abbrev pub strands_message_of : List ℕ → List ℕ → StrandsError → List ℕ
strands_message_of first second Unlike = codes "kmc_db: " ++ first ++ codes ", " ++ second ++ codes ": only one of the two was counted with -b"
