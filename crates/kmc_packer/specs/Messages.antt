-- What a user is told where reads are not counted into a database.
use Rattle.std.specs.Prelude.{ℕ, Bool, true, false, List, ◌++◌, codes, decimal}
use Rattle.kmc_options.specs.Messages.{text_of_run_error}
use Rattle.kmc_options.specs.Status.{is_write}
use Rattle.kmc_packer.specs.declared.error.PackReadsError.{PackReadsError}
use Rattle.kmc_packer.specs.declared.error.PackReadsError.TheVariants.{Prefix, Count, TooGreat, WritePrefix, WriteSuffix, Memory}

-- the line that tells of a refusal, by the name of the database: `kmc_db: db.kmc_pre: cannot be written`
abbrev pub message_of : List ℕ → PackReadsError → List ℕ
message_of database (Prefix k) = codes "kmc_db: words of " ++ decimal k ++ codes " symbols have no such first part"
message_of database (Count e) = codes "kmc_db: " ++ text_of_run_error e
message_of database TooGreat = codes "kmc_db: a k-mer occurs more often than the bytes of a count tell"
message_of database WritePrefix = codes "kmc_db: " ++ database ++ codes ".kmc_pre: cannot be written"
message_of database WriteSuffix = codes "kmc_db: " ++ database ++ codes ".kmc_suf: cannot be written"
message_of database Memory = codes "kmc_db: out of memory"

-- a write of one of the files failed
abbrev pub is_unwritten : PackReadsError → Bool
is_unwritten (Prefix k) = false
is_unwritten (Count e) = is_write e
is_unwritten TooGreat = false
is_unwritten WritePrefix = true
is_unwritten WriteSuffix = true
is_unwritten Memory = false
