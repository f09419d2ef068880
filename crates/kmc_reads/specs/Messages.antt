-- What a user is told of a text that is no list of reads.
use Rattle.std.specs.Prelude.{ℕ, List, ◌++◌, codes, decimal}
use Rattle.kmc_reads.specs.declared.error.ReadsError.{ReadsError}
use Rattle.kmc_reads.specs.declared.error.ReadsError.TheVariants.{Memory, BadHeader, BadPlus, QualityLength, Truncated}

-- why it is none: `line 3: bad plus line`
abbrev pub text_of_reads_error : ReadsError → List ℕ
text_of_reads_error Memory = codes "out of memory"
text_of_reads_error (BadHeader line) = codes "line " ++ decimal line ++ codes ": bad header"
text_of_reads_error (BadPlus line) = codes "line " ++ decimal line ++ codes ": bad plus line"
text_of_reads_error (QualityLength line) = codes "line " ++ decimal line ++ codes ": quality length differs"
text_of_reads_error (Truncated line) = codes "line " ++ decimal line ++ codes ": record cut short"
