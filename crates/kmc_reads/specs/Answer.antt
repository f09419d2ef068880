-- What a text gives.
use Rattle.std.specs.Prelude.{ℕ, List, ◌++◌, Result, Ok, Err}
use Rattle.kmc_reads.specs.declared.error.ReadsError.{ReadsError}

-- its reads, or the refusal of its first faulty line
abbrev pub Answer : Type 0
Answer = Result (List (List ℕ)) ReadsError

-- these reads, and then those of the rest, if the rest is not refused
abbrev pub with_reads : List (List ℕ) → Answer → Answer
with_reads reads (Ok more) = Ok (reads ++ more)
with_reads reads (Err e) = Err e
