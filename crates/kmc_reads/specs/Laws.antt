-- Laws on the fault of a text and the reads that it has ended, over the reads of all texts that begin with it.
use Rattle.std.specs.Prelude.{◌≡◌, ◌≢◌, ℕ, List, ◌++◌, IfErr, Some, Err}
use Rattle.kmc_reads.specs.declared.error.ReadsError.{ReadsError}
use Rattle.kmc_reads.specs.declared.error.ReadsError.TheVariants.{Memory}
use Rattle.kmc_reads.specs.declared.format.Format.{Format}
use Rattle.kmc_reads.specs.Answer.{Answer, with_reads}
use Rattle.kmc_reads.specs.Reads.{reads_of}
use Rattle.kmc_reads.specs.Stages.{fault, ended}

abbrev pub FaultStays : Type 0
FaultStays = (format : Format) (text rest : List ℕ) (e : ReadsError) → fault format text ≡ Some e → reads_of format (text ++ rest) ≡ Err e

-- what follows them is reads or a refusal
abbrev pub EndedStay : Type 0
EndedStay = (format : Format) (text rest : List ℕ) → (more : Answer) × (reads_of format (text ++ rest) ≡ with_reads (ended format text) more)

-- no text is refused as want of memory
abbrev pub MemoryIsNoFault : Type 0
MemoryIsNoFault = (format : Format) (text : List ℕ) → IfErr (reads_of format text) (λ e. e ≢ Memory)
