-- The reads of a text, or the refusal of its first faulty line.
use Rattle.std.specs.Prelude.{ℕ, List}
use Rattle.kmc_reads.specs.declared.format.Format.{Format}
use Rattle.kmc_reads.specs.declared.format.Format.TheVariants.{Fasta, Fastq}
use Rattle.kmc_reads.specs.Answer.{Answer}
use Rattle.kmc_reads.specs.Fasta.{fasta_reads}
use Rattle.kmc_reads.specs.Fastq.{fastq_reads}
use Rattle.kmc_reads.specs.Lines.{lines}

-- lines are numbered from 1
abbrev pub reads_of : Format → List ℕ → Answer
reads_of Fasta text = fasta_reads 1 (lines text)
reads_of Fastq text = fastq_reads 1 (lines text)
