-- No text is refused as want of memory.
use Rattle.std.proofs.Common.{◌==◌, ◌≢◌, ℕ, Bool, true, false, List, [], ◌∷◌}
use Rattle.std.specs.Prelude.{if◌then◌else◌, nat_eq, length, IfErr, Ok, Err}
use Rattle.kmc_reads.specs.declared.error.ReadsError.TheVariants.{Memory}
use Rattle.kmc_reads.specs.declared.format.Format.{Format}
use Rattle.kmc_reads.specs.declared.format.Format.TheVariants.{Fasta, Fastq}
use Rattle.kmc_reads.specs.Answer.{Answer, with_reads}
use Rattle.kmc_reads.specs.Lines.{line_past, lines}
use Rattle.kmc_reads.specs.Fasta.{fasta_reads, is_header}
use Rattle.kmc_reads.specs.Fastq.{at_sign, plus_sign, header_then, plus_then, quality_then, fastq_reads}
use Rattle.kmc_reads.specs.Reads.{reads_of}

abbrev NoMemory : Answer → Type 0
NoMemory a = IfErr a (λ e. e ≢ Memory)

either : (b : Bool) (x y : Answer) → NoMemory x → NoMemory y → NoMemory (if b then x else y)
either true x y h g = h
either false x y h g = g

after_header : (n first : ℕ) (rest : Answer) → NoMemory rest → NoMemory (header_then n first rest)
after_header n first rest h = either (first == at_sign) rest _ h (λ is. absurd (cc))

after_plus : (n : ℕ) (line : List ℕ) (rest : Answer) → NoMemory rest → NoMemory (plus_then n line rest)
after_plus n [] rest h = λ is. absurd (cc)
after_plus n (first ∷ line) rest h = either (first == plus_sign) rest _ h (λ is. absurd (cc))

after_quality : (n : ℕ) (sequence line : List ℕ) (rest : Answer) → NoMemory rest → NoMemory (quality_then n sequence line rest)
after_quality n sequence line rest h = either (nat_eq (length line) (length sequence)) rest _ h (λ is. absurd (cc))

after_reads : (reads : List (List ℕ)) (rest : Answer) → NoMemory rest → NoMemory (with_reads reads rest)
after_reads reads (Ok more) h = tt
after_reads reads (Err e) h = h

of_fastq : (n : ℕ) (ls : List (List ℕ)) → NoMemory (fastq_reads n ls)
of_fastq n [] = tt
of_fastq n ([] ∷ ls) = of_fastq (line_past n 1) ls
of_fastq n ((c ∷ h) ∷ []) = after_header n c _ (λ is. absurd (cc))
of_fastq n ((c ∷ h) ∷ s ∷ []) = after_header n c _ (λ is. absurd (cc))
of_fastq n ((c ∷ h) ∷ s ∷ p ∷ []) = after_header n c _ (after_plus (line_past n 2) p _ (λ is. absurd (cc)))
of_fastq n ((c ∷ h) ∷ s ∷ p ∷ q ∷ ls) =
    after_header n c _ (after_plus (line_past n 2) p _ (after_quality (line_past n 3) s q _ (after_reads (s ∷ []) _ (of_fastq (line_past n 4) ls))))

of_fasta : (n : ℕ) (ls : List (List ℕ)) → NoMemory (fasta_reads n ls)
of_fasta n [] = tt
of_fasta n ([] ∷ ls) = of_fasta (line_past n 1) ls
of_fasta n ((c ∷ line) ∷ ls) = either (is_header (c ∷ line)) _ _ tt (λ is. absurd (cc))

pub memory_is_no_fault : (format : Format) (text : List ℕ) → IfErr (reads_of format text) (λ e. e ≢ Memory)
memory_is_no_fault Fasta text = of_fasta 1 (lines text)
memory_is_no_fault Fastq text = of_fastq 1 (lines text)
