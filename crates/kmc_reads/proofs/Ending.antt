-- The reads of a text, line by line.
use Rattle.std.proofs.Common.{◌≡◌, ℕ, ◌+◌, Bool, true, false, cond, ◌==◌, nat_eq, List, [], ◌∷◌, ◌++◌, length, map, refl, sym, ap, ◌∙◌, arith, append_assoc, append-nil, Ok, Err, Some, None}
use Rattle.std.specs.Io.BufRead.{strip_last}
use Rattle.kmc_reads.specs.declared.error.ReadsError.TheVariants.{BadHeader, BadPlus, QualityLength, Truncated}
use Rattle.kmc_reads.specs.declared.line_kind.LineKind.TheVariants.{Header, Plus, FirstHeader, Body}
use Rattle.kmc_reads.specs.declared.format.Format.{Format}
use Rattle.kmc_reads.specs.declared.format.Format.TheVariants.{Fasta, Fastq}
use Rattle.kmc_reads.specs.Answer.{Answer, with_reads}
use Rattle.kmc_reads.specs.Fasta.{is_header, onto_read, reads_after, fasta_reads}
use Rattle.kmc_reads.specs.Fastq.{fastq_reads, plus_then, quality_then}
use Rattle.kmc_reads.specs.Reads.{reads_of}
use Rattle.kmc_reads.specs.Lines.{line_past, raw_lines, lines, onto_first}
use Rattle.kmc_reads.specs.OpenLines.{lines_from}
use Rattle.kmc_reads.specs.Stages.{first_spot, reads_from, answer_past, fault_of}
use Rattle.kmc_reads.proofs.Bodies.{onto_onto, onto_none}
use Rattle.kmc_reads.proofs.Answers.{with_none}

-- a text at the front of lines
joined : List ℕ → List (List ℕ) → List (List ℕ)
joined [] [] = []
joined (b ∷ bs) [] = (b ∷ bs) ∷ []
joined front (p ∷ ps) = (front ++ p) ∷ ps

joined-none : (ps : List (List ℕ)) → joined [] ps ≡ ps
unfolding joined
joined-none [] = refl
joined-none (p ∷ ps) = refl

joined-first : (front : List ℕ) (b : ℕ) (ps : List (List ℕ)) → joined (front ++ b ∷ []) ps ≡ joined front (onto_first b ps)
unfolding joined
joined-first [] b [] = refl
joined-first (x ∷ front) b [] = refl
joined-first [] b (p ∷ ps) = refl
joined-first (x ∷ front) b (p ∷ ps) = ap (λ (t : List ℕ). (x ∷ t) ∷ ps) (append_assoc front (b ∷ []) p)

joined-empty : (front : List ℕ) (ps : List (List ℕ)) → joined front ([] ∷ ps) ≡ front ∷ ps
unfolding joined
joined-empty [] ps = refl
joined-empty (x ∷ front) ps = ap (λ (t : List ℕ). t ∷ ps) (append-nil (x ∷ front))

lines_step : (front : List ℕ) (b : ℕ) (bs : List ℕ) (t : Bool) → lines_from [] bs ≡ map (strip_last 13) (joined [] (raw_lines bs)) → lines_from
    (front ++ b ∷ []) bs ≡ map (strip_last 13) (joined (front ++ b ∷ []) (raw_lines bs))
    → cond t (strip_last 13 front ∷ lines_from [] bs) (lines_from (front ++ b ∷ []) bs) ≡ map (strip_last 13)
    (joined front (cond t ([] ∷ raw_lines bs) (onto_first b (raw_lines bs))))
lines_step front b bs true x y = ap (λ t. strip_last 13 front ∷ t) (x ∙ ap (map (strip_last 13)) (joined-none (raw_lines bs))) ∙ sym
    (ap (map (strip_last 13)) (joined-empty front (raw_lines bs)))
lines_step front b bs false x y = y ∙ ap (map (strip_last 13)) (joined-first front b (raw_lines bs))

joined_lines : (front bs : List ℕ) → lines_from front bs ≡ map (strip_last 13) (joined front (raw_lines bs))
unfolding joined
joined_lines [] [] = refl
joined_lines (x ∷ front) [] = refl
joined_lines front (b ∷ bs) = lines_step front b bs (b == 10) (joined_lines [] bs) (joined_lines (front ++ b ∷ []) bs)

pub lines_same : (text : List ℕ) → lines_from [] text ≡ lines text
lines_same text = joined_lines [] text ∙ ap (map (strip_last 13)) (joined-none (raw_lines text))

pub past_past : (n a : ℕ) → line_past (line_past n a) 1 ≡ line_past n (a + 1)
past_past n a = omega arith

header_part : (t : Bool) (n : ℕ) (x y : Answer) → x ≡ y → answer_past (cond t None (Some (BadHeader n))) [] x ≡ cond t y (Err (BadHeader n))
header_part true n x y e = with_none x ∙ e
header_part false n x y e = refl

plus_bool : (t : Bool) (n : ℕ) (x y : Answer) → x ≡ y → answer_past (cond t None (Some (BadPlus n))) [] x ≡ cond t y (Err (BadPlus n))
plus_bool true n x y e = with_none x ∙ e
plus_bool false n x y e = refl

plus_part : (p : List ℕ) (n : ℕ) (r : List ℕ) (x y : Answer) → x ≡ y → answer_past (fault_of n Plus r p) [] x ≡ plus_then n p y
plus_part [] n r x y e = refl
plus_part (d ∷ p) n r x y e = plus_bool (d == 43) n x y e

quality_part : (t : Bool) (n : ℕ) (s : List ℕ) (x y : Answer) → x ≡ y → answer_past (cond t None (Some (QualityLength n))) (s ∷ []) x ≡ cond t
    (with_reads (s ∷ []) y) (Err (QualityLength n))
quality_part true n s x y e = ap (with_reads (s ∷ [])) e
quality_part false n s x y e = refl

three : (n : ℕ) → line_past (line_past (line_past n 1) 1) 1 ≡ line_past n 3
three n = ap (λ k. line_past k 1) (past_past n 1) ∙ past_past n 2

pub reads_same : (n : ℕ) (ls : List (List ℕ)) → reads_from (record { number = n; stage = Header; read = [] }) ls ≡ fastq_reads n ls
reads_same n [] = refl
reads_same n ([] ∷ ls) = with_none _ ∙ reads_same (line_past n 1) ls
reads_same n ((c ∷ h) ∷ []) = header_part (c == 64) n _ _ refl
reads_same n ((c ∷ h) ∷ s ∷ []) = header_part (c == 64) n _ _ (ap (λ k. Err (Truncated k)) (past_past n 1))
reads_same n ((c ∷ h) ∷ s ∷ p ∷ []) = header_part (c == 64) n _ _
    (with_none _ ∙ plus_part p _ s _ _ (ap (λ k. Err (Truncated k)) (three n)) ∙ ap (λ k. plus_then k p (Err (Truncated (line_past n 3)))) (past_past n 1))
reads_same n ((c ∷ h) ∷ s ∷ p ∷ q ∷ ls) = header_part (c == 64) n _ _
    (with_none _ ∙ plus_part p _ s _ _
    (quality_part (nat_eq (length q) (length s)) _ s _ _ (reads_same (line_past (line_past (line_past (line_past n 1) 1) 1) 1) ls ∙ ap
    (λ k. fastq_reads k ls) (ap (λ k. line_past k 1) (three n) ∙ past_past n 3))
    ∙ ap (λ k. quality_then k s q (with_reads (s ∷ []) (fastq_reads (line_past n 4) ls))) (three n))
    ∙ ap (λ k. plus_then k p (quality_then (line_past n 3) s q (with_reads (s ∷ []) (fastq_reads (line_past n 4) ls)))) (past_past n 1))

-- a FASTA text, from inside a read on
body_step : (t : Bool) (read l : List ℕ) (rs : List (List ℕ)) (x y : Answer) → x ≡ Ok (onto_read [] rs) → y ≡ Ok (onto_read (read ++ l) rs)
    → onto_read [] rs ≡ rs
    → with_reads (cond t (read ∷ []) []) (cond t x y) ≡ Ok (onto_read read (cond t ([] ∷ rs) (onto_read l rs)))
body_step true read l rs x y ex ey none = ap (with_reads (read ∷ [])) ex ∙ (λ i. Ok (sym (append-nil read) i ∷ none i))
body_step false read l rs x y ex ey none = with_none y ∙ ey ∙ ap Ok (sym (onto_onto read l rs))

body_past : (t : Bool) (n : ℕ) (read l : List ℕ) (ls : List (List ℕ)) → reads_from (record { number = n; stage = Body; read = cond t [] (read ++ l) }) ls
    ≡ cond t (reads_from (record { number = n; stage = Body; read = [] }) ls) (reads_from (record { number = n; stage = Body; read = read ++ l }) ls)
body_past true n read l ls = refl
body_past false n read l ls = refl

pub bodies_same : (n : ℕ) (read : List ℕ) (ls : List (List ℕ)) → reads_from (record { number = n; stage = Body; read = read }) ls ≡ Ok
    (onto_read read (reads_after ls))
bodies_same n read [] = ap (λ (t : List ℕ). Ok (t ∷ [])) (sym (append-nil read))
bodies_same n read (l ∷ ls) =
    ap (with_reads (cond (is_header l) (read ∷ []) [])) (body_past (is_header l) (line_past n 1) read l ls)
    ∙ body_step (is_header l) read l (reads_after ls) _ _ (bodies_same (line_past n 1) [] ls) (bodies_same (line_past n 1) (read ++ l) ls) (onto_none ls)

pub fasta_same : (n : ℕ) (ls : List (List ℕ)) → reads_from (record { number = n; stage = FirstHeader; read = [] }) ls ≡ fasta_reads n ls
fasta_same n [] = refl
fasta_same n ([] ∷ ls) = with_none _ ∙ fasta_same (line_past n 1) ls
fasta_same n ((c ∷ h) ∷ ls) = header_part (c == 62) n _ _ (bodies_same (line_past n 1) [] ls ∙ ap Ok (onto_none ls))

pub reads_are : (format : Format) (text : List ℕ) → reads_from (first_spot format) (lines_from [] text) ≡ reads_of format text
reads_are Fastq text = ap (reads_from (first_spot Fastq)) (lines_same text) ∙ reads_same 1 (lines text)
reads_are Fasta text = ap (reads_from (first_spot Fasta)) (lines_same text) ∙ fasta_same 1 (lines text)
