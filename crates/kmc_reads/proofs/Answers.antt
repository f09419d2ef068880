-- Reads before other reads.
use Rattle.std.proofs.Common.{◌≡◌, List, [], ℕ, ◌++◌, sym, ap, refl, append_assoc, Ok, Err}
use Rattle.kmc_reads.specs.Answer.{Answer, with_reads}

pub with_none : (r : Answer) → with_reads [] r ≡ r
with_none (Ok more) = refl
with_none (Err e) = refl

pub reads_join : (xs ys : List (List ℕ)) (r : Answer) → with_reads xs (with_reads ys r) ≡ with_reads (xs ++ ys) r
reads_join xs ys (Ok more) = ap Ok (sym (append_assoc xs ys more))
reads_join xs ys (Err e) = refl
