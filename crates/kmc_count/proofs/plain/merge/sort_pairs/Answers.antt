use Rattle.std.proofs.Common.{ℕ, List, rules}
use Rattle.std.specs.Ordering.{is_lt}
use Rattle.std.proofs.lemmas.List.Sorted.{ranks_by, answers_always}
use Rattle.kmc_base.specs.Words.{kmer_cmp}
use Rattle.kmc_count.specs.Lemmas.Listing.{kmer_total}
use Rattle.kmc_count.proofs.plain.merge.sort_pairs.Goals as goal

pub returns-clause-sorted : goal.returns-clause-sorted
returns-clause-sorted c =
    c.sort_unstable_by.ensures.sorted (λ p q. is_lt (kmer_cmp p.0 q.0)) (ranks_by kmer_total (λ (p : List ℕ × ℕ). p.0))
    (answers_always _ _ _ (λ f a r f' k. search rules))
