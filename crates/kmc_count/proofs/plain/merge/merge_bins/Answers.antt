use Rattle.std.proofs.Common.{ℕ, List, length, ap, ◌∙◌, subst, sym, arith}
use Rattle.std.specs.List.Sorted.{IsPermutation}
use Rattle.kmc_count.specs.Merge.{IsMerged}
use Rattle.kmc_base.specs.Lemmas.WrittenBack.{written_back}
use Rattle.kmc_count.proofs.Merging.{merged}
use Rattle.kmc_count.proofs.plain.merge.merge_bins.Goals as goal

pub returns : goal.returns
returns c =
    let made = c.in_ok-pairs.pairs in let pairs = c.sort_pairs.new.pairs in
    let moves = subst (λ (ps : List (List ℕ × ℕ)). IsPermutation ps pairs) (c.deref_mut.ensures.value ∙ c.in_ok-pairs.ensures) c.sort_pairs.ensures.moved in
    subst (IsMerged _) (sym (written_back made.len made.items pairs (c.sort_pairs.auto.pairs ∙ ap length c.deref_mut.ensures.value) (omega (arith, made.ok.0))))
    (merged _ pairs c.requires.rise c.requires.apart moves c.sort_pairs.ensures.sorted)
