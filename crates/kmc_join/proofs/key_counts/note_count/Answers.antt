use Rattle.std.proofs.Common.{◌≡◌, ◌+◌, ◌<◌, ◌≤◌, ℕ, List, length, get_or, refl, sym, ap, subst, ◌∙◌, true, arith}
use Rattle.std.specs.declared.cmp.Ordering.TheVariants.{Less, Equal, Greater}
use Rattle.kmc_base.specs.Words.{kmer_cmp}
use Rattle.kmc_count.specs.Lemmas.Listing.{same_itself}
use Rattle.kmc_count.specs.Occurrences.{same_word}
use Rattle.kmc_join.specs.KeyCounts.{AreBelow, key_at}
use Rattle.kmc_join.proofs.KeyOrders.{IsNotedAt, all_apart, all_below, apart_below, equal_is, key_is, noted_all, noted_apart, noted_first, noted_same, others_same}
use Rattle.kmc_join.proofs.key_counts.note_count.Goals as goal
use Rattle.kmc_join.proofs.key_counts.note_count.Goals.{in-Less, in-Equal}

pub loop-j-init : goal.loop-j-init
loop-j-init c = record {
  within = c.requires.within;
  below = c.requires.below;
  noted = noted_first c.args.keys.now c.args.word.now c.args.count c.args.counts.now c.args.from c.requires.below;
  others = λ i behind. refl;
}

pub returns-in-Greater-clause-counts : goal.returns-in-Greater-clause-counts
returns-in-Greater-clause-counts c =
    let i = c.loop-j.invariant in
    let keys = c.args.keys.now in
    let word = c.args.word.now in
    let j = c.loop-j.j in
    let inside : j < length keys = omega arith in
    let here = key_is keys j c.index-keys-j.result inside c.index-keys-j.is in
    let more : kmer_cmp (key_at keys j) word ≡ Greater = ap (λ x. kmer_cmp x word) here ∙ sym c.cmp.ensures ∙ c.in-Greater.is in
    noted_all keys word c.args.count c.args.counts.now c.loop-j.counts j i.noted i.others (all_apart keys c.requires.sorted word j inside more)

pub loop-j-preserved : goal.loop-j-preserved
loop-j-preserved c =
    let i = c.loop-j.invariant in
    let keys = c.args.keys.now in
    let word = c.args.word.now in
    let before = c.args.counts.now in
    let j = c.loop-j.j in
    let inside : j < length keys = omega arith in
    let within : j < length c.loop-j.counts = omega (arith, c.loop-j.auto.counts, c.requires.long) in
    let here = key_is keys j c.index-keys-j.result inside c.index-keys-j.is in
    elim c.match-cmp.branch [
      | in-Less w ↦
          let less : kmer_cmp (key_at keys j) word ≡ Less = ap (λ x. kmer_cmp x word) here ∙ sym c.cmp.ensures ∙ w.in-Less.is in
          record {
            within = omega (arith, w.below-is, inside);
            below = subst (λ n. AreBelow keys n word) (sym w.below-is) (all_below keys c.requires.sorted word j inside less);
            noted = subst (λ (cs : List ℕ). (m : ℕ) → m < j + 1 → IsNotedAt keys word c.args.count before cs m) (sym w.counts-is)
                (noted_apart keys word c.args.count before c.loop-j.counts j i.noted i.others (apart_below (key_at keys j) word less));
            others = subst (λ (cs : List ℕ). (m : ℕ) → j + 1 ≤ m → get_or cs m 0 ≡ get_or before m 0) (sym w.counts-is)
                (λ m behind. i.others m (omega arith));
          }
      | in-Equal w ↦
          let equal : kmer_cmp (key_at keys j) word ≡ Equal = ap (λ x. kmer_cmp x word) here ∙ sym c.cmp.ensures ∙ w.in-Equal.is in
          let same : same_word word (key_at keys j) ≡ true = ap (same_word word) (equal_is (key_at keys j) word equal) ∙ same_itself word in
          record {
            within = omega (arith, w.below-is, i.within);
            below = subst (λ n. AreBelow keys n word) (sym w.below-is) i.below;
            noted = subst (λ (cs : List ℕ). (m : ℕ) → m < j + 1 → IsNotedAt keys word c.args.count before cs m) (sym w.counts-is)
                (noted_same keys word c.args.count before c.loop-j.counts j i.noted i.others within same);
            others = subst (λ (cs : List ℕ). (m : ℕ) → j + 1 ≤ m → get_or cs m 0 ≡ get_or before m 0) (sym w.counts-is)
                (others_same keys word c.args.count before c.loop-j.counts j i.noted i.others);
          }
    ]
