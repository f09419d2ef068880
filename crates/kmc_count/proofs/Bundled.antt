-- Items and bundles that grow.
use Rattle.std.proofs.Common.{◌≡◌, ℕ, ◌+◌, ◌*◌, ◌/◌, ◌^◌, ◌<◌, cond, List, [], sym, ap, subst, ◌∙◌, arith}
use Rattle.std.proofs.Math.Nat.{add-mul, mul-add, mul_assoc, mul_comm}
use Rattle.std.proofs.lemmas.List.Elements.{All-nil}
use Rattle.std.proofs.lemmas.List.Sorted.{All-permutation}
use Rattle.std.specs.List.{sum_by}
use Rattle.std.specs.List.Sorted.{IsPermutation}
use Rattle.kmc_base.specs.declared.strands.Strands.{Strands}
use Rattle.kmc_base.specs.Record.{IsBodyOf}
use Rattle.kmc_base.specs.Weights.{items, worth, AreItems}
use Rattle.kmc_record.specs.RecordKeys.{Gains, IsTaken, key_words}
use Rattle.kmc_record.specs.RecordWords.{record_keys}
use Rattle.kmc_record.specs.Lemmas.Taken.{moved_keys}
use Rattle.kmc_count.specs.declared.limits.Limits.{Limits}
use Rattle.kmc_count.specs.Bodies.{AreItemsOfBody, IsDumpOfBody}
use Rattle.kmc_count.specs.Bundles.{weight_of_both, AreBundledItems, BothGain}
use Rattle.kmc_count.specs.Dump.{IsDump}
use Rattle.kmc_count.specs.Occurrences.{occurrences, same_word}
use Rattle.kmc_count.specs.Lemmas.BodyDumps.{weight_is}
use Rattle.kmc_count.proofs.Counted.{worth_moved}

product : (u b q s : ℕ) → u * (b + q * s) ≡ u * b + q * u * s
product u b q s = mul-add u b (q * s) ∙ ap (λ t. u * b + t) (sym (mul_assoc u q s) ∙ ap (λ t. t * s) (mul_comm u q))

module _ (k f u : ℕ) where
  pub items_gain : (old new bundles : List ℕ) (ws : List (List ℕ)) (m : ℕ) → Gains k f old new ws m → BothGain k f u old bundles new bundles ws m
  items_gain old new bundles ws m gains = record {
    each = λ g. omega (arith, gains.each g);
    fit = gains.fit;
    bundles_fit = λ h. h;
  }

  -- so many bundles more
  pub bundles_gain : (singles old new : List ℕ) (ws : List (List ℕ)) (q m : ℕ) → m ≡ q * u → Gains k f old new ws q
      → BothGain k f u singles old singles new ws m
  bundles_gain singles old new ws q m is gains = record {
    each = λ g.
        let a = worth g (items k f singles) in
        let b = worth g (items k f old) in
        let s = sum_by g ws in
        let more : u * worth g (items k f new) ≡ u * (b + q * s) = ap (λ t. u * t) (gains.each g) in
        let split : u * (b + q * s) ≡ u * b + q * u * s = product u b q s in
        omega (arith, more, split, ap (λ t. t * s) is);
    fit = λ h. h;
    bundles_fit = gains.fit;
  }

  pub both_gain : (a a' b b' c c' : List ℕ) (ws : List (List ℕ)) (m n s : ℕ) → s ≡ m + n → BothGain k f u a a' b b' ws m → BothGain k f u b b' c c' ws n
      → BothGain k f u a a' c c' ws s
  both_gain a a' b b' c c' ws m n s is h i = record {
    each = λ g.
        let x = h.each g in
        let y = i.each g in
        let all : s * sum_by g ws ≡ m * sum_by g ws + n * sum_by g ws = ap (λ t. t * sum_by g ws) is ∙ add-mul m n (sum_by g ws) in
        omega (arith, x, y, all);
    fit = λ are. i.fit (h.fit are);
    bundles_fit = λ are. i.bundles_fit (h.bundles_fit are);
  }

-- ---- the items of a body

module _ (strands : Strands) (k f u : ℕ) where
  -- no item is a bundle
  pub no_bundles : (body singles bundles : List ℕ) → bundles ≡ [] → AreItemsOfBody strands k f body singles → AreBundledItems strands k f u body singles bundles
  no_bundles body singles bundles none are = record {
    super_kmers = are.super_kmers;
    records = are.records;
    each = λ g.
        let nothing : worth g (items k f bundles) ≡ 0 = ap (λ t. worth g (items k f t)) none in
        omega (arith, are.each g, ap (λ t. u * t) nothing);
    fit = are.fit;
    bundles_fit = subst (AreItems k f) (sym none) (All-nil (λ n. n / 2 ^ f < 4 ^ k));
  }

  -- records were taken in, their numbers moved and unpacked
  pub rows_unpacked : (body ks sorted now all empty bundles : List ℕ) (ss : List (List ℕ)) → empty ≡ [] → IsBodyOf k ss body
      → IsTaken strands k f ks now ss → IsPermutation ks sorted → BothGain k f u now empty all bundles (key_words strands k sorted) 1
      → AreBundledItems strands k f u body all bundles
  rows_unpacked body ks sorted now all empty bundles ss none records taken keys_moved gains = record {
    super_kmers = ss;
    records = records;
    each = λ g.
        let nothing : worth g (items k f empty) ≡ 0 = ap (λ t. worth g (items k f t)) none in
        omega (arith, gains.each g, moved_keys strands k g ks sorted keys_moved, taken.each g, ap (λ t. u * t) nothing);
    fit = gains.fit taken.fit;
    bundles_fit = gains.bundles_fit (subst (AreItems k f) (sym none) (All-nil (λ n. n / 2 ^ f < 4 ^ k)));
  }

  -- lists that are moved
  pub both_moved : (body a b a' b' : List ℕ) → IsPermutation a a' → IsPermutation b b' → AreBundledItems strands k f u body a b
      → AreBundledItems strands k f u body a' b'
  both_moved body a b a' b' moves others are = record {
    super_kmers = are.super_kmers;
    records = are.records;
    each = λ g. omega (arith, are.each g, worth_moved k f g a a' moves, ap (λ t. u * t) (worth_moved k f g b b' others));
    fit = All-permutation (λ n. n / 2 ^ f < 4 ^ k) a a' moves are.fit;
    bundles_fit = All-permutation (λ n. n / 2 ^ f < 4 ^ k) b b' others are.bundles_fit;
  }

  -- the dump of both lists is that of the body
  pub bundled_dump : (body singles bundles : List ℕ) (l : Limits) (pairs : List (List ℕ × ℕ)) → AreBundledItems strands k f u body singles bundles
      → IsDump (weight_of_both u (items k f singles) (items k f bundles)) l pairs → IsDumpOfBody strands k l body pairs
  bundled_dump body singles bundles l pairs are dump = record {
    super_kmers = are.super_kmers;
    records = are.records;
    dump = subst (λ c. IsDump c l pairs) (λ i x. counts x i) dump;
  }
    where
      counts : (x : List ℕ) → weight_of_both u (items k f singles) (items k f bundles) x ≡ occurrences (record_keys strands k are.super_kmers) x
      counts x = (λ i. weight_is x (items k f singles) i + u * weight_is x (items k f bundles) i) ∙ are.each (λ w. cond (same_word w x) 1 0)

-- where a bundle counts nothing, the items alone are those of the body
pub items_alone : (strands : Strands) (k f : ℕ) (body singles bundles : List ℕ) → AreBundledItems strands k f 0 body singles bundles
    → AreItemsOfBody strands k f body singles
items_alone strands k f body singles bundles are = record {
  super_kmers = are.super_kmers;
  records = are.records;
  each = λ g. let nothing : 0 * worth g (items k f bundles) ≡ 0 = omega arith in omega (arith, are.each g, nothing);
  fit = are.fit;
}
