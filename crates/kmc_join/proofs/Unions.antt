-- The union of two dumps by the sum of their counts is their merge.
use Rattle.std.proofs.Common.{◌≡◌, ℕ, zero, suc, ◌+◌, ◌<◌, ◌^◌, Bool, true, false, cond, List, [], ◌∷◌, refl, sym, subst, ◌∙◌, arith}
use Rattle.std.specs.Prelude.{◌&&◌, nat_le}
use Rattle.std.specs.List.{AllByRecursion, AllZip}
use Rattle.std.proofs.lemmas.Bool.Decides.{nat_tests}
use Rattle.kmc_count.specs.declared.limits.Limits.{Limits}
use Rattle.kmc_count.specs.Dump.{IsDump}
use Rattle.kmc_count.specs.Lemmas.Listing.{same_is}
use Rattle.kmc_count.specs.Occurrences.{same_word}
use Rattle.kmc_sum.specs.Listed.{AreListed, IsLength, IsPair, Lists}
use Rattle.kmc_sum.specs.Sum.{listed_count, sum_of}
use Rattle.kmc_join.specs.Join.{IsJoin, joined}
use Rattle.kmc_join.specs.Laws.{IsUnionBySum, TakesEach, UnionBySumIsMerge}
use Rattle.kmc_join.specs.Operation.{combined}
use Rattle.kmc_join.specs.Rule.{within}
use Rattle.kmc_join.specs.declared.operation.Choice.TheVariants.{Sum}
use Rattle.kmc_join.specs.declared.operation.Operation.TheVariants.{Union}
use Rattle.kmc_join.specs.declared.rule.CountRange.{CountRange}
use Rattle.kmc_join.specs.declared.rule.JoinRule.{JoinRule}
use Rattle.kmc_join.proofs.Adding.{AreRising, tail, count_first, count_later, rising_of}

-- a word has the count of its one pair, or none
few : (k : ℕ) (ps : List (List ℕ × ℕ)) → AllByRecursion (IsPair k) ps → AreRising ps → (x : List ℕ) → listed_count ps x < 2 ^ 64
few k [] each rising x = omega arith
few k (p ∷ ps) each rising x = go (same_word p.0 x) refl (few k ps each.1 (tail p ps rising) x)
  where
    go : (b : Bool) → same_word p.0 x ≡ b → listed_count ps x < 2 ^ 64 → listed_count (p ∷ ps) x < 2 ^ 64
    go true e later = subst (λ y. listed_count (p ∷ ps) y < 2 ^ 64) (same_is p.0 x e) (omega (arith, count_first p ps rising, each.0.most))
    go false e later = omega (arith, later, count_later p ps rising x e)

taken : (range : CountRange) (n : ℕ) → TakesEach range → n < 2 ^ 64 → within range n ≡ n
taken range zero each small = go (nat_le range.least 0 && nat_le 0 range.greatest)
  where
    go : (b : Bool) → cond b zero zero ≡ zero
    go true = refl
    go false = refl
taken range (suc n) each small =
    let above : nat_le range.least (suc n) ≡ true = grind (arith, nat_tests, each.least) in
    let below : nat_le (suc n) range.greatest ≡ true = grind (arith, nat_tests, each.greatest, small) in
    λ i. cond (above i && below i) (suc n) 0

summed : (a b : ℕ) → combined (Union Sum) a b ≡ a + b
summed zero b = omega arith
summed (suc a) zero = omega arith
summed (suc a) (suc b) = refl

module _ (rule : JoinRule) (union : IsUnionBySum rule) (k : ℕ) (left right : List (List ℕ × ℕ)) (l : AreListed k left) (r : AreListed k right) where
  same : (x : List ℕ) → joined rule left right x ≡ sum_of (left ∷ right ∷ []) x
  same x =
      let a : within rule.left (listed_count left x) ≡ listed_count left x = taken rule.left (listed_count left x) union.left
      (few k left l.each (rising_of k left l) x) in
      let b : within rule.right (listed_count right x) ≡ listed_count right x = taken rule.right (listed_count right x) union.right
      (few k right r.each (rising_of k right r) x) in
      let both : joined rule left right x ≡ listed_count left x + listed_count right x = (λ i. combined (union.operation i) (a i) (b i))
      ∙ summed (listed_count left x) (listed_count right x) in
      omega (arith, both)

  pub as_sum : (limits : Limits) (pairs : List (List ℕ × ℕ)) → IsDump (joined rule left right) limits pairs → IsDump (sum_of (left ∷ right ∷ [])) limits pairs
  as_sum limits pairs d = subst (λ c. IsDump c limits pairs) (λ i x. same x i) d

  pub as_join : (limits : Limits) (pairs : List (List ℕ × ℕ)) → IsDump (sum_of (left ∷ right ∷ [])) limits pairs → IsDump (joined rule left right) limits pairs
  as_join limits pairs d = subst (λ c. IsDump c limits pairs) (λ i x. sym (same x) i) d

-- two texts list two lists
both_lists : (rule : JoinRule) (l : Limits) (first second : List ℕ) (pairs : List (List ℕ × ℕ)) → IsUnionBySum rule → (k : ℕ) → IsLength k
    → (lists : List (List (List ℕ × ℕ))) → AllZip (Lists k) (first ∷ second ∷ []) lists → IsDump (sum_of lists) l pairs
    → IsJoin rule l first second pairs
both_lists rule l first second pairs union k long (left ∷ right ∷ []) listed dump = record {
  k = k;
  long = long;
  left = left;
  right = right;
  first_lists = listed.0;
  second_lists = listed.1.0;
  dump = as_join rule union k left right listed.0.listed listed.1.0.listed l pairs dump;
}
both_lists rule l first second pairs union k long [] listed dump = absurd listed
both_lists rule l first second pairs union k long (left ∷ []) listed dump = absurd listed.1
both_lists rule l first second pairs union k long (left ∷ right ∷ other ∷ others) listed dump = absurd listed.1.1

pub union_by_sum_is_merge : UnionBySumIsMerge
union_by_sum_is_merge rule l first second pairs union = record {
  merge = λ j. record {
    k = j.k;
    long = j.long;
    lists = j.left ∷ j.right ∷ [];
    listed = (j.first_lists, (j.second_lists, tt));
    dump = as_sum rule union j.k j.left j.right j.first_lists.listed j.second_lists.listed l pairs j.dump;
  };
  join = λ m. both_lists rule l first second pairs union m.k m.long m.lists m.listed m.dump;
}
