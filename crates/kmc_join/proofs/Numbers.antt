-- The number of a word of two dumps.
use Rattle.std.proofs.Common.{◌≡◌, ℕ, zero, suc, ◌+◌, ◌≤◌, inl, inr, List, [], ◌∷◌, ◌++◌, Bool, cond, true, false, ap, subst, ◌∙◌, arith}
use Rattle.std.specs.List.{AllByRecursion}
use Rattle.std.specs.List.Sorted.{IsStrictlySortedBy}
use Rattle.std.specs.declared.cmp.Ordering.TheVariants.{Less}
use Rattle.std.proofs.lemmas.List.{map-append}
use Rattle.std.specs.Prelude.{◌&&◌, nat_le, Option}
use Rattle.kmc_base.specs.Words.{kmer_cmp}
use Rattle.kmc_base.specs.Packed.{unpack}
use Rattle.kmc_base.specs.Lemmas.Members.{Has}
use Rattle.kmc_count.specs.Dump.{words_of}
use Rattle.kmc_count.specs.Lemmas.OneDump.{not_below_itself}
use Rattle.kmc_sum.specs.Heads.{pending}
use Rattle.kmc_sum.specs.Listed.{IsPair}
use Rattle.kmc_sum.specs.Sources.{IsSource}
use Rattle.kmc_sum.specs.Sum.{listed_count}
use Rattle.kmc_sum.specs.Lemmas.Listed.{none_listed}
use Rattle.kmc_sum.specs.declared.heads.Head.{Head}
use Rattle.kmc_sum.specs.declared.source.Room.{Room}
use Rattle.kmc_join.specs.Operation.{chosen, combined}
use Rattle.kmc_join.specs.Rule.{number_by, within}
use Rattle.kmc_join.specs.declared.operation.Choice.{Choice}
use Rattle.kmc_join.specs.declared.operation.Choice.TheVariants.{Min, Max, Sum, Diff, Left, Right}
use Rattle.kmc_join.specs.declared.operation.Operation.{Operation}
use Rattle.kmc_join.specs.declared.operation.Operation.TheVariants.{Intersect, Union, Subtract, CountersSubtract}
use Rattle.kmc_join.specs.declared.rule.CountRange.{CountRange}
use Rattle.kmc_join.specs.declared.rule.JoinRule.{JoinRule}

chosen_few : (c : Choice) (a b : ℕ) → chosen c a b ≤ a + b
chosen_few Min a b = omega arith
chosen_few Max a b = omega arith
chosen_few Sum a b = omega arith
chosen_few Diff a b = omega arith
chosen_few Left a b = omega arith
chosen_few Right a b = omega arith

-- the number is at most both counts together
combined_few : (operation : Operation) (a b : ℕ) → combined operation a b ≤ a + b
combined_few (Intersect c) zero b = omega arith
combined_few (Intersect c) (suc a) zero = omega arith
combined_few (Intersect c) (suc a) (suc b) = chosen_few c (suc a) (suc b)
combined_few (Union c) zero b = omega arith
combined_few (Union c) (suc a) zero = omega arith
combined_few (Union c) (suc a) (suc b) = chosen_few c (suc a) (suc b)
combined_few Subtract a zero = omega arith
combined_few Subtract a (suc b) = omega arith
combined_few (CountersSubtract c) zero b = omega arith
combined_few (CountersSubtract c) (suc a) zero = omega arith
combined_few (CountersSubtract c) (suc a) (suc b) = chosen_few c (suc a) (suc b)

within_few : (range : CountRange) (n : ℕ) → within range n ≤ n
within_few range n = go (nat_le range.least n && nat_le n range.greatest)
  where
    go : (b : Bool) → cond b n 0 ≤ n
    go true = omega arith
    go false = omega arith

-- also where each count is taken within limits
pub number_few : (rule : JoinRule) (a b : ℕ) → number_by rule a b ≤ a + b
number_few rule a b = omega (
  arith,
  combined_few rule.operation (within rule.left a) (within rule.right b),
  within_few rule.left a,
  within_few rule.right b,
)

-- a word that neither lists has none
pub none_numbered : (rule : JoinRule) (a b : ℕ) → a ≡ 0 → b ≡ 0 → number_by rule a b ≡ 0
none_numbered rule a b left right = omega (arith, number_few rule a b, left, right)

all_last : (P : List ℕ → Type 0) (ws : List (List ℕ)) (x : List ℕ) → AllByRecursion P (ws ++ x ∷ []) → P x
all_last P [] x h = h.0
all_last P (w ∷ ws) x h = all_last P ws x h.1

-- the last of words that rise is none of those before it
apart : (ws : List (List ℕ)) (x : List ℕ) → IsStrictlySortedBy kmer_cmp (ws ++ x ∷ []) → Has x ws → ⊥
unfolding IsStrictlySortedBy
apart [] x up m = m
apart (w ∷ ws) x up (inl e) = not_below_itself x (subst (λ v. kmer_cmp v x ≡ Less) e (all_last (λ y. kmer_cmp w y ≡ Less) ws x up.0))
apart (w ∷ ws) x up (inr m) = apart ws x up.1 m

-- the word of a source's head was not taken from it
pub head_apart : (k : ℕ) (start now : Option (List ℕ)) (room : Room) (head : Head) (taken : List (List ℕ × ℕ)) → head.live ≡ true
    → IsSource k start now room head taken → listed_count taken (unpack k head.packed) ≡ 0
head_apart k start now room head taken live source =
    let x = unpack k head.packed in
    let is : words_of (taken ++ pending k head) ≡ words_of taken ++ x ∷ [] = ap (λ b. words_of (taken ++ cond b ((x, head.count) ∷ []) [])) live
    ∙ map-append (λ (p : List ℕ × ℕ). p.0) taken ((x, head.count) ∷ []) in
    none_listed x taken (apart (words_of taken) x (subst (IsStrictlySortedBy kmer_cmp) is source.gave.listed.rising))

all_pairs_last : (P : List ℕ × ℕ → Type 0) (ps : List (List ℕ × ℕ)) (p : List ℕ × ℕ) → AllByRecursion P (ps ++ p ∷ []) → P p
all_pairs_last P [] p h = h.0
all_pairs_last P (q ∷ ps) p h = all_pairs_last P ps p h.1

-- the count of a source's head is not 0
pub head_some : (k : ℕ) (start now : Option (List ℕ)) (room : Room) (head : Head) (taken : List (List ℕ × ℕ)) → head.live ≡ true
    → IsSource k start now room head taken → 1 ≤ head.count
head_some k start now room head taken live source =
    let p : List ℕ × ℕ = (unpack k head.packed, head.count) in
    let is : taken ++ pending k head ≡ taken ++ p ∷ [] = ap (λ b. taken ++ cond b (p ∷ []) []) live in
    (all_pairs_last (IsPair k) taken p (subst (AllByRecursion (IsPair k)) is source.gave.listed.each)).some
