-- Lists of pairs, cut at a place.
use Rattle.std.proofs.Common.{◌≡◌, ℕ, zero, suc, ◌+◌, ◌<◌, Bool, true, false, cond, List, [], ◌∷◌, ◌++◌, length, refl, sym, ap, ◌∙◌, arith, zero-add, add-zero}
use Rattle.std.proofs.lemmas.List.Sums.{sum_by-cons}
use Rattle.std.specs.List.{AllByRecursion}
use Rattle.std.specs.List.Sorted.{IsStrictlySortedBy}
use Rattle.std.specs.declared.cmp.Ordering.TheVariants.{Less, Equal, Greater}
use Rattle.std.specs.declared.cmp.Ordering.{Ordering}
use Rattle.std.specs.Cmp.{unsigned_ties}
use Rattle.std.specs.Cmp.Lexicographic.{lists_ties}
use Rattle.std.specs.Ordering.{is_eq, nat_cmp, ordering_then}
use Rattle.kmc_base.specs.Words.{kmer_cmp, word_cmp}
use Rattle.kmc_base.specs.Lemmas.Members.{below_has}
use Rattle.kmc_count.specs.Dump.{words_of}
use Rattle.kmc_count.specs.Lemmas.Listing.{kmer_total, same_is, same_itself}
use Rattle.kmc_count.specs.Lemmas.OneDump.{Below, not_below_itself}
use Rattle.kmc_count.specs.Occurrences.{same_word}
use Rattle.kmc_sum.specs.Sum.{listed_count}
use Rattle.kmc_sum.specs.Lemmas.Listed.{none_listed}

pub record IsCut {X : Type 0} (xs : List X) (n : ℕ) : Type 0 where
  pub before : List X
  pub here : X
  pub after : List X
  pub is : before ++ here ∷ after ≡ xs
  pub long : length before ≡ n

pub cut_at : {X : Type 0} (xs : List X) (n : ℕ) → n < length xs → IsCut xs n
cut_at [] n few = absurd (omega (arith, few))
cut_at (x ∷ xs) zero few = record { before = []; here = x; after = xs; is = refl; long = refl }
cut_at (x ∷ xs) (suc n) few =
    let c = cut_at xs n (omega (arith, few)) in
    record { before = x ∷ c.before; here = c.here; after = c.after; is = ap (λ t. x ∷ t) c.is; long = ap suc c.long }

pub all_before : {X : Type 0} (P : X → Type 0) (a : List X) (x : X) (b : List X) → AllByRecursion P (a ++ x ∷ b) → AllByRecursion P a
all_before P [] x b h = tt
all_before P (y ∷ a) x b h = (h.0, all_before P a x b h.1)

pub all_behind : {X : Type 0} (P : X → Type 0) (a : List X) (x : X) (b : List X) → AllByRecursion P (a ++ x ∷ b) → P x × AllByRecursion P b
all_behind P [] x b h = h
all_behind P (y ∷ a) x b h = all_behind P a x b h.1

abbrev Pairs : Type 0
Pairs = List (List ℕ × ℕ)

words_before : (P : List ℕ → Type 0) (a : Pairs) (p : List ℕ × ℕ) (b : Pairs) → AllByRecursion P (words_of (a ++ p ∷ b)) → AllByRecursion P (words_of a)
words_before P [] p b h = tt
words_before P (q ∷ a) p b h = (h.0, words_before P a p b h.1)

words_behind : (P : List ℕ → Type 0) (a : Pairs) (p : List ℕ × ℕ) (b : Pairs) → AllByRecursion P (words_of (a ++ p ∷ b)) → P p.0
words_behind P [] p b h = h.0
words_behind P (q ∷ a) p b h = words_behind P a p b h.1

pub rising_before : (a : Pairs) (p : List ℕ × ℕ) (b : Pairs) → IsStrictlySortedBy kmer_cmp (words_of (a ++ p ∷ b)) → IsStrictlySortedBy kmer_cmp (words_of a)
unfolding IsStrictlySortedBy
rising_before [] p b h = tt
rising_before (q ∷ a) p b h = (words_before (kmer_less q.0) a p b h.0, rising_before a p b h.1)
  where
    kmer_less : List ℕ → List ℕ → Type 0
    kmer_less x y = kmer_cmp x y ≡ Less

pub rising_behind : (a : Pairs) (p : List ℕ × ℕ) (b : Pairs) → IsStrictlySortedBy kmer_cmp (words_of (a ++ p ∷ b)) → IsStrictlySortedBy kmer_cmp (words_of b)
unfolding IsStrictlySortedBy
rising_behind [] p b h = h.1
rising_behind (q ∷ a) p b h = rising_behind a p b h.1

-- ---- the count of a word

apart : (w x : List ℕ) → (w ≡ x → ⊥) → same_word w x ≡ false
apart w x other = go (same_word w x) refl
  where
    go : (t : Bool) → same_word w x ≡ t → t ≡ false
    go false e = refl
    go true e = absurd (other (same_is w x e))

below_other : (w x : List ℕ) → kmer_cmp w x ≡ Less → w ≡ x → ⊥
below_other w x less e = not_below_itself x (ap (λ (v : List ℕ). kmer_cmp v x) (sym e) ∙ less)

pub skipped : (x : List ℕ) (p : List ℕ × ℕ) (ps : Pairs) → (p.0 ≡ x → ⊥) → listed_count (p ∷ ps) x ≡ listed_count ps x
skipped x p ps other =
    let e = apart p.0 x other in
    sum_by-cons (λ (q : List ℕ × ℕ). cond (same_word q.0 x) q.1 0) p ps ∙ (λ i. cond (e i) p.1 0 + listed_count ps x) ∙ zero-add (listed_count ps x)

none_above : (x : List ℕ) (ps : Pairs) → AllByRecursion (λ w. kmer_cmp x w ≡ Less) (words_of ps) → listed_count ps x ≡ 0
none_above x ps all = none_listed x ps (λ m. not_below_itself x (below_has Below x x (words_of ps) all m))

pub count_here : (a : Pairs) (p : List ℕ × ℕ) (b : Pairs) → IsStrictlySortedBy kmer_cmp (words_of (a ++ p ∷ b)) → listed_count (a ++ p ∷ b) p.0 ≡ p.1
unfolding IsStrictlySortedBy
count_here [] p b h =
    let e = same_itself p.0 in
    let none = none_above p.0 b h.0 in
    sum_by-cons (λ (q : List ℕ × ℕ). cond (same_word q.0 p.0) q.1 0) p b ∙ (λ i. cond (e i) p.1 0 + none i) ∙ add-zero p.1
count_here (q ∷ a) p b h =
    let less : kmer_cmp q.0 p.0 ≡ Less = words_behind (λ w. kmer_cmp q.0 w ≡ Less) a p b h.0 in
    skipped p.0 q (a ++ p ∷ b) (below_other q.0 p.0 less) ∙ count_here a p b h.1

pub count_behind : (x : List ℕ) (a : Pairs) (p : List ℕ × ℕ) (b : Pairs) → IsStrictlySortedBy kmer_cmp (words_of (a ++ p ∷ b)) → kmer_cmp p.0 x ≡ Less
    → listed_count (a ++ p ∷ b) x ≡ listed_count b x
unfolding IsStrictlySortedBy
count_behind x [] p b h less = skipped x p b (below_other p.0 x less)
count_behind x (q ∷ a) p b h less =
    let here : kmer_cmp q.0 p.0 ≡ Less = words_behind (λ w. kmer_cmp q.0 w ≡ Less) a p b h.0 in
    skipped x q (a ++ p ∷ b) (below_other q.0 x (kmer_total.trans q.0 p.0 x here less)) ∙ count_behind x a p b h.1 less

above_all : (x : List ℕ) (w : List ℕ) (ws : List (List ℕ)) → kmer_cmp x w ≡ Less → AllByRecursion (λ v. kmer_cmp w v ≡ Less) ws
    → AllByRecursion (λ v. kmer_cmp x v ≡ Less) ws
above_all x w [] less all = tt
above_all x w (v ∷ ws) less all = (kmer_total.trans x w v less all.0, above_all x w ws less all.1)

pub count_before : (x : List ℕ) (a : Pairs) (p : List ℕ × ℕ) (b : Pairs) → IsStrictlySortedBy kmer_cmp (words_of (a ++ p ∷ b)) → kmer_cmp x p.0 ≡ Less
    → listed_count (a ++ p ∷ b) x ≡ listed_count a x
unfolding IsStrictlySortedBy
count_before x [] p b h less = none_above x (p ∷ b) (less, above_all x p.0 (words_of b) less h.0)
count_before x (q ∷ a) p b h less =
    let f = λ (r : List ℕ × ℕ). cond (same_word r.0 x) r.1 0 in
    sum_by-cons f q (a ++ p ∷ b) ∙ ap (λ n. f q + n) (count_before x a p b h.1 less) ∙ sym (sum_by-cons f q a)

then_equal : (o p : Ordering) → ordering_then o p ≡ Equal → p ≡ Equal
then_equal Less p e = absurd (cc e)
then_equal Equal p e = e
then_equal Greater p e = absurd (cc e)

-- words that are alike in the order are one
pub equal_is : (a b : List ℕ) → kmer_cmp a b ≡ Equal → a ≡ b
equal_is a b e =
    same_is a b (lists_ties nat_cmp unsigned_ties a b ∙ ap is_eq (then_equal (nat_cmp (length a) (length b)) (word_cmp a b) e))
