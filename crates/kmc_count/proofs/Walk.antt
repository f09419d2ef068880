-- A walk over two sorted lists of items, word by word.
use Rattle.std.proofs.Common.{◌≡◌, ℕ, zero, suc, ◌+◌, ◌-◌, ◌*◌, ◌/◌, ◌<◌, ◌≤◌, ◌^◌, ◌⊎◌, inl, inr, Bool, true, false, cond, min, nat_eq, nat_le, List, [], ◌∷◌, ◌++◌, length, drop, get_or, refl, sym, ap, subst, ◌∙◌, arith, add-zero, zero-add, le_refl}
use Rattle.std.proofs.Math.Nat.{mul-add, mul_comm}
use Rattle.std.proofs.lemmas.Nat.{mul-le}
use Rattle.std.proofs.lemmas.Bool.Decides.{nat_tests}
use Rattle.std.proofs.lemmas.List.{drop_more, get_or-drop, length-drop}
use Rattle.std.proofs.lemmas.List.Elements.{All-drop}
use Rattle.std.specs.List.{cons_option, AllByRecursion}
use Rattle.std.specs.List.Sorted.{IsSorted, IsStrictlySortedBy}
use Rattle.std.specs.Ordering.{is_lt, nat_cmp}
use Rattle.std.specs.declared.cmp.Ordering.TheVariants.{Less}
use Rattle.kmc_base.specs.Words.{kmer_cmp}
use Rattle.kmc_base.specs.Packed.{unpack}
use Rattle.kmc_base.specs.Weights.{item, items, item_weight, AreItems}
use Rattle.kmc_base.specs.Lemmas.Weights.{pow_two_some}
use Rattle.kmc_count.specs.declared.limits.Limits.{Limits}
use Rattle.kmc_count.specs.Bundles.{weight_of_both}
use Rattle.kmc_count.specs.Occurrences.{same_word, weight_of}
use Rattle.kmc_count.specs.Dump.{keep_pair, words_of, IsDump}
use Rattle.kmc_count.specs.Runs.{BeginsWith, IsFirstWord, IsRun}
use Rattle.kmc_count.specs.Lemmas.Listing.{below_end, capped_pair, dump_of_runs, kept_end, kept_pairs, runs_end, some_end, total_end}
use Rattle.kmc_count.specs.Lemmas.PackedRuns.{at_most, cmp_packed, part_up}
use Rattle.kmc_count.specs.Lemmas.Runs.{AreSome, total, weight_of_cons}

-- ---- a run of one word

-- what the items that were taken of a list count
pub record IsRunSoFar (k f : ℕ) (ns : List ℕ) (p count taken : ℕ) : Type 0 where
  pub whole : ℕ
  pub stops : count ≡ min whole (2 ^ 64 - 1)
  pub weights : (x : List ℕ) → weight_of (items k f ns) x ≡ cond (same_word (unpack k p) x) whole 0 + weight_of (items k f (drop taken ns)) x
  pub inside : taken ≤ length ns
  pub some : 1 ≤ taken → 1 ≤ whole

both_ways : (b : Bool) (t w : ℕ) → cond b t 0 + cond b w 0 ≡ cond b (t + w) 0
both_ways true t w = refl
both_ways false t w = refl

none_counted : (b : Bool) → cond {A = ℕ} b 0 0 ≡ 0
none_counted true = refl
none_counted false = refl

pub run_begins : (k f : ℕ) (ns : List ℕ) (p : ℕ) → IsRunSoFar k f ns p 0 0
run_begins k f ns p = record {
  whole = 0;
  stops = omega arith;
  weights = λ x. omega (arith, none_counted (same_word (unpack k p) x));
  inside = omega arith;
  some = λ h. absurd (omega (arith, h));
}

pub run_goes_on : (k f : ℕ) (ns : List ℕ) (p count taken q more : ℕ) → taken < length ns → q ≡ get_or ns taken 0 → q / 2 ^ f ≡ p
    → more ≡ min (count + item_weight f q) (2 ^ 64 - 1) → IsRunSoFar k f ns p count taken → IsRunSoFar k f ns p more (taken + 1)
run_goes_on k f ns p count taken q more inside at word counted h = record {
  whole = h.whole + item_weight f q;
  stops = omega (arith, h.stops, counted);
  weights = λ x.
      let next : weight_of (items k f (drop taken ns)) x ≡ cond (same_word (unpack k (q / 2 ^ f)) x) (item_weight f q) 0
      + weight_of (items k f (drop (taken + 1) ns)) x =
      ap (λ t. weight_of (items k f t) x) (drop_more ns taken 0 inside) ∙ ap (λ n. weight_of (items k f (n ∷ drop (taken + 1) ns)) x) (sym at)
      ∙ weight_of_cons x (item k f q) (items k f (drop (taken + 1) ns)) in
      let same : cond (same_word (unpack k (q / 2 ^ f)) x) (item_weight f q) 0 ≡ cond (same_word (unpack k p) x) (item_weight f q) 0 =
      ap (λ w. cond (same_word (unpack k w) x) (item_weight f q) 0) word in
      omega (arith, h.weights x, next, same, both_ways (same_word (unpack k p) x) h.whole (item_weight f q));
  inside = omega (arith, inside);
  some = λ _. omega arith;
}

pub run_is : (k f : ℕ) (ns : List ℕ) (p count taken : ℕ) (rest : List ℕ) → rest ≡ drop taken ns → (BeginsWith f (drop taken ns) p → ⊥)
    → IsRunSoFar k f ns p count taken → IsRun k f ns p count rest
run_is k f ns p count taken rest is other h = record {
  total = h.whole;
  stops = h.stops;
  weights = λ x. h.weights x ∙ ap (λ t. cond (same_word (unpack k p) x) h.whole 0 + weight_of (items k f t) x) (sym is);
  taken = taken;
  is = is;
  other = λ b. other (subst (λ t. BeginsWith f t p) is b);
  some = λ b. go taken refl b;
}
  where
    go : (t : ℕ) → taken ≡ t → BeginsWith f ns p → 1 ≤ h.whole
    go zero e b = absurd (other (subst (λ n. BeginsWith f (drop n ns) p) (sym e) b))
    go (suc t) e b = h.some (omega (arith, e))

-- ---- sorted lists

more : (a p : ℕ) → nat_le a p ≡ false → p + 1 ≤ a
more a p e = grind (arith, nat_tests)

most : (a p : ℕ) → nat_le a p ≡ true → a ≤ p
most a p e = grind (arith, nat_tests)

-- each number is at least the first
sorted_up : (ns : List ℕ) → IsSorted nat_cmp ns → (i : ℕ) → i < length ns → get_or ns 0 0 ≤ get_or ns i 0
sorted_up ns sorted zero inside = omega arith
sorted_up ns sorted (suc i) inside =
    let e : i + 1 ≡ suc i = omega arith in
    let before = sorted_up ns sorted i (omega (arith, inside)) in
    let step : get_or ns i 0 ≤ get_or ns (i + 1) 0 = at_most _ _ (sorted i 0 (omega arith) (omega (arith, inside))) in
    let here : get_or ns (i + 1) 0 ≡ get_or ns (suc i) 0 = ap (λ j. get_or ns j 0) e in
    omega (arith, before, step, here)

sorted_rest : (n : ℕ) (ns : List ℕ) → IsSorted nat_cmp ns → IsSorted nat_cmp (drop n ns)
sorted_rest n ns sorted = λ i d low high.
    let long = length-drop n ns in
    let more : n + (i + 1) ≡ n + i + 1 = omega arith in
    let a : get_or (drop n ns) (i + 1) d ≡ get_or ns (n + i + 1) d = get_or-drop n ns (i + 1) d ∙ ap (λ j. get_or ns j d) more in
    let b : get_or (drop n ns) i d ≡ get_or ns (n + i) d = get_or-drop n ns i d in
    (λ j. is_lt (nat_cmp (a j) (b j))) ∙ sorted (n + i) d (omega arith) (omega (arith, long, high))

-- ---- the walk

-- what the words before two lists came to: their runs, those that the limits list, are the pairs, and all lie below the lists' words
pub record IsWalked (k f u : ℕ) (l : Limits) (c : List ℕ → ℕ) (pairs : List (List ℕ × ℕ)) (few many : List ℕ) : Type 0 where
  pub runs : List (List ℕ × ℕ)
  pub next : ℕ
  pub are : pairs ≡ kept_pairs l runs
  pub counts : (x : List ℕ) → total x runs + weight_of_both u (items k f few) (items k f many) x ≡ c x
  pub some : AreSome runs
  pub up : IsStrictlySortedBy kmer_cmp (words_of runs)
  pub below : (p : ℕ) → p < 4 ^ k → next ≤ p → AllByRecursion (λ y. kmer_cmp y (unpack k p) ≡ Less) (words_of runs)
  pub first : 1 ≤ length few → next ≤ get_or few 0 0 / 2 ^ f
  pub second : 1 ≤ length many → next ≤ get_or many 0 0 / 2 ^ f
  pub sorted : IsSorted nat_cmp few
  pub bundles_sorted : IsSorted nat_cmp many
  pub fit : AreItems k f few
  pub bundles_fit : AreItems k f many

module _ (k f u : ℕ) (l : Limits) where
  pub walk_begins : (pairs : List (List ℕ × ℕ)) (few many : List ℕ) → pairs ≡ [] → IsSorted nat_cmp few → IsSorted nat_cmp many → AreItems k f few
      → AreItems k f many → IsWalked k f u l (weight_of_both u (items k f few) (items k f many)) pairs few many
  unfolding IsStrictlySortedBy
  walk_begins pairs few many none sorted bundles_sorted fit bundles_fit = record {
    runs = [];
    next = 0;
    are = none;
    counts = λ x. zero-add (weight_of_both u (items k f few) (items k f many) x);
    some = tt;
    up = nothing;
    below = λ p _ _. tt;
    first = λ _. omega arith;
    second = λ _. omega arith;
    sorted = sorted;
    bundles_sorted = bundles_sorted;
    fit = fit;
    bundles_fit = bundles_fit;
  }
    where
      nothing : IsStrictlySortedBy kmer_cmp []
      nothing = tt

  pub walk_ends : (c : List ℕ → ℕ) (pairs : List (List ℕ × ℕ)) (few many : List ℕ) → length few ≡ 0 → length many ≡ 0 → IsWalked k f u l c pairs few many
      → IsDump c l pairs
  walk_ends c pairs [] [] _ _ h = subst (IsDump c l) (sym h.are) (dump_of_runs c l h.runs (λ x. omega (arith, h.counts x, nothing)) h.some h.up)
    where
      nothing : u * 0 ≡ 0
      nothing = omega arith
  walk_ends c pairs (n ∷ few) many e _ h = absurd (omega (arith, e))
  walk_ends c pairs [] (n ∷ many) _ e h = absurd (omega (arith, e))

  -- the head of a list behind a run is above its word
  above : (ns : List ℕ) (p count : ℕ) (rest : List ℕ) → IsSorted nat_cmp ns → (1 ≤ length ns → p ≤ get_or ns 0 0 / 2 ^ f) → IsRun k f ns p count rest
      → 1 ≤ length rest → p + 1 ≤ get_or rest 0 0 / 2 ^ f
  above ns p count rest sorted low run long =
      let r : rest ≡ drop run.taken ns = run.is in
      let size : length rest ≡ length ns - run.taken = ap length r ∙ length-drop run.taken ns in
      let head : get_or rest 0 0 ≡ get_or ns run.taken 0 = ap (λ t. get_or t 0 0) r ∙ get_or-drop run.taken ns 0 0
      ∙ ap (λ j. get_or ns j 0) (add-zero run.taken) in
      let up : get_or ns 0 0 ≤ get_or rest 0 0 = omega (arith, head, sorted_up ns sorted run.taken (omega (arith, size, long))) in
      let parts : get_or ns 0 0 / 2 ^ f ≤ get_or rest 0 0 / 2 ^ f = part_up (2 ^ f) _ _ (pow_two_some f) up in
      let at_least : p ≤ get_or rest 0 0 / 2 ^ f = omega (arith, parts, low (omega (arith, size, long))) in
      go (nat_le (get_or rest 0 0 / 2 ^ f) p) refl at_least
    where
      go : (b : Bool) → nat_le (get_or rest 0 0 / 2 ^ f) p ≡ b → p ≤ get_or rest 0 0 / 2 ^ f → p + 1 ≤ get_or rest 0 0 / 2 ^ f
      go true e h = absurd (run.other (long, omega (arith, most (get_or rest 0 0 / 2 ^ f) p e, h)))
      go false e h = more (get_or rest 0 0 / 2 ^ f) p e

  -- fewer items are left
  fewer : (ns : List ℕ) (p count : ℕ) (rest : List ℕ) → IsRun k f ns p count rest → length rest ≤ length ns
  fewer ns p count rest run = omega (arith, ap length run.is, length-drop run.taken ns)

  taken_some : (ns : List ℕ) (p count : ℕ) (rest : List ℕ) → BeginsWith f ns p → IsRun k f ns p count rest → length rest < length ns
  taken_some ns p count rest begins run = go run.taken run.is
    where
      go : (t : ℕ) → rest ≡ drop t ns → length rest < length ns
      go zero is = absurd (run.other (subst (λ r. BeginsWith f r p) (sym is) begins))
      go (suc t) is = omega (arith, ap length is, length-drop (suc t) ns, begins.0)

  -- numbers that stop at the top, added up
  stops_at : (count a b t v m : ℕ) → 1 ≤ u → a ≡ min t m → b ≡ min v m → count ≡ min (a + min (b * u) m) m → count ≡ min (t + u * v) m
  stops_at count a b t v m some h i e = go (nat_le v m) refl
    where
      go : (q : Bool) → nat_le v m ≡ q → count ≡ min (t + u * v) m
      go true q =
          let low : v ≤ m = grind (arith, nat_tests) in
          let same : b ≡ v = omega (arith, i, low) in
          let product : b * u ≡ u * v = ap (λ n. n * u) same ∙ mul_comm v u in
          omega (arith, h, e, product)
      go false q =
          let high : m < v = grind (arith, nat_tests) in
          let same : b ≡ m = omega (arith, i, high) in
          let more : m * 1 ≤ m * u = mul-le m 1 m u (le_refl m) some in
          let product : b * u ≡ m * u = ap (λ n. n * u) same in
          let whole : 1 * v ≤ u * v = mul-le 1 v u v some (le_refl v) in
          omega (arith, h, e, product, more, whole, high)

  pub walk_on : (c : List ℕ → ℕ) (pairs new : List (List ℕ × ℕ)) (few many few' many' : List ℕ) (p once bundled count : ℕ) → 1 ≤ u
      → 1 ≤ length few + length many → IsFirstWord f few many p → IsRun k f few p once few' → IsRun k f many p bundled many'
      → count ≡ min (once + min (bundled * u) (2 ^ 64 - 1)) (2 ^ 64 - 1) → new ≡ pairs ++ cons_option (keep_pair l (unpack k p, count)) []
      → IsWalked k f u l c pairs few many
      → IsWalked k f u l c new few' many' × (p < 4 ^ k) × (length few' + length many' < length few + length many)
  walk_on c pairs new few many few' many' p once bundled count one long word run bundles counted pushed h = (
    record {
      runs = h.runs ++ (unpack k p, n) ∷ [];
      next = p + 1;
      are = pushed ∙ (λ j. h.are j ++ cons_option (capped_pair l (unpack k p) count n stops j) []) ∙ sym (kept_end l (unpack k p) n h.runs);
      counts = λ x. sums x;
      some = some_end (unpack k p) n h.runs some h.some;
      up = runs_end (unpack k p) n h.runs h.up (h.below p fits low);
      below = λ q small up. below_end (λ y. kmer_cmp y (unpack k q) ≡ Less) (unpack k p) n h.runs (h.below q small (omega (arith, low, up)))
          (cmp_packed k p q fits small ∙ less p q (omega (arith, up)));
      first = above few p once few' h.sorted word.first run;
      second = above many p bundled many' h.bundles_sorted word.second bundles;
      sorted = subst (IsSorted nat_cmp) (sym run.is) (sorted_rest run.taken few h.sorted);
      bundles_sorted = subst (IsSorted nat_cmp) (sym bundles.is) (sorted_rest bundles.taken many h.bundles_sorted);
      fit = subst (AreItems k f) (sym run.is) (All-drop (λ n. n / 2 ^ f < 4 ^ k) run.taken few h.fit);
      bundles_fit = subst (AreItems k f) (sym bundles.is) (All-drop (λ n. n / 2 ^ f < 4 ^ k) bundles.taken many h.bundles_fit);
    },
    fits,
    smaller,
  )
    where
      n : ℕ
      n = run.total + u * bundles.total

      stops : count ≡ min n (2 ^ 64 - 1)
      stops = stops_at count once bundled run.total bundles.total (2 ^ 64 - 1) one run.stops bundles.stops counted

      less : (a b : ℕ) → a < b → nat_cmp a b ≡ Less
      less a b h = grind (arith, nat_tests)

      both : (b : Bool) (t v w w' : ℕ) → cond b (t + u * v) 0 + (w + u * w') ≡ cond b t 0 + w + u * (cond b v 0 + w')
      both true t v w w' = let split : u * (v + w') ≡ u * v + u * w' = mul-add u v w' in omega (arith, split)
      both false t v w w' = let split : u * (0 + w') ≡ u * w' = ap (λ m. u * m) (zero-add w') in omega (arith, split)

      sums : (x : List ℕ) → total x (h.runs ++ (unpack k p, n) ∷ []) + weight_of_both u (items k f few') (items k f many') x ≡ c x
      sums x =
          let b = same_word (unpack k p) x in
          let w = weight_of (items k f few') x in
          let w' = weight_of (items k f many') x in
          let there : weight_of_both u (items k f few) (items k f many) x ≡ cond b run.total 0 + w + u * (cond b bundles.total 0 + w') =
          (λ j. run.weights x j + u * bundles.weights x j) in
          omega (arith, total_end x (unpack k p) n h.runs, h.counts x, there, both b run.total bundles.total w w')

      Facts : Type 0
      Facts = (p < 4 ^ k) × (h.next ≤ p) × (1 ≤ n) × (length few' + length many' < length few + length many)

      facts : BeginsWith f few p ⊎ BeginsWith f many p → Facts
      facts (inl b) = (
        subst (λ q. q < 4 ^ k) b.1 (h.fit 0 0 b.0),
        omega (arith, h.first b.0, b.1),
        omega (arith, run.some b),
        omega (arith, taken_some few p once few' b run, fewer many p bundled many' bundles),
      )
      facts (inr b) = (
        subst (λ q. q < 4 ^ k) b.1 (h.bundles_fit 0 0 b.0),
        omega (arith, h.second b.0, b.1),
        (let more : 1 * 1 ≤ u * bundles.total = mul-le 1 1 u bundles.total one (bundles.some b) in omega (arith, more)),
        omega (arith, taken_some many p bundled many' b bundles, fewer few p once few' run),
      )

      all : Facts
      all = facts (word.is long)

      fits : p < 4 ^ k
      fits = all.0

      low : h.next ≤ p
      low = all.1

      some : 1 ≤ n
      some = all.2

      smaller : length few' + length many' < length few + length many
      smaller = all.3

-- the lesser of the words that two lists begin with fits
pub word_fits : (k f : ℕ) (few many : List ℕ) (p : ℕ) → 1 ≤ length few + length many → IsFirstWord f few many p → AreItems k f few → AreItems k f many → p < 4 ^ k
word_fits k f few many p long word fit bundles_fit = go (word.is long)
  where
    go : BeginsWith f few p ⊎ BeginsWith f many p → p < 4 ^ k
    go (inl b) = subst (λ q. q < 4 ^ k) b.1 (fit 0 0 b.0)
    go (inr b) = subst (λ q. q < 4 ^ k) b.1 (bundles_fit 0 0 b.0)

pub filled : (n : ℕ) → nat_eq n 0 ≡ false → 1 ≤ n
filled n e = grind (arith, nat_tests)

pub emptied : (n : ℕ) → nat_eq n 0 ≡ true → n ≡ 0
emptied n e = grind (arith, nat_tests)

-- no items of a word in an empty list
pub no_run : (k f : ℕ) (ns : List ℕ) (p : ℕ) → length ns ≡ 0 → IsRun k f ns p 0 ns
no_run k f ns p none = record {
  total = 0;
  stops = omega arith;
  weights = λ x. omega (arith, none_counted (same_word (unpack k p) x));
  taken = 0;
  is = refl;
  other = λ b. absurd (omega (arith, none, b.0));
  some = λ b. absurd (omega (arith, none, b.0));
}
