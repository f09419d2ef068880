-- The places of the segments are the counted places.
use Rattle.std.proofs.Common.{◌≡◌, ℕ, zero, suc, ◌+◌, ◌-◌, ◌<◌, ◌≤◌, ◌==◌, ◌⊎◌, inl, inr, Bool, true, false, cond, nat_lt, nat_le, List, [], ◌∷◌, ◌++◌, length, take, map, Option, None, Some, refl, sym, ap, ◌∙◌, arith, append_assoc, add-one, add-zero, zero-add}
use Rattle.std.proofs.lemmas.Bool.{eq-eqb, ne_eqb}
use Rattle.std.proofs.lemmas.Bool.Decides.{nat_tests}
use Rattle.std.proofs.lemmas.List.{map-append}
use Rattle.std.specs.Option.{option_map, option_and_then}
use Rattle.std.specs.List.{filter, filter_map, flat_map, range_with_len, cons_option}
use Rattle.kmc_base.specs.Words.{code_of, codes_of, window}
use Rattle.kmc_base.specs.Stretches.{Stretch, with_place, stretches_from, segments_of, led_by, leading}
use Rattle.kmc_base.specs.declared.strands.Strands.{Strands}
use Rattle.kmc_base.specs.Strands.{key, placed_key, keys}
use Rattle.kmc_base.specs.Places.{word_at, counted_words, placed_words}
use Rattle.kmc_base.specs.Lemmas.Stretching.{Apart, apart_from}

abbrev Placed : Type 0
Placed = List (ℕ × List ℕ)

-- ---- the codes of the bases that a text begins with

run_within : (bs : List ℕ) → length (leading bs) ≤ length bs
run_within [] = omega arith
run_within (b ∷ bs) = go (code_of b) (run_within bs)
  where
    go : (o : Option ℕ) → length (leading bs) ≤ length bs → length (led_by o (leading bs)) ≤ suc (length bs)
    go None h = omega arith
    go (Some c) h = omega arith

-- the first j codes, where there are so many
abbrev first_codes : ℕ → List ℕ → Option (List ℕ)
first_codes j r = cond (nat_lt (length r) j) None (Some (take j r))

lt_suc : (a b : ℕ) → nat_lt (suc a) (suc b) ≡ nat_lt a b
lt_suc a b = grind (arith, nat_tests)

front_codes : (j : ℕ) (bs : List ℕ) → j ≤ length bs → codes_of (take j bs) ≡ first_codes j (leading bs)
front_codes zero bs h =
    let all : nat_lt (length (leading bs)) 0 ≡ false = grind (arith, nat_tests) in
    rw all refl
front_codes (suc j) [] h = absurd (omega arith)
front_codes (suc j) (b ∷ bs) h = go (code_of b) (front_codes j bs (omega arith))
  where
    put : (c : ℕ) (t : Bool) → option_map (λ (cs : List ℕ). c ∷ cs) (cond t None (Some (take j (leading bs)))) ≡ cond t None (Some (c ∷ take j (leading bs)))
    put c true = refl
    put c false = refl

    go : (o : Option ℕ) → codes_of (take j bs) ≡ first_codes j (leading bs)
        → option_and_then (λ c. option_map (λ cs. c ∷ cs) (codes_of (take j bs))) o ≡ first_codes (suc j) (led_by o (leading bs))
    go None e =
        let none : nat_lt 0 (suc j) ≡ true = grind (arith, nat_tests) in
        rw none refl
    go (Some c) e = rw (e, lt_suc (length (leading bs)) j) (put c (nat_lt (length (leading bs)) j))

word_here : (k : ℕ) (bs : List ℕ) → word_at k bs 0 ≡ first_codes k (leading bs)
word_here k bs = go (nat_lt (length bs) (0 + k)) refl
  where
    go : (t : Bool) → nat_lt (length bs) (0 + k) ≡ t → cond t None (codes_of (take k bs)) ≡ first_codes k (leading bs)
    go true e =
        let within = run_within bs in
        let short : nat_lt (length (leading bs)) k ≡ true = grind (arith, nat_tests) in
        rw short refl
    go false e =
        let enough : k ≤ length bs = grind (arith, nat_tests) in
        front_codes k bs enough

-- ---- the list of the counted places, from place a on

abbrev from : ℕ → ℕ → List ℕ → ℕ → Option (ℕ × List ℕ)
from k a bs i = option_map (λ w. (a + i, w)) (word_at k bs i)

abbrev counted_from : ℕ → ℕ → List ℕ → Placed
counted_from k a bs = filter_map (from k a bs) (range_with_len 0 (length bs))

shift_filter : (f : ℕ → Option (ℕ × List ℕ)) (a n : ℕ) → filter_map f (range_with_len (a + 1) n) ≡ filter_map (λ i. f (i + 1)) (range_with_len a n)
shift_filter f a zero = refl
shift_filter f a (suc n) = ap (cons_option (f (a + 1))) (shift_filter f (a + 1) n)

shift_map : (f : ℕ → ℕ × List ℕ) (a n : ℕ) → map f (range_with_len (a + 1) n) ≡ map (λ i. f (i + 1)) (range_with_len a n)
shift_map f a zero = refl
shift_map f a (suc n) = ap (λ (t : Placed). f (a + 1) ∷ t) (shift_map f (a + 1) n)

next_word : (k b : ℕ) (bs : List ℕ) (i : ℕ) → word_at k (b ∷ bs) (i + 1) ≡ word_at k bs i
next_word k b bs i =
    let same : nat_lt (suc (length bs)) (i + 1 + k) ≡ nat_lt (length bs) (i + k) = grind (arith, nat_tests) in
    rw (same, add-one) refl

counted_more : (k a b : ℕ) (bs : List ℕ) → counted_from k a (b ∷ bs) ≡ cons_option (option_map (λ w. (a, w)) (word_at k (b ∷ bs) 0)) (counted_from k (a + 1) bs)
counted_more k a b bs =
    let first : a + 0 ≡ a = add-zero a in
    let place : (i : ℕ) → a + (i + 1) ≡ a + 1 + i = λ i. omega arith in
    (λ j. cons_option (option_map (λ w. (first j, w)) (word_at k (b ∷ bs) 0)) (shift_filter (from k a (b ∷ bs)) 0 (length bs) j))
    ∙ (λ j. cons_option (option_map (λ w. (a, w)) (word_at k (b ∷ bs) 0))
    (filter_map (λ i. option_map (λ w. (place i j, w)) (next_word k b bs i j)) (range_with_len 0 (length bs))))

-- ---- the words of a stretch

abbrev placed : ℕ → ℕ → List ℕ → Placed
placed k a r = placed_words k (record { start = a; codes = r })

abbrev first_word : ℕ → ℕ → List ℕ → Placed
first_word k a r = cond (nat_lt (length r) k) [] ((a, take k r) ∷ [])

none_placed : (k a : ℕ) (r : List ℕ) → length r < k → placed k a r ≡ []
none_placed k a r short =
    let none : length r + 1 - k ≡ 0 = omega arith in
    rw none refl

placed_more : (k : ℕ) → 1 ≤ k → (a c : ℕ) (r : List ℕ) → placed k a (c ∷ r) ≡ first_word k a (c ∷ r) ++ placed k (a + 1) r
placed_more k some a c r = go (nat_lt (suc (length r)) k) refl
  where
    go : (t : Bool) → nat_lt (suc (length r)) k ≡ t → placed k a (c ∷ r) ≡ cond t [] ((a, take k (c ∷ r)) ∷ []) ++ placed k (a + 1) r
    go true e =
        let short : suc (length r) < k = grind (arith, nat_tests) in
        none_placed k a (c ∷ r) short ∙ sym (none_placed k (a + 1) r (omega arith))
    go false e =
        let enough : k ≤ suc (length r) = grind (arith, nat_tests) in
        let count : suc (length r) + 1 - k ≡ suc (length r + 1 - k) = omega arith in
        let f : ℕ → ℕ × List ℕ = λ i. (a + i, window k (c ∷ r) i) in
        let place : (i : ℕ) → a + (i + 1) ≡ a + 1 + i = λ i. omega arith in
        let code : (i : ℕ) → window k (c ∷ r) (i + 1) ≡ window k r i = λ i. rw add-one refl in
        ap (λ n. map f (range_with_len 0 n)) count
        ∙ (λ j. (add-zero a j, take k (c ∷ r)) ∷ shift_map f 0 (length r + 1 - k) j)
        ∙ (λ j. (a, take k (c ∷ r)) ∷ map (λ i. (place i j, code i j)) (range_with_len 0 (length r + 1 - k)))

-- ---- the first stretch is the leading of bases that the text begins with

-- the words of the stretches with and without one more base in front
record Split (k a : ℕ) (t : List ℕ) : Type 0 where
  after : Placed
  without : flat_map (placed_words k) (stretches_from (a + 1) t) ≡ placed k (a + 1) (leading t) ++ after
  with_one : (c : ℕ) → flat_map (placed_words k) (with_place a (Some c) (stretches_from (a + 1) t)) ≡ placed k a (c ∷ leading t) ++ after

abbrev pub IsLed : ℕ → List ℕ → List Stretch → Type 0
IsLed a r ss = ((r ≡ []) × Apart a ss) ⊎ ((rest : List Stretch) × (ss ≡ record { start = a; codes = r } ∷ rest))

pub led : (a : ℕ) (bs : List ℕ) → IsLed a (leading bs) (stretches_from a bs)
led a [] = inl (refl, tt)
led a (b ∷ bs) = go (code_of b) (stretches_from (a + 1) bs) (apart_from (a + 1) a bs (omega arith)) (led (a + 1) bs)
  where
    beside : (c : ℕ) (r : List ℕ) (ss : List Stretch) → r ≡ [] → Apart (a + 1) ss → IsLed a (c ∷ r) (with_place a (Some c) ss)
    beside c r [] e apart = inr ([], λ j. record { start = a; codes = c ∷ sym e j } ∷ [])
    beside c r (s ∷ ss) e apart =
        let other : (s.start == a + 1) ≡ false = ne_eqb s.start (a + 1) (λ h. omega arith) in
        inr (s ∷ ss, rw other (λ j. record { start = a; codes = c ∷ sym e j } ∷ s ∷ ss))

    go : (o : Option ℕ) (ss : List Stretch) → Apart a ss → IsLed (a + 1) (leading bs) ss → IsLed a (led_by o (leading bs)) (with_place a o ss)
    go None ss apart h = inl (refl, apart)
    go (Some c) ss apart (inl h) = beside c (leading bs) ss h.0 h.1
    go (Some c) ss apart (inr h) =
        let same : (a + 1 == a + 1) ≡ true = eq-eqb (a + 1) (a + 1) refl in
        inr (h.0, ap (with_place a (Some c)) h.1 ∙ rw same refl)

nothing : (k a : ℕ) → 1 ≤ k → placed k a [] ≡ []
nothing k a some = none_placed k a [] some

split : (k : ℕ) → 1 ≤ k → (a : ℕ) (t : List ℕ) → Split k a t
split k some a t = go (stretches_from (a + 1) t) refl (led (a + 1) t)
  where
    alone : (c : ℕ) (ss : List Stretch) → Apart (a + 1) ss → with_place a (Some c) ss ≡ record { start = a; codes = c ∷ [] } ∷ ss
    alone c [] apart = refl
    alone c (s ∷ ss) apart =
        let other : (s.start == a + 1) ≡ false = ne_eqb s.start (a + 1) (λ h. omega arith) in
        rw other refl

    go : (ss : List Stretch) → stretches_from (a + 1) t ≡ ss → IsLed (a + 1) (leading t) ss → Split k a t
    go ss e (inl h) = record {
      after = flat_map (placed_words k) ss;
      without = ap (flat_map (placed_words k)) e ∙ ap (λ (p : Placed). p ++ flat_map (placed_words k) ss)
          (sym (ap (placed k (a + 1)) h.0 ∙ nothing k (a + 1) some));
      with_one = λ c. ap (λ (u : List Stretch). flat_map (placed_words k) (with_place a (Some c) u)) e ∙ ap (flat_map (placed_words k)) (alone c ss h.1)
          ∙ ap (λ (r : List ℕ). placed k a (c ∷ r) ++ flat_map (placed_words k) ss) (sym h.0);
    }
    go ss e (inr h) =
        let same : (a + 1 == a + 1) ≡ true = eq-eqb (a + 1) (a + 1) refl in
        record {
          after = flat_map (placed_words k) h.0;
          without = ap (flat_map (placed_words k)) (e ∙ h.1);
          with_one = λ c. ap (λ (u : List Stretch). flat_map (placed_words k) (with_place a (Some c) u)) (e ∙ h.1) ∙ rw same refl;
        }

-- ---- all words

chosen : (k a : ℕ) (r : List ℕ) (rest : Placed) → cons_option (option_map (λ w. (a, w)) (first_codes k r)) rest ≡ first_word k a r ++ rest
chosen k a r rest = go (nat_lt (length r) k)
  where
    go : (t : Bool) → cons_option (option_map (λ w. (a, w)) (cond t None (Some (take k r)))) rest ≡ cond t [] ((a, take k r) ∷ []) ++ rest
    go true = refl
    go false = refl

all_from : (k : ℕ) → 1 ≤ k → (a : ℕ) (bs : List ℕ) → flat_map (placed_words k) (stretches_from a bs) ≡ counted_from k a bs
all_from k some a [] = refl
all_from k some a (b ∷ bs) = go (code_of b) refl (all_from k some (a + 1) bs)
  where
    first : (o : Option ℕ) → code_of b ≡ o → counted_from k a (b ∷ bs) ≡ first_word k a (led_by o (leading bs)) ++ counted_from k (a + 1) bs
    first o e =
        counted_more k a b bs
        ∙ ap (λ w. cons_option (option_map (λ w. (a, w)) w) (counted_from k (a + 1) bs))
        (word_here k (b ∷ bs) ∙ ap (λ p. first_codes k (led_by p (leading bs))) e)
        ∙ chosen k a (led_by o (leading bs)) (counted_from k (a + 1) bs)

    go : (o : Option ℕ) → code_of b ≡ o → flat_map (placed_words k) (stretches_from (a + 1) bs) ≡ counted_from k (a + 1) bs
        → flat_map (placed_words k) (stretches_from a (b ∷ bs)) ≡ counted_from k a (b ∷ bs)
    go None e more =
        let short : nat_lt 0 k ≡ true = grind (arith, nat_tests) in
        ap (λ o. flat_map (placed_words k) (with_place a o (stretches_from (a + 1) bs))) e
        ∙ more ∙ sym (first None e ∙ rw short refl)
    go (Some c) e more =
        let s = split k some a bs in
        ap (λ o. flat_map (placed_words k) (with_place a o (stretches_from (a + 1) bs))) e
        ∙ s.with_one c
        ∙ ap (λ (p : Placed). p ++ s.after) (placed_more k some a c (leading bs))
        ∙ append_assoc (first_word k a (c ∷ leading bs)) (placed k (a + 1) (leading bs)) s.after
        ∙ ap (λ (p : Placed). first_word k a (c ∷ leading bs) ++ p) (sym s.without ∙ more)
        ∙ sym (first (Some c) e)

-- stretches that are too short have no words
without_short : (k : ℕ) → 1 ≤ k → (ss : List Stretch) → flat_map (placed_words k) (filter (λ s. nat_le k (length s.codes)) ss) ≡ flat_map (placed_words k) ss
without_short k some [] = refl
without_short k some (s ∷ ss) = go (nat_le k (length s.codes)) refl (without_short k some ss)
  where
    go : (t : Bool) → nat_le k (length s.codes) ≡ t → flat_map (placed_words k) (filter (λ s. nat_le k (length s.codes)) ss) ≡ flat_map (placed_words k) ss
        → flat_map (placed_words k) (filter (λ s. nat_le k (length s.codes)) (s ∷ ss)) ≡ placed_words k s ++ flat_map (placed_words k) ss
    go true e more = rw e (ap (λ (p : Placed). placed_words k s ++ p) more)
    go false e more =
        let short : length s.codes < k = grind (arith, nat_tests) in
        rw e (more ∙ ap (λ (p : Placed). p ++ flat_map (placed_words k) ss) (sym (none_placed k s.start s.codes short)))

pub segments_are_counted : (k : ℕ) (read : List ℕ) → 1 ≤ k → flat_map (placed_words k) (segments_of k read) ≡ counted_words k read
segments_are_counted k read some =
    without_short k some (stretches_from 0 read) ∙ all_from k some 0 read
    ∙ (λ j. filter_map (λ i. option_map (λ w. (zero-add i j, w)) (word_at k read i)) (range_with_len 0 (length read)))

-- ---- the keys of the segments are those of the counted places

keys_placed : (strands : Strands) (k : ℕ) (s : Stretch) (ns : List ℕ) → map (λ i. key strands (window k s.codes i)) ns ≡ map (placed_key strands)
    (map (λ i. (s.start + i, window k s.codes i)) ns)
keys_placed strands k s [] = refl
keys_placed strands k s (n ∷ ns) = ap (λ (t : List (List ℕ)). key strands (window k s.codes n) ∷ t) (keys_placed strands k s ns)

keys_of_placed : (strands : Strands) (k : ℕ) (ss : List Stretch) → flat_map (λ s. keys strands k s.codes) ss ≡ map (placed_key strands)
    (flat_map (placed_words k) ss)
keys_of_placed strands k [] = refl
keys_of_placed strands k (s ∷ ss) =
    (λ j. keys_placed strands k s (range_with_len 0 (length s.codes + 1 - k)) j ++ keys_of_placed strands k ss j)
    ∙ sym (map-append (placed_key strands) (placed_words k s) (flat_map (placed_words k) ss))

pub keys_of_segments : (strands : Strands) (k : ℕ) (read : List ℕ) → 1 ≤ k → flat_map (λ s. keys strands k s.codes) (segments_of k read) ≡ map
    (placed_key strands) (counted_words k read)
keys_of_segments strands k read some = keys_of_placed strands k (segments_of k read) ∙ ap (map (placed_key strands)) (segments_are_counted k read some)
