-- Steps of the loops over a word.
use Rattle.std.proofs.Common.{◌≡◌, ℕ, ◌+◌, ◌*◌, ◌-◌, ◌/◌, ◌%◌, ◌^◌, ◌<◌, ◌≤◌, List, ◌++◌, length, sym, ap, ◌∙◌, arith, map, append_assoc, true, false, Bool, cond}
use Rattle.std.proofs.lemmas.List.{length-reverse, length-map}
use Rattle.std.proofs.lemmas.Bool.Decides.{nat_tests}
use Rattle.std.specs.Ordering.{nat_cmp, is_lt}
use Rattle.kmc_base.specs.Words.{complement, rev_comp, word_cmp, canonical}
use Rattle.kmc_base.specs.Packed.{unpack}
use Rattle.kmc_base.specs.Lemmas.Packing.{length_unpack, unpack_more, rev_comp_more, cmp_unpack}

-- a code of the reverse complement is made
pub code_made : (n i p rest : ℕ) (whole : List ℕ) → i < n → unpack i p ++ rev_comp (unpack (n - i) rest) ≡ whole
    → unpack (i + 1) (p * 4 + (3 - rest % 4)) ++ rev_comp (unpack (n - (i + 1)) (rest / 4)) ≡ whole
code_made n i p rest whole less before =
    let count : n - i ≡ (n - (i + 1)) + 1 = omega arith in
    let small : 3 - rest % 4 < 4 = omega arith in
    let front = rev_comp_more (n - (i + 1)) rest in
    ap (λ (t : List ℕ). t ++ rev_comp (unpack (n - (i + 1)) (rest / 4))) (unpack_more i p (3 - rest % 4) small)
    ∙ append_assoc (unpack i p) _ _
    ∙ ap (λ (t : List ℕ). unpack i p ++ t) (sym front)
    ∙ ap (λ j. unpack i p ++ rev_comp (unpack j rest)) (sym count) ∙ before

below : (q p : ℕ) → q < p → is_lt (nat_cmp q p) ≡ true
below q p less = grind (arith, nat_tests)

not_below : (q p : ℕ) → p ≤ q → is_lt (nat_cmp q p) ≡ false
not_below q p most = grind (arith, nat_tests)

chosen : (b : Bool) (w : List ℕ) → is_lt (word_cmp (rev_comp w) w) ≡ b → canonical w ≡ cond b (rev_comp w) w
chosen b w e = ap (λ c. cond c (rev_comp w) w) e

same_order : (n p q : ℕ) (w v : List ℕ) → p < 4 ^ n → q < 4 ^ n → unpack n p ≡ w → unpack n q ≡ v → word_cmp v w ≡ nat_cmp q p
same_order n p q w v hp hq is other = (λ i. word_cmp (sym other i) (sym is i)) ∙ cmp_unpack n q p hq hp

-- a word and its reverse complement are as long
pub as_long : (n m p q : ℕ) (w : List ℕ) → unpack n p ≡ w → unpack m q ≡ rev_comp w → m ≡ n
as_long n m p q w is other =
    sym (length_unpack m q) ∙ ap length other ∙ length-reverse (map complement w) ∙ length-map w complement ∙ ap length (sym is) ∙ length_unpack n p

-- the lesser number is the lesser word
pub lesser : (n m p q : ℕ) (w : List ℕ) → p < 4 ^ n → q < 4 ^ m → unpack n p ≡ w → unpack m q ≡ rev_comp w → q < p → unpack m q ≡ canonical w
lesser n m p q w hp hq is other less =
    let e = as_long n m p q w is other in
    other ∙ sym (chosen true w (ap is_lt (same_order n p q w _ hp (rw e at hq) is (rw e at other)) ∙ below q p less))

pub not_lesser : (n m p q : ℕ) (w : List ℕ) → p < 4 ^ n → q < 4 ^ m → unpack n p ≡ w → unpack m q ≡ rev_comp w → p ≤ q → unpack n p ≡ canonical w
not_lesser n m p q w hp hq is other most =
    let e = as_long n m p q w is other in
    is ∙ sym (chosen false w (ap is_lt (same_order n p q w _ hp (rw e at hq) is (rw e at other)) ∙ not_below q p most))
