-- Neighbouring A by bits.
use Rattle.std.proofs.Common.{◌≡◌, ℕ, zero, suc, ◌+◌, ◌-◌, ◌*◌, ◌/◌, ◌%◌, ◌^◌, ◌<◌, ◌≤◌, ◌==◌, ◌||◌, ◌&&◌, Bool, true, false, not, cond, nat_eq, List, [], ◌∷◌, ◌++◌, length, drop, take, refl, sym, ap, ◌∙◌, arith, add-one, ◌⊎◌, inl, inr, bit_and, bit_or}
use Rattle.std.proofs.lemmas.Nat.{and_block, or_shr, or_mod, and_le_r}
use Rattle.std.proofs.lemmas.Bool.Decides.{nat_tests}
use Rattle.std.specs.Cmp.Lexicographic.{pointwise}
use Rattle.kmc_base.specs.Packed.{unpack}
use Rattle.std.proofs.Math.Nat.{div-div-eq-div-mul, pow-succ'}
use Rattle.kmc_base.specs.Lemmas.Packing.{length_unpack}
use Rattle.kmc_base.specs.Lemmas.Powers.{pow_up, pow_quad}
use Rattle.kmc_split.specs.Signature.{has_pair, begins, is_allowed}
use Rattle.kmc_split.specs.Candidates.{pair_marks}

-- 1 for an A
abbrev pub is_a : ℕ → ℕ
is_a c = cond (nat_eq c 0) 1 0

abbrev pub either : ℕ → ℕ
either p = bit_or p (p / 2)

-- a mark at each A among the n last codes
abbrev pub marks : ℕ → ℕ → ℕ
marks n p = pair_marks n - bit_and (either p) (pair_marks n)

below4 : (r : ℕ) → r < 4 → (r ≡ 0) ⊎ ((r ≡ 1) ⊎ ((r ≡ 2) ⊎ (r ≡ 3)))
below4 r h = grind arith

-- the lowest pair of bits
low_pair : (r h : ℕ) → r < 4 → h < 4 → h % 2 ≡ r / 2 → 1 - bit_and (bit_or r h) 1 ≡ is_a r
low_pair r h rs hs e = pick (below4 r rs) (below4 h hs)
  where
    pick : (r ≡ 0) ⊎ ((r ≡ 1) ⊎ ((r ≡ 2) ⊎ (r ≡ 3))) → (h ≡ 0) ⊎ ((h ≡ 1) ⊎ ((h ≡ 2) ⊎ (h ≡ 3))) → 1 - bit_and (bit_or r h) 1 ≡ is_a r
    pick (inl a) (inl b) = rw (a, b) refl
    pick (inl a) (inr (inl b)) = absurd (omega arith)
    pick (inl a) (inr (inr (inl b))) = rw (a, b) refl
    pick (inl a) (inr (inr (inr b))) = absurd (omega arith)
    pick (inr (inl a)) (inl b) = rw (a, b) refl
    pick (inr (inl a)) (inr (inl b)) = absurd (omega arith)
    pick (inr (inl a)) (inr (inr (inl b))) = rw (a, b) refl
    pick (inr (inl a)) (inr (inr (inr b))) = absurd (omega arith)
    pick (inr (inr (inl a))) (inl b) = absurd (omega arith)
    pick (inr (inr (inl a))) (inr (inl b)) = rw (a, b) refl
    pick (inr (inr (inl a))) (inr (inr (inl b))) = absurd (omega arith)
    pick (inr (inr (inl a))) (inr (inr (inr b))) = rw (a, b) refl
    pick (inr (inr (inr a))) (inl b) = absurd (omega arith)
    pick (inr (inr (inr a))) (inr (inl b)) = rw (a, b) refl
    pick (inr (inr (inr a))) (inr (inr (inl b))) = absurd (omega arith)
    pick (inr (inr (inr a))) (inr (inr (inr b))) = rw (a, b) refl

split4 : (x : ℕ) → x ≡ x / 4 * 4 + x % 4
split4 x = omega arith

either_high : (p : ℕ) → either p / 4 ≡ either (p / 4)
either_high p =
    let e : p / 2 / 4 ≡ p / 4 / 2 = omega arith in
    or_shr p (p / 2) 2 ∙ ap (bit_or (p / 4)) e

either_low : (p : ℕ) → either p % 4 ≡ bit_or (p % 4) (p / 2 % 4)
either_low p = or_mod p (p / 2) 2

and_more : (x n : ℕ) → bit_and x (pair_marks (suc n)) ≡ bit_and (x / 4) (pair_marks n) * 4 + bit_and (x % 4) 1
and_more x n =
    ap (λ (y : ℕ). bit_and y (pair_marks n * 4 + 1)) (split4 x)
    ∙ and_block 2 (x / 4) (pair_marks n) (x % 4) 1 (omega arith) (omega arith)

pub marks_more : (n p : ℕ) → marks (suc n) p ≡ marks n (p / 4) * 4 + is_a (p % 4)
marks_more n p =
    let all = and_more (either p) n in
    let high : bit_and (either p / 4) (pair_marks n) ≡ bit_and (either (p / 4)) (pair_marks n) = ap (λ (y : ℕ). bit_and y (pair_marks n)) (either_high p) in
    let low : bit_and (either p % 4) 1 ≡ bit_and (bit_or (p % 4) (p / 2 % 4)) 1 = ap (λ (y : ℕ). bit_and y 1) (either_low p) in
    let is = low_pair (p % 4) (p / 2 % 4) (omega arith) (omega arith) (omega arith) in
    let most = and_le_r (either (p / 4)) (pair_marks n) in
    let one = and_le_r (bit_or (p % 4) (p / 2 % 4)) 1 in
    omega arith

-- the marks of two neighbours
abbrev pub pair_bits : ℕ → ℕ → ℕ
pair_bits n p = bit_and (marks n p) (marks n p / 4)

a_small : (c : ℕ) → is_a c < 4
a_small c = grind (arith, nat_tests)

marks_high : (n p : ℕ) → marks (suc n) p / 4 ≡ marks n (p / 4)
marks_high n p = let m = marks_more n p in let s = a_small (p % 4) in omega arith

pair_more : (n p : ℕ) → pair_bits (suc (suc n)) p ≡ pair_bits (suc n) (p / 4) * 4 + bit_and (is_a (p % 4)) (is_a (p / 4 % 4))
pair_more n p =
    (λ i. bit_and (marks_more (suc n) p i) (marks_high (suc n) p i))
    ∙ ap (λ (y : ℕ). bit_and (marks (suc n) (p / 4) * 4 + is_a (p % 4)) y) (marks_more n (p / 4))
    ∙ and_block 2 (marks (suc n) (p / 4)) (marks n (p / 4 / 4)) (is_a (p % 4)) (is_a (p / 4 % 4)) (a_small (p % 4)) (a_small (p / 4 % 4))
    ∙ ap (λ (y : ℕ). bit_and (marks (suc n) (p / 4)) y * 4 + bit_and (is_a (p % 4)) (is_a (p / 4 % 4))) (sym (marks_high n (p / 4)))

has_pair_more : (xs : List ℕ) (a b : ℕ) → has_pair ((xs ++ a ∷ []) ++ b ∷ []) ≡ (has_pair (xs ++ a ∷ []) || ((a == 0) && (b == 0)))
has_pair_more [] a b = or_swap ((a == 0) && (b == 0))
  where
    or_swap : (t : Bool) → (t || false) ≡ (false || t)
    or_swap true = refl
    or_swap false = refl
has_pair_more (x ∷ []) a b = or_move ((x == 0) && (a == 0)) ((a == 0) && (b == 0))
  where
    or_move : (s t : Bool) → (s || (t || false)) ≡ ((s || false) || t)
    or_move true true = refl
    or_move true false = refl
    or_move false true = refl
    or_move false false = refl
has_pair_more (x ∷ y ∷ xs) a b =
    ap (λ (t : Bool). ((x == 0) && (y == 0)) || t) (has_pair_more (y ∷ xs) a b)
    ∙ or_assoc ((x == 0) && (y == 0)) (has_pair ((y ∷ xs) ++ a ∷ [])) ((a == 0) && (b == 0))
  where
    or_assoc : (r s t : Bool) → (r || (s || t)) ≡ ((r || s) || t)
    or_assoc true s t = refl
    or_assoc false s t = refl

both : (c d x : ℕ) → nat_eq (x * 4 + bit_and (is_a d) (is_a c)) 0 ≡ (nat_eq x 0 && not ((c == 0) && (d == 0)))
both zero zero x = grind (arith, nat_tests)
both zero (suc d) x = grind (arith, nat_tests)
both (suc c) zero x = grind (arith, nat_tests)
both (suc c) (suc d) x = grind (arith, nat_tests)

pub no_pair : (n p : ℕ) → nat_eq (pair_bits n p) 0 ≡ not (has_pair (unpack n p))
no_pair zero p =
    let z : marks 0 p ≡ 0 = omega arith in
    ap (λ (y : ℕ). nat_eq (bit_and y (y / 4)) 0) z
no_pair (suc zero) p =
    let m = marks_more zero p in
    let s = a_small (p % 4) in
    let high : marks 1 p / 4 ≡ 0 = omega arith in
    ap (λ (y : ℕ). nat_eq (bit_and (marks 1 p) y) 0) high ∙ zero_and (marks 1 p)
  where
    zero_and : (x : ℕ) → nat_eq (bit_and x 0) 0 ≡ true
    zero_and x = let h : bit_and x 0 ≤ 0 = and_le_r x 0 in grind (arith, nat_tests)
no_pair (suc (suc n)) p =
    ap (λ (y : ℕ). nat_eq y 0) (pair_more n p)
    ∙ both (p / 4 % 4) (p % 4) (pair_bits (suc n) (p / 4))
    ∙ ap (λ (t : Bool). t && not ((p / 4 % 4 == 0) && (p % 4 == 0))) (no_pair (suc n) (p / 4))
    ∙ de_morgan (has_pair (unpack (suc n) (p / 4))) ((p / 4 % 4 == 0) && (p % 4 == 0))
    ∙ ap not (sym (has_pair_more (unpack n (p / 4 / 4)) (p / 4 % 4) (p % 4)))
  where
    de_morgan : (s t : Bool) → (not s && not t) ≡ not (s || t)
    de_morgan true t = refl
    de_morgan false t = refl

-- ---- the first codes

take_front : (n : ℕ) (xs : List ℕ) (c : ℕ) → n ≤ length xs → take n (xs ++ c ∷ []) ≡ take n xs
take_front zero xs c h = refl
take_front (suc n) [] c h = absurd (omega arith)
take_front (suc n) (x ∷ xs) c h = ap (λ (t : List ℕ). x ∷ t) (take_front n xs c (omega arith))

drop_front : (xs : List ℕ) (c : ℕ) → 1 ≤ length xs → drop 1 (xs ++ c ∷ []) ≡ drop 1 xs ++ c ∷ []
drop_front [] c h = absurd (omega arith)
drop_front (x ∷ xs) c h = refl

pub drop_unpack : (n p : ℕ) → drop 1 (unpack (suc n) p) ≡ unpack n p
drop_unpack zero p = refl
drop_unpack (suc n) p =
    drop_front (unpack (suc n) (p / 4)) (p % 4) (omega (arith, length_unpack (suc n) (p / 4)))
    ∙ ap (λ (t : List ℕ). t ++ p % 4 ∷ []) (drop_unpack n (p / 4))

first_three : (j p : ℕ) → take 3 (unpack (suc (suc (suc j))) p) ≡ unpack 3 (p / 4 ^ j)
first_three zero p =
    let one : p / 1 ≡ p = omega arith in
    sym (ap (unpack 3) one)
first_three (suc j) p =
    take_front 3 (unpack (suc (suc (suc j))) (p / 4)) (p % 4) (omega (arith, length_unpack (suc (suc (suc j))) (p / 4)))
    ∙ first_three j (p / 4)
    ∙ ap (unpack 3) (div-div-eq-div-mul p 4 (4 ^ j) ∙ ap (λ d. p / d) (sym (pow-succ' 4 j)))

aaa : (x y z h : ℕ) → h ≡ x * 16 + y * 4 + z → (nat_eq x 0 && (nat_eq y 0 && (nat_eq z 0 && true))) ≡ nat_eq h 0
aaa x y z h e = grind (arith, nat_tests)

aca : (x y z h : ℕ) → x < 4 → y < 4 → z < 4 → h ≡ x * 16 + y * 4 + z → (nat_eq x 0 && (nat_eq y 1 && (nat_eq z 0 && true))) ≡ nat_eq h 4
aca x y z h xs ys zs e = grind (arith, nat_tests)

head_fits : (j p : ℕ) → p < 4 ^ suc (suc (suc j)) → p / 4 ^ j < 64
head_fits zero p h =
    let one : p / 1 ≡ p = omega arith in omega arith
head_fits (suc j) p h =
    let up : 4 ^ suc (suc (suc (suc j))) ≡ 4 ^ suc (suc (suc j)) * 4 = omega arith in
    let smaller : p / 4 < 4 ^ suc (suc (suc j)) = omega arith in
    let rest = head_fits j (p / 4) smaller in
    let same : p / 4 / 4 ^ j ≡ p / 4 ^ suc j = div-div-eq-div-mul p 4 (4 ^ j) ∙ ap (λ d. p / d) (sym (pow-succ' 4 j)) in
    omega arith

pub allowed_long : (m p marks_given : ℕ) → 3 ≤ m → p < 4 ^ m → marks_given ≡ pair_marks (m - 1)
    → ((not (nat_eq (p / 2 ^ (2 * (m - 3))) 0) && not (nat_eq (p / 2 ^ (2 * (m - 3))) 4)) && nat_eq
    (bit_and (marks_given - bit_and (either p) marks_given) ((marks_given - bit_and (either p) marks_given) / 4)) 0) ≡ is_allowed (unpack m p)
allowed_long zero p g some fits e = absurd (omega arith)
allowed_long (suc zero) p g some fits e = absurd (omega arith)
allowed_long (suc (suc zero)) p g some fits e = absurd (omega arith)
allowed_long (suc (suc (suc j))) p g some fits e =
    let three : suc (suc (suc j)) - 3 ≡ j = omega arith in
    let less : suc (suc (suc j)) - 1 ≡ suc (suc j) = omega arith in
    let w : List ℕ = unpack (suc (suc (suc j))) p in
    let head : p / 2 ^ (2 * (suc (suc (suc j)) - 3)) ≡ p / 4 ^ j = ap (λ (d : ℕ). p / 2 ^ (2 * d)) three ∙ ap (λ (d : ℕ). p / d) (sym (pow_quad j)) in
    let h = p / 4 ^ j in
    let fit = head_fits j p fits in
    let is_aaa : begins (0 ∷ 0 ∷ 0 ∷ []) w ≡ nat_eq h 0 = ap (λ (t : List ℕ). pointwise nat_eq t (0 ∷ 0 ∷ 0 ∷ [])) (first_three j p) ∙ aaa
    (h / 4 / 4 % 4) (h / 4 % 4) (h % 4) h (omega arith) in
    let is_aca : begins (0 ∷ 1 ∷ 0 ∷ []) w ≡ nat_eq h 4 = ap (λ (t : List ℕ). pointwise nat_eq t (0 ∷ 1 ∷ 0 ∷ [])) (first_three j p) ∙ aca
    (h / 4 / 4 % 4) (h / 4 % 4) (h % 4) h (omega arith) (omega arith) (omega arith) (omega arith) in
    let is_apart : nat_eq (bit_and (g - bit_and (either p) g) ((g - bit_and (either p) g) / 4)) 0 ≡ not (has_pair (drop 1 w)) =
    ap (λ (y : ℕ). nat_eq (bit_and (y - bit_and (either p) y) ((y - bit_and (either p) y) / 4)) 0) (e ∙ ap pair_marks less) ∙ no_pair (suc (suc j)) p
    ∙ ap (λ (t : List ℕ). not (has_pair t)) (sym (drop_unpack (suc (suc j)) p)) in
    let ra = sym is_aaa in
    let rc = sym is_aca in
    (λ i. (not (nat_eq (head i) 0) && not (nat_eq (head i) 4)) && is_apart i) ∙ (λ i. (not (ra i) && not (rc i)) && not (has_pair (drop 1 w)))

pub pair_marks_fit : (n : ℕ) → pair_marks n < 4 ^ n
pair_marks_fit zero = omega arith
pair_marks_fit (suc n) = let h = pair_marks_fit n in omega arith

pub pair_marks_more : (n : ℕ) → pair_marks (n + 1) ≡ pair_marks n * 4 + 1
pair_marks_more n = rw add-one refl

pub marks_room : (n : ℕ) → n < 11 → pair_marks n * 4 + 1 < 2 ^ 32
marks_room n less =
    let parts : (10 - n) + n ≡ 10 = omega arith in
    let up : 4 ^ n ≤ 4 ^ 10 = rw parts at (pow_up n (10 - n)) in
    omega (arith, pair_marks_fit n)
