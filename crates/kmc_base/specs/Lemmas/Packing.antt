-- Packing and unpacking.
use Rattle.std.proofs.Common.{◌≡◌, ℕ, zero, suc, ◌+◌, ◌*◌, ◌-◌, ◌/◌, ◌%◌, ◌^◌, ◌<◌, ◌≤◌, List, [], ◌∷◌, ◌++◌, length, refl, sym, ap, ◌∙◌, arith, append_assoc, append-nil, add-zero, length-append, reverse, map, add-one, get_or}
use Rattle.std.proofs.lemmas.List.{reverse-append, map-append, get_or-append_right, get_or_append_left}
use Rattle.std.proofs.Math.Arith.{mod-mul}
use Rattle.std.proofs.Math.Nat.{div-div-eq-div-mul, pow-succ'}
use Rattle.std.proofs.lemmas.Bool.Decides.{nat_tests}
use Rattle.std.specs.Ordering.{nat_cmp, ordering_then}
use Rattle.std.specs.Cmp.Lexicographic.{slice_cmp}
use Rattle.std.specs.declared.cmp.Ordering.{Ordering}
use Rattle.std.specs.declared.cmp.Ordering.TheVariants.{Less, Equal, Greater}
use Rattle.kmc_base.specs.declared.kmer.Kmer.TheInside.{Inside}
use Rattle.kmc_base.specs.Lemmas.Powers.{pow_up, pow_quad, pow_some}
use Rattle.kmc_base.specs.Words.{complement, rev_comp}
use Rattle.kmc_base.specs.Packed.{unpack, pack_after, pack, IsPacked}

pub length_unpack : (n p : ℕ) → length (unpack n p) ≡ n
length_unpack zero p = refl
length_unpack (suc n) p = length-append (unpack n (p / 4)) (p % 4 ∷ []) ∙ omega (arith, length_unpack n (p / 4))

-- ---- the high codes and the low codes

quarter_at : (p j : ℕ) → p / 4 / 4 ^ j ≡ p / 4 ^ suc j
quarter_at p j = div-div-eq-div-mul p 4 (4 ^ j) ∙ ap (λ d. p / d) (sym (pow-succ' 4 j))

low_digits : (m p : ℕ) → p % 4 ^ suc m ≡ (p / 4 % 4 ^ m) * 4 + p % 4
low_digits m p =
    let some : zero < 4 ^ m = omega (arith, pow_some m) in
    let four : zero < 4 = omega arith in
    let power : 4 ^ suc m ≡ 4 ^ m * 4 = omega (arith, pow-succ' 4 m) in
    ap (λ n. p % n) power ∙ mod-mul p some four

-- only the low codes count
pub unpack_low : (m p : ℕ) → unpack m (p % 4 ^ m) ≡ unpack m p
unpack_low zero p = refl
unpack_low (suc m) p =
    let high : p % 4 ^ suc m / 4 ≡ p / 4 % 4 ^ m = omega (arith, low_digits m p) in
    let low : p % 4 ^ suc m % 4 ≡ p % 4 = omega (arith, low_digits m p) in
    (λ i. unpack m (high i) ++ low i ∷ []) ∙ ap (λ (w : List ℕ). w ++ p % 4 ∷ []) (unpack_low m (p / 4))

-- the high codes and the low codes
pub unpack_split : (a b p : ℕ) → unpack (a + b) p ≡ unpack a (p / 4 ^ b) ++ unpack b p
unpack_split a zero p =
    let one : p / 4 ^ 0 ≡ p = omega arith in
    rw add-zero (rw one (sym (append-nil (unpack a p))))
unpack_split a (suc b) p =
    let count : a + suc b ≡ suc (a + b) = omega arith in
    ap (λ n. unpack n p) count
    ∙ ap (λ (w : List ℕ). w ++ p % 4 ∷ []) (unpack_split a b (p / 4))
    ∙ append_assoc (unpack a (p / 4 / 4 ^ b)) (unpack b (p / 4)) (p % 4 ∷ [])
    ∙ ap (λ q. unpack a q ++ unpack (suc b) p) (quarter_at p b)

-- ---- packed and unpacked

pub pack_after_append : (p : ℕ) (xs : List ℕ) (c : ℕ) → pack_after p (xs ++ c ∷ []) ≡ pack_after p xs * 4 + c
pack_after_append p [] c = refl
pack_after_append p (x ∷ xs) c = pack_after_append (p * 4 + x) xs c

pub quarter_fits : (n p : ℕ) → p < 4 ^ suc n → p / 4 < 4 ^ n
quarter_fits n p h = grind arith

pub pack_of_unpack : (n p : ℕ) → p < 4 ^ n → pack (unpack n p) ≡ p
pack_of_unpack zero p h = omega arith
pack_of_unpack (suc n) p h = pack_after_append 0 (unpack n (p / 4)) (p % 4) ∙ omega (arith, pack_of_unpack n (p / 4) (quarter_fits n p h))

pub pack_unpack : (a : Inside) → IsPacked a → record { k = length (unpack a.k a.packed); packed = pack (unpack a.k a.packed) } ≡ a
pack_unpack a h = λ i. record { k = length_unpack a.k a.packed i; packed = pack_of_unpack a.k a.packed h.fits i }

-- ---- one more code at the end

pub unpack_more : (n p c : ℕ) → c < 4 → unpack (n + 1) (p * 4 + c) ≡ unpack n p ++ c ∷ []
unpack_more n p c small =
    let high : (p * 4 + c) / 4 ≡ p = omega arith in
    let low : (p * 4 + c) % 4 ≡ c = omega arith in
    rw add-one (rw (high, low) refl)

pub fits_more : (n p c : ℕ) → p < 4 ^ n → c < 4 → p * 4 + c < 4 ^ (n + 1)
fits_more n p c h small = rw add-one (grind arith)

-- there is room in 128 bits
pub room : (n p c : ℕ) → n < 64 → p < 4 ^ n → c < 4 → p * 4 + c < 2 ^ 128
room n p c less h small =
    let parts : (63 - n) + n ≡ 63 = omega arith in
    let up : 4 ^ n ≤ 4 ^ 63 = rw parts at (pow_up n (63 - n)) in
    omega arith

-- ---- the order of packed words is the order of numbers

then_assoc : (a b c : Ordering) → ordering_then (ordering_then a b) c ≡ ordering_then a (ordering_then b c)
then_assoc Less b c = refl
then_assoc Equal b c = refl
then_assoc Greater b c = refl

then_equal : (o : Ordering) → ordering_then o Equal ≡ o
then_equal Less = refl
then_equal Equal = refl
then_equal Greater = refl

slice_cmp_more : (xs ys : List ℕ) (a b : ℕ) → length xs ≡ length ys → slice_cmp nat_cmp (xs ++ a ∷ []) (ys ++ b ∷ []) ≡ ordering_then
    (slice_cmp nat_cmp xs ys) (nat_cmp a b)
slice_cmp_more [] [] a b long = then_equal (nat_cmp a b)
slice_cmp_more [] (y ∷ ys) a b long = absurd (omega arith)
slice_cmp_more (x ∷ xs) [] a b long = absurd (omega arith)
slice_cmp_more (x ∷ xs) (y ∷ ys) a b long = ap (ordering_then (nat_cmp x y)) (slice_cmp_more xs ys a b (omega arith)) ∙ sym
    (then_assoc (nat_cmp x y) (slice_cmp nat_cmp xs ys) (nat_cmp a b))

nat_cmp_parts : (p q : ℕ) → nat_cmp p q ≡ ordering_then (nat_cmp (p / 4) (q / 4)) (nat_cmp (p % 4) (q % 4))
nat_cmp_parts p q = grind (arith, nat_tests)

pub cmp_unpack : (n p q : ℕ) → p < 4 ^ n → q < 4 ^ n → slice_cmp nat_cmp (unpack n p) (unpack n q) ≡ nat_cmp p q
cmp_unpack zero p q hp hq =
    let p0 : p ≡ 0 = omega arith in
    let q0 : q ≡ 0 = omega arith in
    rw (p0, q0) refl
cmp_unpack (suc n) p q hp hq =
    let long : length (unpack n (p / 4)) ≡ length (unpack n (q / 4)) = length_unpack n (p / 4) ∙ sym (length_unpack n (q / 4)) in
    slice_cmp_more _ _ (p % 4) (q % 4) long
    ∙ ap (λ (o : Ordering). ordering_then o (nat_cmp (p % 4) (q % 4))) (cmp_unpack n (p / 4) (q / 4) (quarter_fits n p hp) (quarter_fits n q hq))
    ∙ sym (nat_cmp_parts p q)

-- ---- the reverse complement begins with the complement of the last code

pub rev_comp_more : (n p : ℕ) → rev_comp (unpack (n + 1) p) ≡ complement (p % 4) ∷ rev_comp (unpack n (p / 4))
rev_comp_more n p = rw add-one (ap reverse (map-append complement (unpack n (p / 4)) (p % 4 ∷ [])) ∙ reverse-append
    (map complement (unpack n (p / 4))) (complement (p % 4) ∷ []))

-- ---- the code at a place

code_from : (n p i j : ℕ) → i + j + 1 ≡ n → get_or (unpack n p) i 0 ≡ p / 4 ^ j % 4
code_from zero p i j e = absurd (omega arith)
code_from (suc n) p i zero e =
    let here : i ≡ n = omega arith in
    get_or-append_right (unpack n (p / 4)) (p % 4 ∷ []) n i 0 (length_unpack n (p / 4)) (omega arith)
    ∙ (let first : i - n ≡ 0 = omega arith in rw first (omega arith))
code_from (suc n) p i (suc j) e =
    let inside : i < length (unpack n (p / 4)) = omega (arith, length_unpack n (p / 4)) in
    get_or_append_left (unpack n (p / 4)) (p % 4 ∷ []) 0 i inside ∙ code_from n (p / 4) i j (omega arith) ∙ ap (λ q. q % 4) (quarter_at p j)

pub code_is : (n p i : ℕ) → i < n → p / 2 ^ (2 * (n - 1 - i)) % 4 ≡ get_or (unpack n p) i 0
code_is n p i inside = rw (← pow_quad (n - 1 - i)) (sym (code_from n p i (n - 1 - i) (omega arith)))
