-- Packed words from the side of the codes.
use Rattle.std.proofs.Common.{◌≡◌, ℕ, zero, suc, ◌+◌, ◌*◌, ◌-◌, ◌/◌, ◌%◌, ◌^◌, ◌<◌, ◌≤◌, min, Bool, true, false, cond, List, [], ◌∷◌, ◌++◌, length, map, reverse, refl, sym, ap, subst, ◌∙◌, arith, append_assoc, add-zero, zero-add}
use Rattle.std.proofs.lemmas.List.{length-map, length-reverse, map-append, reverse-append}
use Rattle.std.proofs.lemmas.Nat.{mod-mul-add}
use Rattle.std.proofs.Math.Nat.{pow-succ'}
use Rattle.std.proofs.lemmas.Bool.Decides.{nat_tests}
use Rattle.std.specs.List.{AllByRecursion}
use Rattle.std.specs.Ordering.{nat_cmp, is_lt}
use Rattle.kmc_base.specs.Words.{complement, rev_comp, word_cmp, canonical}
use Rattle.kmc_base.specs.Packed.{unpack, pack_after, pack}
use Rattle.kmc_base.specs.Lemmas.Packing.{pack_after_append, unpack_more, fits_more, cmp_unpack}

-- each is a code
abbrev pub AreCodes : List ℕ → Type 0
AreCodes w = AllByRecursion (λ c. c < 4) w

pub codes_append : (xs ys : List ℕ) → AreCodes xs → AreCodes ys → AreCodes (xs ++ ys)
codes_append [] ys h k = k
codes_append (x ∷ xs) ys h k = (h.0, codes_append xs ys h.1 k)

pub codes_unpack : (n p : ℕ) → AreCodes (unpack n p)
codes_unpack zero p = tt
codes_unpack (suc n) p =
    let small : p % 4 < 4 = omega arith in
    codes_append (unpack n (p / 4)) (p % 4 ∷ []) (codes_unpack n (p / 4)) (small, tt)

pub rev_comp_cons : (x : ℕ) (t : List ℕ) → rev_comp (x ∷ t) ≡ rev_comp t ++ complement x ∷ []
rev_comp_cons x t = reverse-append (complement x ∷ []) (map complement t)

pub rev_comp_push : (t : List ℕ) (c : ℕ) → rev_comp (t ++ c ∷ []) ≡ complement c ∷ rev_comp t
rev_comp_push t c = ap reverse (map-append complement t (c ∷ [])) ∙ reverse-append (map complement t) (complement c ∷ [])

pub length_rev_comp : (w : List ℕ) → length (rev_comp w) ≡ length w
length_rev_comp w = length-reverse (map complement w) ∙ length-map w complement

pub codes_rev_comp : (w : List ℕ) → AreCodes (rev_comp w)
codes_rev_comp [] = tt
codes_rev_comp (x ∷ t) =
    let small : 3 - x < 4 = omega arith in
    subst AreCodes (sym (rev_comp_cons x t)) (codes_append (rev_comp t) (complement x ∷ []) (codes_rev_comp t) (small, tt))

pub codes_canonical : (w : List ℕ) → AreCodes w → AreCodes (canonical w)
codes_canonical w h = go (is_lt (word_cmp (rev_comp w) w))
  where
    go : (b : Bool) → AreCodes (cond b (rev_comp w) w)
    go true = codes_rev_comp w
    go false = h

pub length_canonical : (w : List ℕ) → length (canonical w) ≡ length w
length_canonical w = go (is_lt (word_cmp (rev_comp w) w))
  where
    go : (b : Bool) → length (cond b (rev_comp w) w) ≡ length w
    go true = length_rev_comp w
    go false = refl

-- ---- numbers of words

up : (p c w v : ℕ) → v ≡ 4 * w → (m a b : ℕ) → a ≡ (p * 4 + c) * w + m → b ≡ (0 * 4 + c) * w + m → a ≡ p * v + b
up p c w v e m a b here there = rw e (omega arith)

pub pack_after_is : (p : ℕ) (xs : List ℕ) → pack_after p xs ≡ p * 4 ^ length xs + pack xs
pack_after_is p [] = omega arith
pack_after_is p (c ∷ cs) = up p c (4 ^ length cs) _ (pow-succ' 4 (length cs)) (pack cs) _ _ (pack_after_is (p * 4 + c) cs) (pack_after_is (0 * 4 + c) cs)

pack_join : (p : ℕ) (xs ys : List ℕ) → pack_after p (xs ++ ys) ≡ pack_after (pack_after p xs) ys
pack_join p [] ys = refl
pack_join p (x ∷ xs) ys = pack_join (p * 4 + x) xs ys

-- a word in two parts
pub pack_parts : (xs ys : List ℕ) → pack (xs ++ ys) ≡ pack xs * 4 ^ length ys + pack ys
pack_parts xs ys = pack_join 0 xs ys ∙ pack_after_is (pack xs) ys

pub rev_comp_join : (xs ys : List ℕ) → rev_comp (xs ++ ys) ≡ rev_comp ys ++ rev_comp xs
rev_comp_join xs ys = ap reverse (map-append complement xs ys) ∙ reverse-append (map complement xs) (map complement ys)

unpack_after : (p n : ℕ) (xs : List ℕ) → AreCodes xs → unpack (n + length xs) (pack_after p xs) ≡ unpack n p ++ xs
unpack_after p n [] h = rw add-zero (sym (append_nil_of (unpack n p)))
  where
    append_nil_of : (ys : List ℕ) → ys ++ [] ≡ ys
    append_nil_of [] = refl
    append_nil_of (y ∷ ys) = ap (λ (t : List ℕ). y ∷ t) (append_nil_of ys)
unpack_after p n (c ∷ cs) h =
    let count : n + suc (length cs) ≡ (n + 1) + length cs = omega arith in
    ap (λ m. unpack m (pack_after (p * 4 + c) cs)) count
    ∙ unpack_after (p * 4 + c) (n + 1) cs h.1
    ∙ ap (λ (t : List ℕ). t ++ cs) (unpack_more n p c h.0)
    ∙ append_assoc (unpack n p) (c ∷ []) cs

pub unpack_pack : (w : List ℕ) → AreCodes w → unpack (length w) (pack w) ≡ w
unpack_pack w h = ap (λ m. unpack m (pack w)) (sym (zero-add (length w))) ∙ unpack_after 0 0 w h

fits_after : (p n : ℕ) (xs : List ℕ) → p < 4 ^ n → AreCodes xs → pack_after p xs < 4 ^ (n + length xs)
fits_after p n [] f h = rw add-zero f
fits_after p n (c ∷ cs) f h =
    let count : n + suc (length cs) ≡ (n + 1) + length cs = omega arith in
    rw count (fits_after (p * 4 + c) (n + 1) cs (fits_more n p c f h.0) h.1)

pub pack_fits : (w : List ℕ) → AreCodes w → pack w < 4 ^ length w
pack_fits w h =
    let none : 0 < 4 ^ 0 = omega arith in
    rw zero-add at (fits_after 0 0 w none h)

-- ---- a window moves on by one code

pub forward_step : (x c : ℕ) (t : List ℕ) → AreCodes t → pack (t ++ c ∷ []) ≡ pack (x ∷ t) % 4 ^ length t * 4 + c
forward_step x c t h =
    let low : pack (x ∷ t) % 4 ^ length t ≡ pack t =
    ap (λ n. n % 4 ^ length t) (pack_after_is (0 * 4 + x) t) ∙ mod-mul-add (0 * 4 + x) (4 ^ length t) (pack t) (pack_fits t h) in
    pack_after_append 0 t c ∙ ap (λ n. n * 4 + c) (sym low)

pub back_step : (x c : ℕ) (t : List ℕ) → pack (rev_comp (t ++ c ∷ [])) ≡ pack (rev_comp (x ∷ t)) / 4 + (3 - c) * 4 ^ length t
back_step x c t =
    let r = rev_comp t in
    let old : pack (rev_comp (x ∷ t)) ≡ pack r * 4 + (3 - x) = ap pack (rev_comp_cons x t) ∙ pack_after_append 0 r (complement x) in
    let new : pack (rev_comp (t ++ c ∷ [])) ≡ (0 * 4 + (3 - c)) * 4 ^ length r + pack r = ap pack (rev_comp_push t c) ∙ pack_after_is
    (0 * 4 + complement c) r in
    let long : length r ≡ length t = length_rev_comp t in
    let new2 : pack (rev_comp (t ++ c ∷ [])) ≡ (0 * 4 + (3 - c)) * 4 ^ length t + pack r = rw long at new in
    let quarter : pack (rev_comp (x ∷ t)) / 4 ≡ pack r = omega arith in
    omega arith

-- ---- the lesser number

pub pack_canonical : (w : List ℕ) → AreCodes w → pack (canonical w) ≡ min (pack w) (pack (rev_comp w))
pack_canonical w h =
    let n = length w in
    let p = pack (rev_comp w) in
    let q = pack w in
    let other : unpack n p ≡ rev_comp w = ap (λ m. unpack m p) (sym (length_rev_comp w)) ∙ unpack_pack (rev_comp w) (codes_rev_comp w) in
    let fits : p < 4 ^ n = rw (length_rev_comp w) at (pack_fits (rev_comp w) (codes_rev_comp w)) in
    let order : word_cmp (rev_comp w) w ≡ nat_cmp p q =
    (λ i. word_cmp (sym other i) (sym (unpack_pack w h) i)) ∙ cmp_unpack n p q fits (pack_fits w h) in
    ap (λ o. pack (cond (is_lt o) (rev_comp w) w)) order ∙ pick p q refl refl
  where
    pick : (p q : ℕ) → pack (rev_comp w) ≡ p → pack w ≡ q → pack (cond (is_lt (nat_cmp p q)) (rev_comp w) w) ≡ min q p
    pick p q e f = go (is_lt (nat_cmp p q)) refl
      where
        go : (b : Bool) → is_lt (nat_cmp p q) ≡ b → pack (cond b (rev_comp w) w) ≡ min q p
        go true l = let less : p < q = grind (arith, nat_tests) in e ∙ omega arith
        go false l = let most : q ≤ p = grind (arith, nat_tests) in f ∙ omega arith

-- ---- a word and its reverse complement have one canonical form

pub rev_comp_twice : (w : List ℕ) → AreCodes w → rev_comp (rev_comp w) ≡ w
rev_comp_twice [] h = refl
rev_comp_twice (x ∷ t) h =
    let back : 3 - (3 - x) ≡ x = omega (arith, h.0) in
    ap rev_comp (rev_comp_cons x t) ∙ rev_comp_push (rev_comp t) (complement x) ∙ (λ i. back i ∷ rev_comp_twice t h.1 i)

same_packed : (v w : List ℕ) → AreCodes v → AreCodes w → length v ≡ length w → pack v ≡ pack w → v ≡ w
same_packed v w g h long same = sym (unpack_pack v g) ∙ (λ i. unpack (long i) (same i)) ∙ unpack_pack w h

pub canonical_rev_comp : (w : List ℕ) → AreCodes w → canonical (rev_comp w) ≡ canonical w
canonical_rev_comp w h =
    let r = rev_comp w in
    let codes = codes_rev_comp w in
    let least = pack_canonical r codes ∙ ap (λ v. min (pack r) (pack v)) (rev_comp_twice w h) in
    let turned : min (pack r) (pack w) ≡ min (pack w) (pack r) = omega arith in
    same_packed (canonical r) (canonical w) (codes_canonical r codes) (codes_canonical w h)
    (length_canonical r ∙ length_rev_comp w ∙ sym (length_canonical w))
    (least ∙ turned ∙ sym (pack_canonical w h))
