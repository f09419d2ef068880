-- The codes in bytes, place by place.
use Rattle.std.proofs.Common.{◌≡◌, ◌≢◌, ◌≤◌, Bool, true, false, nat_eq, ℕ, zero, suc, ◌+◌, ◌*◌, ◌-◌, ◌/◌, ◌%◌, ◌^◌, ◌<◌, List, [], ◌∷◌, ◌++◌, length, get_or, take, drop, refl, sym, ap, ◌∙◌, arith}
use Rattle.std.proofs.lemmas.List.{get_or-take}
use Rattle.std.proofs.lemmas.Bool.Decides.{nat_tests}
use Rattle.kmc_base.specs.Lemmas.Packs.{AreCodes}
use Rattle.kmc_base.specs.Record.{quarters, codes_in}

pub length_codes : (bs : List ℕ) → length (codes_in bs) ≡ 4 * length bs
length_codes [] = refl
length_codes (b ∷ bs) = omega (arith, length_codes bs)

pub are_codes : (bs : List ℕ) → AreCodes (codes_in bs)
are_codes [] = tt
are_codes (b ∷ bs) = (omega arith, (omega arith, (omega arith, (omega arith, are_codes bs))))

four : (P : ℕ → Type 0) → P 0 → P 1 → P 2 → P 3 → (r : ℕ) → r < 4 → P r
four P a b c d zero h = a
four P a b c d (suc zero) h = b
four P a b c d (suc (suc zero)) h = c
four P a b c d (suc (suc (suc zero))) h = d
four P a b c d (suc (suc (suc (suc r)))) h = absurd (omega arith)

quarter_at : (b r : ℕ) (more : List ℕ) → r < 4 → get_or (quarters b ++ more) r 0 ≡ b / 2 ^ (6 - 2 * r) % 4
quarter_at b r more h = four (λ r. get_or (quarters b ++ more) r 0 ≡ b / 2 ^ (6 - 2 * r) % 4) refl refl refl (omega arith) r h

pub at : (bs : List ℕ) (q r : ℕ) → q < length bs → r < 4 → get_or (codes_in bs) (4 * q + r) 0 ≡ get_or bs q 0 / 2 ^ (6 - 2 * r) % 4
at [] q r h s = absurd (omega arith)
at (b ∷ bs) zero r h s = let e : 4 * 0 + r ≡ r = omega arith in rw e (quarter_at b r (codes_in bs) s)
at (b ∷ bs) (suc q) r h s = let e : 4 * suc q + r ≡ suc (suc (suc (suc (4 * q + r)))) = omega arith in rw e (at bs q r (omega arith) s)

pub code_is : (bs : List ℕ) (i : ℕ) → i < 4 * length bs → get_or bs (i / 4) 0 / 2 ^ (6 - 2 * (i % 4)) % 4 ≡ get_or (codes_in bs) i 0
code_is bs i h =
    let parts : 4 * (i / 4) + i % 4 ≡ i = omega arith in
    sym (at bs (i / 4) (i % 4) (omega arith) (omega arith)) ∙ ap (λ j. get_or (codes_in bs) j 0) parts

pub take_codes : (n : ℕ) (bs : List ℕ) → codes_in (take n bs) ≡ take (4 * n) (codes_in bs)
take_codes zero bs = refl
take_codes (suc n) [] = let e : 4 * suc n ≡ suc (4 * n + 3) = omega arith in rw e refl
take_codes (suc n) (b ∷ bs) = let e : 4 * suc n ≡ suc (suc (suc (suc (4 * n)))) = omega arith in rw e (ap (λ (t : List ℕ). quarters b ++ t) (take_codes n bs))

-- the codes of what is behind some bytes are those behind their codes
pub drop_codes : (n : ℕ) (bs : List ℕ) → codes_in (drop n bs) ≡ drop (4 * n) (codes_in bs)
drop_codes zero bs = refl
drop_codes (suc n) [] = let e : 4 * suc n ≡ suc (4 * n + 3) = omega arith in rw e refl
drop_codes (suc n) (b ∷ bs) = let e : 4 * suc n ≡ suc (suc (suc (suc (4 * n)))) = omega arith in rw e (drop_codes n bs)

-- the codes of the first bytes are the first codes
pub code_in_front : (n m : ℕ) (bs : List ℕ) (i : ℕ) → m ≡ n → i < 4 * n → get_or (codes_in (take m bs)) i 0 ≡ get_or (codes_in bs) i 0
code_in_front n m bs i e h = ap (λ j. get_or (codes_in (take j bs)) i 0) e ∙ ap (λ (t : List ℕ). get_or t i 0) (take_codes n bs) ∙ get_or-take
    (4 * n) (codes_in bs) i 0 h

-- the codes of a whole byte
pub byte_codes : (bs : List ℕ) (j : ℕ) → j < length bs
    → (get_or bs j 0 / 64 % 4 ≡ get_or (codes_in bs) (4 * j) 0) × (get_or bs j 0 / 16 % 4 ≡ get_or (codes_in bs) (4 * j + 1) 0)
    × (get_or bs j 0 / 4 % 4 ≡ get_or (codes_in bs) (4 * j + 2) 0) × (get_or bs j 0 % 4 ≡ get_or (codes_in bs) (4 * j + 3) 0)
byte_codes bs j h =
    let zero_more : 4 * j + 0 ≡ 4 * j = omega arith in
    let b = get_or bs j 0 in
    let whole : b / 1 % 4 ≡ b % 4 = omega arith in (
      sym (at bs j 0 h (omega arith)) ∙ ap (λ n. get_or (codes_in bs) n 0) zero_more,
      sym (at bs j 1 h (omega arith)),
      sym (at bs j 2 h (omega arith)),
      sym whole ∙ sym (at bs j 3 h (omega arith)),
    )

-- ---- the lowest codes of a byte

pub low_mask : (p : ℕ) → p < 4 → 1 * 2 ^ (2 * p) % 256 ≡ 2 ^ (2 * p)
low_mask p hp = four (λ q. 1 * 2 ^ (2 * q) % 256 ≡ 2 ^ (2 * q)) refl refl refl refl p hp

pub lowest_zero : (b p r : ℕ) → p < 4 → r < 4 → 4 ≤ r + p → b % 2 ^ (2 * p) ≡ 0 → b / 2 ^ (6 - 2 * r) % 4 ≡ 0
lowest_zero b p r hp hr =
    four (λ q. 4 ≤ r + q → b % 2 ^ (2 * q) ≡ 0 → b / 2 ^ (6 - 2 * r) % 4 ≡ 0)
    (λ e h. absurd (omega arith))
    (four (λ s. 4 ≤ s + 1 → b % 4 ≡ 0 → b / 2 ^ (6 - 2 * s) % 4 ≡ 0) (λ e h. absurd (omega arith)) (λ e h. absurd (omega arith))
    (λ e h. absurd (omega arith)) (λ e h. omega arith) r hr)
    (four (λ s. 4 ≤ s + 2 → b % 16 ≡ 0 → b / 2 ^ (6 - 2 * s) % 4 ≡ 0) (λ e h. absurd (omega arith)) (λ e h. absurd (omega arith))
    (λ e h. omega arith) (λ e h. omega arith) r hr)
    (four (λ s. 4 ≤ s + 3 → b % 64 ≡ 0 → b / 2 ^ (6 - 2 * s) % 4 ≡ 0) (λ e h. absurd (omega arith)) (λ e h. omega arith) (λ e h. omega arith)
    (λ e h. omega arith) r hr)
    p hp

-- one of the lowest codes is not zero
abbrev pub HasLow : ℕ → ℕ → Type 0
HasLow b p = (r : ℕ) × (r < 4) × (4 ≤ r + p) × (b / 2 ^ (6 - 2 * r) % 4 ≡ 0 → ⊥)

last_or : (b p : ℕ) → (b % 4 ≡ 0 → HasLow b (p + 1)) → HasLow b (p + 1)
last_or b p other = go (nat_eq (b % 4) 0) refl
  where
    go : (t : Bool) → nat_eq (b % 4) 0 ≡ t → HasLow b (p + 1)
    go true e = other (grind (arith, nat_tests))
    go false e = (3, omega arith, omega arith, λ h. let ne : b % 4 ≢ 0 = grind (arith, nat_tests) in ne (omega (arith, h)))

third_or : (b p : ℕ) → (b / 4 % 4 ≡ 0 → HasLow b (p + 2)) → HasLow b (p + 2)
third_or b p other = go (nat_eq (b / 4 % 4) 0) refl
  where
    go : (t : Bool) → nat_eq (b / 4 % 4) 0 ≡ t → HasLow b (p + 2)
    go true e = other (grind (arith, nat_tests))
    go false e = (2, omega arith, omega arith, λ h. let ne : b / 4 % 4 ≢ 0 = grind (arith, nat_tests) in ne (omega (arith, h)))

pub lowest_some : (b p : ℕ) → p < 4 → (b % 2 ^ (2 * p) ≡ 0 → ⊥) → HasLow b p
lowest_some b p hp =
    four (λ q. (b % 2 ^ (2 * q) ≡ 0 → ⊥) → HasLow b q)
    (λ h. absurd (h (omega arith)))
    (λ h. last_or b 0 (λ z. absurd (h z)))
    (λ h. last_or b 1 (λ z. third_or b 0 (λ y. absurd (h (omega (arith, z, y))))))
    (λ h. last_or b 2 (λ z. third_or b 1 (λ y. (1, omega arith, omega arith, λ x. h (omega (arith, z, y, x))))))
    p hp

pub codes_join : (xs ys : List ℕ) → codes_in (xs ++ ys) ≡ codes_in xs ++ codes_in ys
codes_join [] ys = refl
codes_join (x ∷ xs) ys = ap (λ (t : List ℕ). quarters x ++ t) (codes_join xs ys)
