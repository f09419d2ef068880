-- Letters at the front of bytes, and the number in which their codes are packed.
use Rattle.std.proofs.Common.{◌≡◌, ℕ, zero, suc, ◌+◌, ◌*◌, ◌-◌, ◌/◌, ◌%◌, ◌^◌, ◌<◌, ◌≤◌, ◌⊎◌, inl, inr, List, [], ◌∷◌, ◌++◌, length, take, drop, get_or, map, refl, lit<, sym, ap, subst, ◌∙◌, arith, append_assoc, below_more, length-drop}
use Rattle.std.proofs.Math.Nat.{pow-succ', mul_left_comm}
use Rattle.std.proofs.Math.Seq.{take-add}
use Rattle.std.proofs.lemmas.Bool.{cases_order}
use Rattle.std.proofs.lemmas.List.{append-nil, take_more, take_rest, map-append, get_or-drop}
use Rattle.std.proofs.Math.Pow.{shl_exact}
use Rattle.kmc_base.specs.Words.{letter}
use Rattle.kmc_base.specs.Packed.{unpack}
use Rattle.kmc_base.specs.Lemmas.Packing.{unpack_more, fits_more, quarter_fits}
use Rattle.kmc_base.specs.Lemmas.Powers.{pow_quad, pow_up}
use Rattle.kmc_sum.specs.Line.{AreLetters, IsLetter}

-- one letter more
pub letter_more : (xs : List ℕ) (n p c : ℕ) → AreLetters n p xs → n < length xs → c < 4 → get_or xs n 0 ≡ letter c → AreLetters (n + 1) (p * 4 + c) xs
letter_more xs n p c are inside small here =
    record {
      within = omega arith;
      fits = fits_more n p c are.fits small;
      word = take_more xs n 0 inside ∙ (λ j. are.word j ++ here j ∷ []) ∙ sym (map-append letter (unpack n p) (c ∷ []))
          ∙ ap (map letter) (sym (unpack_more n p c small));
      each = below_more _ _ are.each (c, small, sym here);
    }

-- four letters more
pub quad_more : (xs : List ℕ) (n p q : ℕ) → AreLetters n p xs → n + 4 ≤ length xs → q < 256 → get_or xs n 0 ≡ letter (q / 64)
    → get_or xs (n + 1) 0 ≡ letter (q / 16 % 4) → get_or xs (n + 2) 0 ≡ letter (q / 4 % 4) → get_or xs (n + 3) 0 ≡ letter (q % 4)
    → AreLetters (n + 4) (p * 256 + q) xs
quad_more xs n p q are inside small first second third last =
    let one = letter_more xs n p (q / 64) are (omega arith) (omega arith) first in
    let two = letter_more xs (n + 1) (p * 4 + q / 64) (q / 16 % 4) one (omega arith) (omega arith) second in
    let at_two : n + 1 + 1 ≡ n + 2 = omega arith in
    let three = letter_more xs (n + 2) ((p * 4 + q / 64) * 4 + q / 16 % 4) (q / 4 % 4) (rw at_two at two) (omega arith) (omega arith) third in
    let at_three : n + 2 + 1 ≡ n + 3 = omega arith in
    let four = letter_more xs (n + 3) (((p * 4 + q / 64) * 4 + q / 16 % 4) * 4 + q / 4 % 4) (q % 4) (rw at_three at three) (omega arith) (omega arith) last in
    let at_four : n + 3 + 1 ≡ n + 4 = omega arith in
    let whole : (((p * 4 + q / 64) * 4 + q / 16 % 4) * 4 + q / 4 % 4) * 4 + q % 4 ≡ p * 256 + q = omega arith in
    (rw (at_four, whole) at four)

-- ---- the front of a quad

no_letter : (xs : List ℕ) → AreLetters 0 0 xs
no_letter xs = record { within = omega arith; fits = lit< tt; word = refl; each = λ i h. absurd (omega arith) }

pub one_letter : (xs : List ℕ) (q : ℕ) → 1 ≤ length xs → q < 256 → get_or xs 0 0 ≡ letter (q / 64) → AreLetters 1 (q / 64) xs
one_letter xs q inside small first =
    let whole : 0 * 4 + q / 64 ≡ q / 64 = omega arith in
    subst (λ p. AreLetters 1 p xs) whole (letter_more xs 0 0 (q / 64) (no_letter xs) (omega arith) (omega arith) first)

pub two_letters : (xs : List ℕ) (q : ℕ) → 2 ≤ length xs → q < 256 → get_or xs 0 0 ≡ letter (q / 64) → get_or xs 1 0 ≡ letter (q / 16 % 4)
    → AreLetters 2 (q / 16) xs
two_letters xs q inside small first second =
    let whole : q / 64 * 4 + q / 16 % 4 ≡ q / 16 = omega arith in
    subst (λ p. AreLetters 2 p xs) whole
    (letter_more xs 1 (q / 64) (q / 16 % 4) (one_letter xs q (omega arith) small first) (omega arith) (omega arith) second)

pub three_letters : (xs : List ℕ) (q : ℕ) → 3 ≤ length xs → q < 256 → get_or xs 0 0 ≡ letter (q / 64) → get_or xs 1 0 ≡ letter (q / 16 % 4)
    → get_or xs 2 0 ≡ letter (q / 4 % 4) → AreLetters 3 (q / 4) xs
three_letters xs q inside small first second third =
    let whole : q / 16 * 4 + q / 4 % 4 ≡ q / 4 = omega arith in
    subst (λ p. AreLetters 3 p xs) whole
    (letter_more xs 2 (q / 16) (q / 4 % 4) (two_letters xs q (omega arith) small first second) (omega arith) (omega arith) third)

-- ---- two halves

-- the second number is one code longer
one_longer : (b x y : ℕ) → x * 4 ^ suc b + y ≡ 4 * (x * 4 ^ b + y / 4) + y % 4
one_longer b x y = omega (arith, ap (λ m. x * m) (pow-succ' 4 b) ∙ mul_left_comm x 4 (4 ^ b))

unpack_both : (a b x y : ℕ) → y < 4 ^ b → unpack (a + b) (x * 4 ^ b + y) ≡ unpack a x ++ unpack b y
unpack_both a zero x y h =
    let length_is : a + zero ≡ a = omega arith in
    let number_is : x * 4 ^ zero + y ≡ x = omega (arith, h) in
    (λ j. unpack (length_is j) (number_is j)) ∙ sym (append-nil (unpack a x))
unpack_both a (suc b) x y h =
    let high : (x * 4 ^ suc b + y) / 4 ≡ x * 4 ^ b + y / 4 = omega (arith, one_longer b x y) in
    let low : (x * 4 ^ suc b + y) % 4 ≡ y % 4 = omega (arith, one_longer b x y) in
    let length_is : a + suc b ≡ suc (a + b) = omega arith in
    ap (λ n. unpack n (x * 4 ^ suc b + y)) length_is
    ∙ (λ j. unpack (a + b) (high j) ++ low j ∷ [])
    ∙ ap (λ (t : List ℕ). t ++ y % 4 ∷ []) (unpack_both a b x (y / 4) (quarter_fits b y h))
    ∙ append_assoc (unpack a x) (unpack b (y / 4)) (y % 4 ∷ [])

pub fits_both : (a b x y : ℕ) → x < 4 ^ a → y < 4 ^ b → x * 4 ^ b + y < 4 ^ (a + b)
fits_both a zero x y hx hy =
    let length_is : a + zero ≡ a = omega arith in
    let number_is : x * 4 ^ zero + y ≡ x = omega (arith, hy) in
    rw (length_is, number_is) hx
fits_both a (suc b) x y hx hy =
    let length_is : a + suc b ≡ suc (a + b) = omega arith in
    rw length_is (omega (arith, one_longer b x y, pow-succ' 4 (a + b), fits_both a b x (y / 4) hx (quarter_fits b y hy)))

pub letters_both : (xs : List ℕ) (a b x y : ℕ) → AreLetters a x xs → AreLetters b y (drop a xs) → AreLetters (a + b) (x * 4 ^ b + y) xs
letters_both xs a b x y front behind =
    record {
      within = omega (arith, front.within, behind.within, length-drop a xs);
      fits = fits_both a b x y front.fits behind.fits;
      word = take-add a b xs ∙ (λ j. front.word j ++ behind.word j) ∙ sym (map-append letter (unpack a x) (unpack b y))
          ∙ ap (map letter) (sym (unpack_both a b x y behind.fits));
      each = λ i inside. at_place i inside (cases_order i a);
    }
  where
    from_behind : (i : ℕ) → a ≤ i → i < a + b → IsLetter (get_or xs i 0)
    from_behind i after inside =
        let place : a + (i - a) ≡ i = omega arith in
        subst IsLetter (get_or-drop a xs (i - a) 0 ∙ ap (λ m. get_or xs m 0) place) (behind.each (i - a) (omega arith))

    at_place : (i : ℕ) → i < a + b → (i ≡ a) ⊎ ((i < a) ⊎ (a < i)) → IsLetter (get_or xs i 0)
    at_place i inside (inl same) = from_behind i (omega arith) inside
    at_place i inside (inr (inl before)) = front.each i before
    at_place i inside (inr (inr after)) = from_behind i (omega arith) inside

-- ---- in 64 bits, and in 128

half_most : (n x : ℕ) → n ≤ 32 → x < 4 ^ n → x < 2 ^ 64
half_most n x most h =
    let parts : (32 - n) + n ≡ 32 = omega arith in
    let up : 4 ^ n ≤ 4 ^ 32 = rw parts at (pow_up n (32 - n)) in
    omega (arith, up)

pub half_room : (n m x y : ℕ) → n + m ≤ 32 → x < 4 ^ n → y < 4 ^ m → x * 4 ^ m + y < 2 ^ 64
half_room n m x y most hx hy = half_most (n + m) (x * 4 ^ m + y) most (fits_both n m x y hx hy)

-- what stands behind a front, in 64 bits
pub shifted : (a b x : ℕ) → a + b ≤ 32 → x < 4 ^ a → x * 2 ^ (2 * b) % 2 ^ 64 ≡ x * 4 ^ b
shifted a b x most h =
    shl_exact (2 * a) (2 * b) 64 (subst (λ m. x < m) (pow_quad a) h) (omega arith) ∙ ap (λ m. x * m) (sym (pow_quad b))

-- the second half is what stands behind the first
pub halves_are : (xs : List ℕ) (a b x y u v : ℕ) → u ≡ x → v ≡ y → a ≤ 32 → b ≤ 32 → AreLetters a x xs → AreLetters b y (take (length xs - a) (drop a xs))
    → AreLetters (a + b) (u * 2 ^ (2 * b) % 2 ^ 128 + v) xs
halves_are xs a b x y u v ux vy first_most second_most front behind =
    let whole : u * 2 ^ (2 * b) % 2 ^ 128 ≡ x * 4 ^ b =
    ap (λ n. n * 2 ^ (2 * b) % 2 ^ 128) ux
    ∙ shl_exact 64 (2 * b) 128 (half_most a x first_most front.fits) (omega arith)
    ∙ ap (λ m. x * m) (sym (pow_quad b)) in
    subst (λ n. AreLetters (a + b) n xs) (sym (λ j. whole j + vy j))
    (letters_both xs a b x y front (subst (AreLetters b y) (take_rest xs a) behind))

pub no_more : (xs : List ℕ) (a b : ℕ)
    → (b < 32 → b < length (take (length xs - a) (drop a xs)) → IsLetter (get_or (take (length xs - a) (drop a xs)) b 0) → ⊥)
    → 32 ≤ a → a + b < 64 → a + b < length xs → IsLetter (get_or xs (a + b) 0) → ⊥
no_more xs a b ends full less inside is =
    ends (omega arith) (omega (arith, ap length (take_rest xs a), length-drop a xs))
    (subst IsLetter (sym (ap (λ (l : List ℕ). get_or l b 0) (take_rest xs a) ∙ get_or-drop a xs b 0)) is)
