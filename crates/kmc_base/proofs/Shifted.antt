-- Codes that are cut out of sixteen bytes by shifts of their number.
use Rattle.std.proofs.Common.{◌≡◌, ℕ, zero, suc, ◌+◌, ◌-◌, ◌*◌, ◌/◌, ◌%◌, ◌^◌, ◌<◌, ◌≤◌, List, ◌++◌, length, take, drop, replicate, refl, sym, ap, subst, ◌∙◌, arith, mod-eq_of_lt, le_refl, length-append, length-drop}
use Rattle.std.proofs.lemmas.List.{take-take, take_at, drop_at, drop-take, take-append-drop, length-take-le, length-replicate}
use Rattle.std.proofs.lemmas.Nat.{pow-add, div-mul-add, mod-mul-add, mul-le}
use Rattle.std.proofs.Math.Nat.{pow-succ'}
use Rattle.std.specs.Int.{bytes_high_first}
use Rattle.std.specs.List.{AllByRecursion}
use Rattle.kmc_base.specs.Words.{window}
use Rattle.kmc_base.specs.Packed.{unpack, pack, pack_after}
use Rattle.kmc_base.specs.Record.{packed_codes, codes_in, size_of}
use Rattle.kmc_base.specs.Lemmas.Codes.{take_codes}
use Rattle.kmc_base.specs.Lemmas.NumberBytes.{codes_of_bytes, length_bytes, are_bytes}
use Rattle.kmc_base.specs.Lemmas.Packs.{AreCodes, codes_append, pack_parts, pack_fits, unpack_pack}
use Rattle.kmc_base.specs.Lemmas.Powers.{pow_quad, pow_some}
use Rattle.kmc_base.specs.Lemmas.Rolling.{codes_front, codes_drop}
use Rattle.kmc_base.specs.Lemmas.Spelled.{packed_back}
use Rattle.kmc_base.specs.Lemmas.Whole.{bytes_take}
use Rattle.kmc_base.specs.Lemmas.Windows.{length_window}

-- ---- a number in three parts, whose first part is shifted out above and whose last one below

middle_is : (a m b x y z t g : ℕ) → x < m → y < b → 1 ≤ a → m * b * a ≡ t → b * a ≡ g → (z * (m * b) + (x * b + y)) * a % t / g ≡ x
middle_is a m b x y z t g hx hy some whole rest =
    let v = (x * b + y) * a in
    let up : z * (m * b * a) ≡ z * t = ap (λ n. z * n) whole in
    let split : (z * (m * b) + (x * b + y)) * a ≡ z * t + v = omega (arith, up) in
    let row : (x + 1) * b ≤ m * b = mul-le (x + 1) b m b (omega arith) (le_refl b) in
    let few : (x * b + y + 1) * a ≤ m * b * a = mul-le (x * b + y + 1) a (m * b) a (omega (arith, row)) (le_refl a) in
    let fits : v < t = omega (arith, few, whole) in
    let low : (y + 1) * a ≤ b * a = mul-le (y + 1) a b a (omega arith) (le_refl a) in
    let back : y * a < g = omega (arith, low, rest) in
    let middle : x * (b * a) ≡ x * g = ap (λ n. x * n) rest in
    let parts : v ≡ x * g + y * a = omega (arith, middle) in
    ap (λ n. n % t / g) split ∙ ap (λ n. n / g) (mod-mul-add z t v fits) ∙ ap (λ n. n / g) parts ∙ div-mul-add x g (y * a) back

-- ---- zeros behind codes

abbrev AreZeros : List ℕ → Type 0
AreZeros w = AllByRecursion (λ c. c ≡ 0) w

packed_zeros : (p n : ℕ) → pack_after p (replicate n 0) ≡ p * 4 ^ n
packed_zeros p zero = omega arith
packed_zeros p (suc n) =
    let e : 4 ^ suc n ≡ 4 * 4 ^ n = pow-succ' 4 n in
    rw e (packed_zeros (p * 4 + 0) n ∙ omega arith)

zeros_are_codes : (n : ℕ) → AreCodes (replicate n 0)
zeros_are_codes zero = tt
zeros_are_codes (suc n) = (omega arith, zeros_are_codes n)

zeros_front : (d n : ℕ) → AreZeros (take d (replicate n 0))
zeros_front zero n = tt
zeros_front (suc d) zero = tt
zeros_front (suc d) (suc n) = (refl, zeros_front d n)

-- ---- the codes of sixteen bytes

module _ (w : List ℕ) (codes : AreCodes w) (all : length w ≡ 64) (s n : ℕ) (some : 1 ≤ n) (inside : s + n ≤ 64) where
  -- how many codes are behind those that are cut out
  abbrev r : ℕ
  r = 64 - s - n

  abbrev mid : List ℕ
  mid = window n w s

  abbrev behind : List ℕ
  behind = drop n (drop s w)

  long_mid : length mid ≡ n
  long_mid = length_window n s w (omega (arith, all))

  long_behind : length behind ≡ r
  long_behind = omega (arith, length-drop n (drop s w), length-drop s w, all)

  mid_codes : AreCodes mid
  mid_codes = codes_front n (drop s w) (codes_drop s w codes)

  fits : pack mid < 4 ^ n
  fits = rw long_mid at (pack_fits mid mid_codes)

  behind_fits : pack behind < 4 ^ r
  behind_fits = rw long_behind at (pack_fits behind (codes_drop n (drop s w) (codes_drop s w codes)))

  in_parts : pack w ≡ pack (take s w) * (4 ^ n * 4 ^ r) + (pack mid * 4 ^ r + pack behind)
  in_parts =
      let rest : length (mid ++ behind) ≡ n + r = omega (arith, length-append mid behind, long_mid, long_behind) in
      ap pack (sym (take-append-drop s w)) ∙ ap (λ (t : List ℕ). pack (take s w ++ t)) (sym (take-append-drop n (drop s w)))
      ∙ pack_parts (take s w) (mid ++ behind)
      ∙ (λ i. pack (take s w) * 4 ^ rest i + pack_parts mid behind i)
      ∙ (λ i. pack (take s w) * pow-add 4 n r i + (pack mid * 4 ^ long_behind i + pack behind))

  whole : 4 ^ n * 4 ^ r * 4 ^ s ≡ 2 ^ 128
  whole =
      let sum : n + r + s ≡ 64 = omega arith in
      ap (λ t. t * 4 ^ s) (sym (pow-add 4 n r)) ∙ sym (pow-add 4 (n + r) s) ∙ ap (λ e. 4 ^ e) sum

  rest_of : 4 ^ r * 4 ^ s ≡ 2 ^ (128 - 2 * n)
  rest_of =
      let sum : r + s ≡ 64 - n = omega arith in
      let twice : 2 * (64 - n) ≡ 128 - 2 * n = omega arith in
      sym (pow-add 4 r s) ∙ ap (λ e. 4 ^ e) sum ∙ pow_quad (64 - n) ∙ ap (λ e. 2 ^ e) twice

  -- the number, shifted up by the codes in front and down by those behind
  cut_is : pack w * 2 ^ (2 * s) % 2 ^ 128 / 2 ^ (128 - 2 * n) ≡ pack mid
  cut_is =
      (λ i. in_parts i * sym (pow_quad s) i % 2 ^ 128 / 2 ^ (128 - 2 * n))
      ∙ middle_is (4 ^ s) (4 ^ n) (4 ^ r) (pack mid) (pack behind) (pack (take s w)) (2 ^ 128) (2 ^ (128 - 2 * n)) fits behind_fits (pow_some s) whole rest_of

  -- and up again, with zeros behind it
  laid_is : pack mid * 2 ^ (128 - 2 * n) % 2 ^ 128 ≡ pack (mid ++ replicate (64 - n) 0)
  laid_is =
      let twice : 128 - 2 * n ≡ 2 * (64 - n) = omega arith in
      let weight : 2 ^ (128 - 2 * n) ≡ 4 ^ (64 - n) = ap (λ e. 2 ^ e) twice ∙ sym (pow_quad (64 - n)) in
      let sum : n + (64 - n) ≡ 64 = omega arith in
      let both : 4 ^ n * 4 ^ (64 - n) ≡ 2 ^ 128 = sym (pow-add 4 n (64 - n)) ∙ ap (λ e. 4 ^ e) sum in
      let row : (pack mid + 1) * 4 ^ (64 - n) ≤ 4 ^ n * 4 ^ (64 - n) = mul-le (pack mid + 1) (4 ^ (64 - n)) (4 ^ n) (4 ^ (64 - n)) (omega (arith, fits)) (le_refl _) in
      let below : pack mid * 4 ^ (64 - n) < 2 ^ 128 = omega (arith, row, both, pow_some (64 - n)) in
      ap (λ t. pack mid * t % 2 ^ 128) weight ∙ mod-eq_of_lt below
      ∙ sym (pack_parts mid (replicate (64 - n) 0) ∙ (λ i. pack mid * 4 ^ length-replicate {A = ℕ} (64 - n) 0 i + packed_zeros 0 (64 - n) i) ∙ omega arith)

  -- its bytes begin with the codes, packed
  pub bytes_begin : (x : ℕ) → x ≡ pack w
      → take (size_of n) (bytes_high_first 16 (x * 2 ^ (2 * s) % 2 ^ 128 / 2 ^ (128 - 2 * n) * 2 ^ (128 - 2 * n) % 2 ^ 128)) ≡ packed_codes mid
  bytes_begin x number =
      let y = x * 2 ^ (2 * s) % 2 ^ 128 / 2 ^ (128 - 2 * n) * 2 ^ (128 - 2 * n) % 2 ^ 128 in
      let laid = mid ++ replicate (64 - n) 0 in
      let bytes = bytes_high_first 16 y in
      let sized : size_of n ≤ 16 = omega arith in
      let long : length laid ≡ 64 = omega (arith, length-append mid (replicate (64 - n) 0), long_mid, length-replicate {A = ℕ} (64 - n) 0) in
      let small : AreCodes laid = codes_append mid (replicate (64 - n) 0) mid_codes (zeros_are_codes (64 - n)) in
      let value : y ≡ pack laid =
      ap (λ v. v * 2 ^ (2 * s) % 2 ^ 128 / 2 ^ (128 - 2 * n) * 2 ^ (128 - 2 * n) % 2 ^ 128) number
      ∙ ap (λ v. v * 2 ^ (128 - 2 * n) % 2 ^ 128) cut_is ∙ laid_is in
      let spread : codes_in bytes ≡ laid = codes_of_bytes 16 y ∙ (λ i. unpack (sym long i) (value i)) ∙ unpack_pack laid small in
      let front : codes_in (take (size_of n) bytes) ≡ take (4 * size_of n) laid = take_codes (size_of n) bytes ∙ ap (take (4 * size_of n)) spread in
      let d = 4 * size_of n - n in
      let parts : 4 * size_of n ≡ n + d = omega arith in
      let own : take n (codes_in (take (size_of n) bytes)) ≡ mid =
      ap (take n) front ∙ take-take n (4 * size_of n) laid (omega arith) ∙ take_at mid (replicate (64 - n) 0) n long_mid in
      let others : drop n (codes_in (take (size_of n) bytes)) ≡ take d (replicate (64 - n) 0) =
      ap (drop n) (front ∙ ap (λ t. take t laid) parts) ∙ drop-take n d laid ∙ ap (take d) (drop_at mid (replicate (64 - n) 0) n long_mid) in
      sym (packed_back n (take (size_of n) bytes) (bytes_take (size_of n) bytes (are_bytes 16 y))
      (length-take-le (size_of n) bytes (omega (arith, length_bytes 16 y))) (subst AreZeros (sym others) (zeros_front d (64 - n))))
      ∙ ap packed_codes own
