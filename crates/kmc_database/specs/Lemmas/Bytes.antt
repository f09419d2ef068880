-- The bytes of numbers, from both sides.
use Rattle.std.proofs.Common.{◌≡◌, ℕ, zero, suc, ◌+◌, ◌-◌, ◌*◌, ◌/◌, ◌%◌, ◌^◌, ◌<◌, ◌≤◌, List, [], ◌∷◌, ◌++◌, length, get_or, take, drop, refl, sym, ap, subst, ◌∙◌, arith, take_all}
use Rattle.std.proofs.Math.ListN.{drop_of_length-le}
use Rattle.std.proofs.Math.Pow.{pow_mono}
use Rattle.std.proofs.lemmas.Nat.{pow-add}
use Rattle.std.proofs.Math.Nat.{div-div-eq-div-mul, pow-succ'}
use Rattle.std.specs.Int.{byte_at, bytes_high_first, bytes_low_first, to_le_bytes, w64}
use Rattle.std.specs.List.{AllByRecursion}
use Rattle.kmc_base.specs.Packed.{unpack}
use Rattle.kmc_base.specs.Record.{codes_in, packed_codes}
use Rattle.kmc_base.specs.Lemmas.NumberBytes.{are_bytes, codes_of_bytes, length_bytes}
use Rattle.kmc_base.specs.Lemmas.Packing.{length_unpack}
use Rattle.kmc_base.specs.Lemmas.Spelled.{packed_back}
use Rattle.kmc_database.specs.Numbers.{low_first}

-- ---- the lowest byte first

pub byte_is : (i n : ℕ) → byte_at i n ≡ n / 256 ^ i % 256
byte_is zero n =
    let all : n / 256 ^ 0 ≡ n = omega arith in
    ap (λ t. t % 256) (sym all)
byte_is (suc i) n = refl

pub next_quotient : (i n : ℕ) → n / 256 ^ i / 256 ≡ n / 256 ^ suc i
next_quotient i n =
    let power : 256 ^ i * 256 ≡ 256 ^ suc i = omega (arith, pow-succ' 256 i) in
    div-div-eq-div-mul n (256 ^ i) 256 ∙ ap (λ d. n / d) power

pub low_from : (i k n : ℕ) → bytes_low_first i k n ≡ low_first k (n / 256 ^ i)
low_from i zero n = refl
low_from i (suc k) n = (λ j. byte_is i n j ∷ (low_from (suc i) k n ∙ ap (low_first k) (sym (next_quotient i n))) j)

pub low_is : (k n : ℕ) → bytes_low_first 0 k n ≡ low_first k n
low_is k n =
    let all : n / 256 ^ 0 ≡ n = omega arith in
    low_from 0 k n ∙ ap (low_first k) all

pub length_low : (k n : ℕ) → length (low_first k n) ≡ k
length_low zero n = refl
length_low (suc k) n = ap suc (length_low k (n / 256))

-- fewer of them
pub take_low : (k d n : ℕ) → take k (low_first (k + d) n) ≡ low_first k n
take_low zero d n = refl
take_low (suc k) d n =
    let more : suc k + d ≡ suc (k + d) = omega arith in
    ap (λ m. take (suc k) (low_first m n)) more ∙ ap (λ (t : List ℕ). n % 256 ∷ t) (take_low k d (n / 256))

pub first_of_eight : (k n : ℕ) → k ≤ 8 → take k (to_le_bytes w64 n) ≡ low_first k n
first_of_eight k n few =
    let all : k + (8 - k) ≡ 8 = omega arith in
    ap (take k) (low_is 8 n ∙ ap (λ m. low_first m n) (sym all)) ∙ take_low k (8 - k) n

-- ---- the highest first

pub drop_high : (d s n : ℕ) → drop d (bytes_high_first (d + s) n) ≡ bytes_high_first s n
drop_high zero s n =
    let none : 0 + s ≡ s = omega arith in
    ap (λ m. bytes_high_first m n) none
drop_high (suc d) s n =
    let more : suc d + s ≡ suc (d + s) = omega arith in
    ap (λ m. drop (suc d) (bytes_high_first m n)) more ∙ drop_high d s n

pub last_of_sixteen : (s n : ℕ) → s ≤ 16 → drop (16 - s) (bytes_high_first 16 n) ≡ bytes_high_first s n
last_of_sixteen s n few =
    let all : 16 - s + s ≡ 16 = omega arith in
    ap (λ m. drop (16 - s) (bytes_high_first m n)) (sym all) ∙ drop_high (16 - s) s n

-- one byte more, the lowest
pub high_more : (k n b : ℕ) → b < 256 → bytes_high_first (suc k) (n * 256 + b) ≡ bytes_high_first k n ++ b ∷ []
high_more zero n b small =
    let e : (n * 256 + b) % 256 ≡ b = omega (arith, small) in
    (λ i. e i ∷ [])
high_more (suc k) n b small =
    let m = n * 256 + b in
    let above : m / 256 ≡ n = omega (arith, small) in
    let power : 256 ^ suc k ≡ 256 * 256 ^ k = pow-succ' 256 k in
    let parts : m / 256 ^ suc k ≡ n / 256 ^ k =
    ap (λ d. m / d) power ∙ sym (div-div-eq-div-mul m 256 (256 ^ k)) ∙ ap (λ t. t / 256 ^ k) above in
    let here : byte_at (suc k) m ≡ byte_at k n = byte_is (suc k) m ∙ ap (λ t. t % 256) parts ∙ sym (byte_is k n) in
    (λ i. here i ∷ high_more k n b small i)

-- codes, four a byte, are the bytes of their number
pub packed_high : (s n : ℕ) → packed_codes (unpack (4 * s) n) ≡ bytes_high_first s n
packed_high s n =
    let bs = bytes_high_first s n in
    let codes = codes_of_bytes s n in
    let size : length bs ≡ (4 * s + 3) / 4 = omega (arith, length_bytes s n) in
    let all : take (4 * s) (codes_in bs) ≡ unpack (4 * s) n =
    ap (take (4 * s)) codes ∙ take_all (4 * s) (unpack (4 * s) n) (omega (arith, length_unpack (4 * s) n)) in
    let none : drop (4 * s) (codes_in bs) ≡ [] =
    ap (drop (4 * s)) codes ∙ drop_of_length-le (unpack (4 * s) n) (omega (arith, length_unpack (4 * s) n)) in
    ap packed_codes (sym all) ∙ packed_back (4 * s) bs (are_bytes s n) size (subst (AllByRecursion (λ c. c ≡ 0)) (sym none) tt)

-- ---- how much bytes hold

pub bits_of_bytes : (c : ℕ) → 2 ^ (8 * c) ≡ 256 ^ c
bits_of_bytes zero = refl
bits_of_bytes (suc c) =
    let more : 8 * suc c ≡ 8 + 8 * c = omega arith in
    ap (λ e. 2 ^ e) more ∙ pow-add 2 8 (8 * c) ∙ omega (arith, bits_of_bytes c, pow-succ' 256 c)

-- seven bytes and fewer leave room for one more in a `u64`
pub few_held : (i : ℕ) → i < 8 → 256 ^ i ≤ 2 ^ 56
few_held i few =
    let most : 8 * i ≤ 56 = omega (arith, few) in
    let up : 2 ^ (8 * i) ≤ 2 ^ 56 = pow_mono most in
    subst (λ n. n ≤ 2 ^ 56) (bits_of_bytes i) up

-- a number that fits its bytes
pub low_same : (k a b : ℕ) → a < 256 ^ k → b < 256 ^ k → low_first k a ≡ low_first k b → a ≡ b
low_same zero a b ha hb e = omega arith
low_same (suc k) a b ha hb e =
    let head : a % 256 ≡ b % 256 = ap (λ (t : List ℕ). get_or t 0 0) e in
    let rest : low_first k (a / 256) ≡ low_first k (b / 256) = ap (drop 1) e in
    let power : 256 ^ suc k ≡ 256 * 256 ^ k = pow-succ' 256 k in
    let fa : a / 256 < 256 ^ k = omega (arith, ha, power) in
    let fb : b / 256 < 256 ^ k = omega (arith, hb, power) in
    omega (arith, head, low_same k (a / 256) (b / 256) fa fb rest)
