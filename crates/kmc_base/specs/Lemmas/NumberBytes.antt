-- Numbers as bytes, the highest first, and the codes in them.
use Rattle.std.proofs.Common.{◌≡◌, ℕ, zero, suc, ◌+◌, ◌*◌, ◌/◌, ◌%◌, ◌^◌, ◌<◌, List, [], ◌∷◌, ◌++◌, length, get_or, map, reverse, refl, sym, ap, ◌∙◌, arith}
use Rattle.std.proofs.lemmas.List.FromFn.{fill_by_all}
use Rattle.std.proofs.lemmas.Nat.{pow-add}
use Rattle.std.proofs.Math.Nat.{pow-succ'}
use Rattle.std.specs.Int.{byte_at, bytes_high_first, from_be_bytes, from_le_bytes, w128}
use Rattle.std.specs.List.{range_with_len}
use Rattle.kmc_base.specs.Packed.{unpack, pack, pack_after}
use Rattle.kmc_base.specs.Lemmas.Packing.{unpack_split}
use Rattle.kmc_base.specs.Lemmas.Spelled.{AreBytes}
use Rattle.kmc_base.specs.Record.{quarters, codes_in}

-- ---- the codes of a number's bytes

four_codes : (p : ℕ) → unpack 4 p ≡ quarters (p % 256)
four_codes p =
    let a : p / 4 / 4 / 4 % 4 ≡ p % 256 / 64 % 4 = omega arith in
    let b : p / 4 / 4 % 4 ≡ p % 256 / 16 % 4 = omega arith in
    let c : p / 4 % 4 ≡ p % 256 / 4 % 4 = omega arith in
    let d : p % 4 ≡ p % 256 % 4 = omega arith in
    (λ i. a i ∷ b i ∷ c i ∷ d i ∷ [])

worth_of_byte : (i : ℕ) → 256 ^ i ≡ 4 ^ (4 * i)
worth_of_byte zero = refl
worth_of_byte (suc i) =
    let parts : 4 * suc i ≡ 4 + 4 * i = omega arith in
    omega (arith, pow-succ' 256 i, worth_of_byte i, ap (λ e. 4 ^ e) parts, pow-add 4 4 (4 * i))

byte_is : (i n : ℕ) → byte_at i n ≡ n / 4 ^ (4 * i) % 256
byte_is zero n =
    let all : n / 4 ^ (4 * 0) ≡ n = omega arith in
    ap (λ t. t % 256) (sym all)
byte_is (suc i) n = ap (λ t. n / t % 256) (worth_of_byte (suc i))

pub codes_of_bytes : (k n : ℕ) → codes_in (bytes_high_first k n) ≡ unpack (4 * k) n
codes_of_bytes zero n = refl
codes_of_bytes (suc k) n =
    let more : 4 * suc k ≡ 4 + 4 * k = omega arith in
    (λ i. quarters (byte_is k n i) ++ codes_of_bytes k n i)
    ∙ ap (λ (t : List ℕ). t ++ unpack (4 * k) n) (sym (four_codes (n / 4 ^ (4 * k))))
    ∙ sym (ap (λ m. unpack m n) more ∙ unpack_split 4 (4 * k) n)

pub length_bytes : (k n : ℕ) → length (bytes_high_first k n) ≡ k
length_bytes zero n = refl
length_bytes (suc k) n = ap suc (length_bytes k n)

pub are_bytes : (k n : ℕ) → AreBytes (bytes_high_first k n)
are_bytes zero n = tt
are_bytes (suc k) n =
    let small : byte_at k n < 256 = rw (byte_is k n) (omega arith) in
    (small, are_bytes k n)

-- ---- the number of sixteen bytes

byte_more : (p b : ℕ) (w : List ℕ) → b < 256 → pack_after p (quarters b ++ w) ≡ pack_after (p * 256 + b) w
byte_more p b w small =
    let e : (((p * 4 + b / 64 % 4) * 4 + b / 16 % 4) * 4 + b / 4 % 4) * 4 + b % 4 ≡ p * 256 + b = omega arith in
    ap (λ q. pack_after q w) e

-- a number with more bytes behind it
abbrev pub bytes_after : ℕ → List ℕ → ℕ
bytes_after p [] = p
bytes_after p (b ∷ bs) = bytes_after (p * 256 + b) bs

pub packed_bytes : (p : ℕ) (bs : List ℕ) → AreBytes bs → pack_after p (codes_in bs) ≡ bytes_after p bs
packed_bytes p [] h = refl
packed_bytes p (b ∷ bs) h = byte_more p b (codes_in bs) h.0 ∙ packed_bytes (p * 256 + b) bs h.1

each_read : (bs : List ℕ) → length bs ≡ 16 → bs ≡ map (λ i. get_or bs i 0) (range_with_len 0 16)
each_read bs long = fill_by_all (λ i. get_or bs i 0) bs 16 0 long (λ j l. refl)

pub number_of_bytes : (bs : List ℕ) → length bs ≡ 16 → AreBytes bs → from_be_bytes w128 bs ≡ pack (codes_in bs)
number_of_bytes bs long small =
    let sum : from_be_bytes w128 bs ≡ bytes_after 0 (map (λ i. get_or bs i 0) (range_with_len 0 16)) = omega arith in
    sum ∙ ap (bytes_after 0) (sym (each_read bs long)) ∙ sym (packed_bytes 0 bs small)

-- the first of them lowest
pub number_low_first : (bs : List ℕ) → length bs ≡ 16 → from_le_bytes w128 bs ≡ bytes_after 0 (reverse bs)
number_low_first bs long =
    let sum : from_le_bytes w128 bs ≡ bytes_after 0 (reverse (map (λ i. get_or bs i 0) (range_with_len 0 16))) = omega arith in
    sum ∙ ap (λ (t : List ℕ). bytes_after 0 (reverse t)) (sym (each_read bs long))
