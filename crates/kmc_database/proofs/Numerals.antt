-- Numbers told from their bytes.
use Rattle.std.proofs.Common.{◌≡◌, ℕ, zero, suc, ◌+◌, ◌*◌, ◌/◌, ◌^◌, ◌<◌, Bool, true, false, nat_eq, List, [], ◌∷◌, length, take, drop, refl, sym, ap, subst, ◌∙◌, arith}
use Rattle.std.proofs.Math.Nat.{pow-succ'}
use Rattle.std.proofs.lemmas.Bool.Decides.{Decides-eqb, same_from_decides}
use Rattle.std.proofs.lemmas.Slice.Eq.{bytes_eq-Decides}
use Rattle.std.proofs.lemmas.List.{length-take}
use Rattle.std.specs.Bool.{Decides}
use Rattle.std.specs.Int.{byte_at, bytes_high_first}
use Rattle.std.specs.List.{AllByRecursion}
use Rattle.kmc_database.specs.Numbers.{low_first}
use Rattle.kmc_database.specs.Numerals.{has_at, low_number, with_digits}
use Rattle.kmc_database.specs.Lemmas.Bytes.{byte_is, length_low, low_same, next_quotient}

pub low_of : (k n : ℕ) → n < 256 ^ k → low_number (low_first k n) ≡ n
low_of zero n fits = omega (arith, fits)
low_of (suc k) n fits =
    let power : 256 ^ suc k ≡ 256 * 256 ^ k = pow-succ' 256 k in
    let rest : low_number (low_first k (n / 256)) ≡ n / 256 = low_of k (n / 256) (omega (arith, fits, power)) in
    omega (arith, rest)

-- the digits of a number behind its highest part
pub digits_of : (s n : ℕ) → with_digits (n / 256 ^ s) (bytes_high_first s n) ≡ n
digits_of zero n = omega arith
digits_of (suc s) n =
    let above : n / 256 ^ s / 256 ≡ n / 256 ^ suc s = next_quotient s n in
    let here : n / 256 ^ suc s * 256 + byte_at s n ≡ n / 256 ^ s = omega (arith, above, byte_is s n) in
    ap (λ m. with_digits m (bytes_high_first s n)) here ∙ digits_of s n

-- the highest part of a number with these digits
pub above_digits : (n : ℕ) (bytes : List ℕ) → AllByRecursion (λ b. b < 256) bytes → with_digits n bytes / 256 ^ length bytes ≡ n
above_digits n [] small = omega arith
above_digits n (b ∷ bytes) small =
    let m = with_digits (n * 256 + b) bytes in
    let rest : m / 256 ^ length bytes ≡ n * 256 + b = above_digits (n * 256 + b) bytes small.1 in
    let up : m / 256 ^ length bytes / 256 ≡ m / 256 ^ suc (length bytes) = next_quotient (length bytes) m in
    sym up ∙ ap (λ t. t / 256) rest ∙ omega (arith, small.0)

-- ---- a part that stands at a place

pub at_Decides : (bytes : List ℕ) (place : ℕ) (part : List ℕ) → Decides (has_at bytes place part) (take (length part) (drop place bytes) ≡ part)
at_Decides bytes place part = bytes_eq-Decides (take (length part) (drop place bytes)) part

-- it stands there where so many bytes are it
pub stands_at : (bytes : List ℕ) (place n : ℕ) (part : List ℕ) → length part ≡ n → take n (drop place bytes) ≡ part → has_at bytes place part ≡ true
stands_at bytes place n part long is =
    (at_Decides bytes place part).1 (subst (λ m. take m (drop place bytes) ≡ part) (sym long) is)

pub not_at : (bytes : List ℕ) (place : ℕ) (part : List ℕ) → (take (length part) (drop place bytes) ≡ part → ⊥) → has_at bytes place part ≡ false
not_at bytes place part none = go (has_at bytes place part) refl
  where
    go : (b : Bool) → has_at bytes place part ≡ b → has_at bytes place part ≡ false
    go true e = absurd (none ((at_Decides bytes place part).0 e))
    go false e = e

-- too few bytes
pub short_at : (bytes part : List ℕ) → length bytes < length part → has_at bytes 0 part ≡ false
short_at bytes part few =
    not_at bytes 0 part (λ e. omega (arith, few, ap length e, length-take (length part) bytes))

-- the bytes of one number stand where those of another are
pub number_there : (bytes : List ℕ) (place k n m : ℕ) → n < 256 ^ k → m < 256 ^ k → low_first k n ≡ take k (drop place bytes)
    → has_at bytes place (low_first k m) ≡ nat_eq n m
number_there bytes place k n m fits fits' is =
    let d = at_Decides bytes place (low_first k m) in
    let long = length_low k m in
    let here : take (length (low_first k m)) (drop place bytes) ≡ low_first k n = ap (λ i. take i (drop place bytes)) long ∙ sym is in
    same_from_decides (has_at bytes place (low_first k m)) (nat_eq n m) d (
      (λ e. here ∙ ap (low_first k) ((Decides-eqb n m).0 e)),
      λ e. (Decides-eqb n m).1 (low_same k n m fits fits' (sym here ∙ e)),
    )

-- a number that is told fits its bytes
pub low_small : (k n : ℕ) → low_number (low_first k n) < 256 ^ k
low_small zero n = omega arith
low_small (suc k) n =
    let power : 256 ^ suc k ≡ 256 * 256 ^ k = pow-succ' 256 k in
    let rest : low_number (low_first k (n / 256)) < 256 ^ k = low_small k (n / 256) in
    omega (arith, rest, power)
