-- Check words, a word at a time.
use Rattle.std.proofs.Common.{◌≡◌, ℕ, zero, suc, ◌+◌, ◌-◌, ◌*◌, ◌/◌, ◌<◌, ◌^◌, List, [], ◌∷◌, ◌++◌, length, take, drop, get_or, replicate, refl, sym, ap, ◌∙◌, arith}
use Rattle.std.specs.Int.{w64, from_le_bytes}
use Rattle.std.specs.Int.Bits.{bit_xor}
use Rattle.std.proofs.lemmas.List.{drop-drop}
use Rattle.std.proofs.lemmas.Nat.{xor_lt}
use Rattle.kmc_slice_files.specs.Check.{times, folded, mixed, taken, rest_taken, hashed_words, hashed}

-- one more word
pub word_taken : (state words : ℕ) (bytes : List ℕ) (i : ℕ) → i < words
    → hashed_words (taken state (from_le_bytes w64 (take 8 (drop (i * 8) bytes)))) (words - (i + 1)) (drop ((i + 1) * 8) bytes)
    ≡ hashed_words state (words - i) (drop (i * 8) bytes)
word_taken state words bytes i inside =
    let next : ℕ = taken state (from_le_bytes w64 (take 8 (drop (i * 8) bytes))) in
    let behind : drop ((i + 1) * 8) bytes ≡ drop 8 (drop (i * 8) bytes) = ap (λ n. drop n bytes) (omega arith) ∙ sym (drop-drop 8 (i * 8) bytes) in
    let left : suc (words - (i + 1)) ≡ words - i = omega (arith, inside) in
    ap (hashed_words next (words - (i + 1))) behind ∙ ap (λ n. hashed_words state n (drop (i * 8) bytes)) left

-- words with the same bytes
pub same_word : (xs ys : List ℕ) → ((i : ℕ) → get_or xs i 0 ≡ get_or ys i 0) → from_le_bytes w64 xs ≡ from_le_bytes w64 ys
same_word xs ys same = omega (arith, same 0, same 1, same 2, same 3, same 4, same 5, same 6, same 7)

-- zeros behind bytes
pub padded : (bytes zeros : List ℕ) → ((i : ℕ) → get_or zeros i 0 ≡ 0) → (i : ℕ) → get_or (bytes ++ zeros) i 0 ≡ get_or bytes i 0
padded [] zeros none zero = none 0
padded [] zeros none (suc i) = none (suc i)
padded (b ∷ bytes) zeros none zero = refl
padded (b ∷ bytes) zeros none (suc i) = padded bytes zeros none i

abbrev pub zeros : ℕ → List ℕ
zeros n = replicate n 0

pub all_zero : (n m i : ℕ) → get_or (drop m (zeros n)) i 0 ≡ 0
all_zero zero zero zero = refl
all_zero zero zero (suc i) = refl
all_zero zero (suc m) zero = refl
all_zero zero (suc m) (suc i) = refl
all_zero (suc n) zero zero = refl
all_zero (suc n) zero (suc i) = all_zero n zero i
all_zero (suc n) (suc m) i = all_zero n m i

-- bytes that are left
pub rest_is_one : (state : ℕ) (rest : List ℕ) → (length rest ≡ 0 → ⊥) → rest_taken state rest ≡ mixed state (from_le_bytes w64 rest)
rest_is_one state [] some = absurd (some refl)
rest_is_one state (b ∷ bs) some = refl

pub times_small : (x : ℕ) → times x < 2 ^ 64
unfolding times
times_small x = omega arith

pub mixed_small : (state n : ℕ) → mixed state n < 2 ^ 64
unfolding mixed
mixed_small state n = times_small (bit_xor state n)

pub folded_small : (x : ℕ) → x < 2 ^ 64 → folded x < 2 ^ 64
unfolding folded
folded_small x small = xor_lt 64 x (x / 2 ^ 47) small (omega (arith, small))

-- a check word is a number of 64 bits
pub hashed_small : (seed : ℕ) (bytes : List ℕ) → hashed seed bytes < 2 ^ 64
unfolding hashed
hashed_small seed bytes = folded_small _ (times_small _)

pub zero_small : (bytes : List ℕ) → hashed 0 bytes < 2 ^ 64
zero_small bytes = hashed_small 0 bytes
