-- Another byte is another check word.
use Rattle.std.proofs.Common.{◌≡◌, ◌≢◌, ℕ, zero, suc, ◌+◌, ◌-◌, ◌*◌, ◌/◌, ◌%◌, ◌<◌, ◌≤◌, ◌^◌, ◌⊎◌, inl, inr, List, [], ◌∷◌, length, take, drop, get_or, set, refl, sym, ap, subst, ◌∙◌, arith, length-drop}
use Rattle.std.specs.Int.{w64, to_le_bytes, from_le_bytes}
use Rattle.std.specs.Int.Bits.{bit_xor, xor_assoc, xor_self, xor_zero_r}
use Rattle.std.specs.List.{AllByRecursion}
use Rattle.std.proofs.lemmas.Bool.{cases_lt}
use Rattle.std.proofs.lemmas.List.{get_or-take, get_or-drop, get_or-set_same, length-set, length-take-le, take-set-le, drop-set-lt, drop-set-add}
use Rattle.std.proofs.lemmas.Nat.{xor_comm, xor_lt, xor_shr, le_bytes_8}
use Rattle.std.proofs.Math.Seq.{take-set-lt}
use Rattle.kmc_slice_files.specs.Check.{times, folded, mixed, taken, rest_taken, hashed_words, hashed}
use Rattle.kmc_slice_files.proofs.Hashing.{times_small, mixed_small, folded_small}
use Rattle.kmc_slice_files.proofs.Reading.{below}

-- the factor is odd, so another one takes it back
factor_back : (x : ℕ) → x < 2 ^ 64 → ((x * 14313749767032793493) % 2 ^ 64 * 6879827495036328381) % 2 ^ 64 ≡ x
factor_back x small = omega (arith, small)

times_told : (x y : ℕ) → x < 2 ^ 64 → y < 2 ^ 64 → times x ≡ times y → x ≡ y
unfolding times
times_told x y small less e = sym (factor_back x small) ∙ ap (λ z. (z * 6879827495036328381) % 2 ^ 64) e ∙ factor_back y less

xor_back : (s n : ℕ) → bit_xor (bit_xor s n) n ≡ s
xor_back s n = xor_assoc s n n ∙ ap (bit_xor s) (xor_self n) ∙ xor_zero_r s

-- what is carried down twice is carried back
fold_back : (x : ℕ) → x < 2 ^ 64 → folded (folded x) ≡ x
unfolding folded
fold_back x small =
    let upper : bit_xor x (x / 2 ^ 47) / 2 ^ 47 ≡ x / 2 ^ 47 =
    xor_shr x (x / 2 ^ 47) 47 ∙ ap (bit_xor (x / 2 ^ 47)) (omega (arith, small)) ∙ xor_zero_r (x / 2 ^ 47) in
    ap (bit_xor (bit_xor x (x / 2 ^ 47))) upper ∙ xor_back x (x / 2 ^ 47)

fold_told : (x y : ℕ) → x < 2 ^ 64 → y < 2 ^ 64 → folded x ≡ folded y → x ≡ y
fold_told x y small less e = sym (fold_back x small) ∙ ap folded e ∙ fold_back y less

mixed_state : (s t n : ℕ) → s < 2 ^ 64 → t < 2 ^ 64 → n < 2 ^ 64 → mixed s n ≡ mixed t n → s ≡ t
unfolding mixed
mixed_state s t n small less number e =
    let same = times_told (bit_xor s n) (bit_xor t n) (xor_lt 64 s n small number) (xor_lt 64 t n less number) e in
    sym (xor_back s n) ∙ ap (λ x. bit_xor x n) same ∙ xor_back t n

mixed_number : (s n m : ℕ) → s < 2 ^ 64 → n < 2 ^ 64 → m < 2 ^ 64 → mixed s n ≡ mixed s m → n ≡ m
unfolding mixed
mixed_number s n m state small less e =
    let same = times_told (bit_xor s n) (bit_xor s m) (xor_lt 64 s n state small) (xor_lt 64 s m state less) e in
    let turned : bit_xor n s ≡ bit_xor m s = xor_comm n s ∙ same ∙ xor_comm s m in
    sym (xor_back n s) ∙ ap (λ x. bit_xor x s) turned ∙ xor_back m s

-- what a word becomes before it is taken
abbrev scrambled : ℕ → ℕ
scrambled n = times (folded (times n))

scrambled_told : (n m : ℕ) → n < 2 ^ 64 → m < 2 ^ 64 → scrambled n ≡ scrambled m → n ≡ m
scrambled_told n m small less e =
    times_told n m small less
    (fold_told (times n) (times m) (times_small n) (times_small m)
    (times_told (folded (times n)) (folded (times m)) (folded_small (times n) (times_small n)) (folded_small (times m) (times_small m)) e))

abbrev AreBytes : List ℕ → Type 0
AreBytes bs = (i : ℕ) → get_or bs i 0 < 256

taken_bytes : (n : ℕ) (bs : List ℕ) → AreBytes bs → AreBytes (take n bs)
taken_bytes zero bs are zero = omega arith
taken_bytes zero bs are (suc i) = omega arith
taken_bytes (suc n) [] are i = are i
taken_bytes (suc n) (x ∷ bs) are zero = are 0
taken_bytes (suc n) (x ∷ bs) are (suc i) = taken_bytes n bs (λ j. are (suc j)) i

dropped_bytes : (n : ℕ) (bs : List ℕ) → AreBytes bs → AreBytes (drop n bs)
dropped_bytes n bs are i = subst (λ x. x < 256) (sym (get_or-drop n bs i 0)) (are (n + i))

changed_bytes : (bs : List ℕ) (i b : ℕ) → AreBytes bs → b < 256 → AreBytes (set bs i b)
changed_bytes [] i b are small j = are j
changed_bytes (x ∷ bs) zero b are small zero = small
changed_bytes (x ∷ bs) zero b are small (suc j) = are (suc j)
changed_bytes (x ∷ bs) (suc i) b are small zero = are 0
changed_bytes (x ∷ bs) (suc i) b are small (suc j) = changed_bytes bs i b (λ k. are (suc k)) small j

word_small : (bs : List ℕ) → AreBytes bs → from_le_bytes w64 bs < 2 ^ 64
word_small bs are = omega (arith, are 0, are 1, are 2, are 3, are 4, are 5, are 6, are 7)

-- the first eight bytes of a list, with zeros where it has fewer
abbrev eight : List ℕ → List ℕ
eight bs = get_or bs 0 0 ∷ get_or bs 1 0 ∷ get_or bs 2 0 ∷ get_or bs 3 0 ∷ get_or bs 4 0 ∷ get_or bs 5 0 ∷ get_or bs 6 0 ∷ get_or bs 7 0 ∷ []

eight_bytes : (bs : List ℕ) → AreBytes bs → AreBytes (eight bs)
eight_bytes bs are = below (eight bs) (are 0, (are 1, (are 2, (are 3, (are 4, (are 5, (are 6, (are 7, tt))))))))

eight_told : (xs ys : List ℕ) → AreBytes xs → AreBytes ys → from_le_bytes w64 xs ≡ from_le_bytes w64 ys → eight xs ≡ eight ys
eight_told xs ys are are' e =
    sym (le_bytes_8 (eight xs) (from_le_bytes w64 xs) refl (eight_bytes xs are) refl) ∙ ap (to_le_bytes w64) e
    ∙ le_bytes_8 (eight ys) (from_le_bytes w64 ys) refl (eight_bytes ys are') refl

places : (xs ys : List ℕ) → eight xs ≡ eight ys → (i : ℕ) → i < 8 → get_or xs i 0 ≡ get_or ys i 0
places xs ys same zero lt = ap (λ (l : List ℕ). get_or l 0 0) same
places xs ys same (suc zero) lt = ap (λ (l : List ℕ). get_or l 1 0) same
places xs ys same (suc (suc zero)) lt = ap (λ (l : List ℕ). get_or l 2 0) same
places xs ys same (suc (suc (suc zero))) lt = ap (λ (l : List ℕ). get_or l 3 0) same
places xs ys same (suc (suc (suc (suc zero)))) lt = ap (λ (l : List ℕ). get_or l 4 0) same
places xs ys same (suc (suc (suc (suc (suc zero))))) lt = ap (λ (l : List ℕ). get_or l 5 0) same
places xs ys same (suc (suc (suc (suc (suc (suc zero)))))) lt = ap (λ (l : List ℕ). get_or l 6 0) same
places xs ys same (suc (suc (suc (suc (suc (suc (suc zero))))))) lt = ap (λ (l : List ℕ). get_or l 7 0) same
places xs ys same (suc (suc (suc (suc (suc (suc (suc (suc i)))))))) lt = absurd (omega (arith, lt))

-- a word of another byte is another number
word_differs : (bs : List ℕ) (i b : ℕ) → AreBytes bs → i < length bs → i < 8 → b < 256 → (b ≡ get_or bs i 0 → ⊥)
    → from_le_bytes w64 (set bs i b) ≡ from_le_bytes w64 bs → ⊥
word_differs bs i b are inside lt byte differ e =
    let same = places (set bs i b) bs (eight_told (set bs i b) bs (changed_bytes bs i b are byte) are e) i lt in
    differ (sym (get_or-set_same bs i b 0 inside) ∙ same)

-- states that differ stay so
rest_state : (s t : ℕ) (bs : List ℕ) → s < 2 ^ 64 → t < 2 ^ 64 → AreBytes bs → rest_taken s bs ≡ rest_taken t bs → s ≡ t
rest_state s t [] small less are e = e
rest_state s t (b ∷ bs) small less are e = mixed_state s t (from_le_bytes w64 (b ∷ bs)) small less (word_small (b ∷ bs) are) e

words_state : (n s t : ℕ) (bs : List ℕ) → s < 2 ^ 64 → t < 2 ^ 64 → AreBytes bs → hashed_words s n bs ≡ hashed_words t n bs → s ≡ t
words_state zero s t bs small less are e = rest_state s t bs small less are e
words_state (suc n) s t bs small less are e =
    let word = scrambled (from_le_bytes w64 (take 8 bs)) in
    mixed_state s t word small less (times_small (folded (times (from_le_bytes w64 (take 8 bs)))))
    (words_state n (mixed s word) (mixed t word) (drop 8 bs) (mixed_small s word) (mixed_small t word) (dropped_bytes 8 bs are) e)

-- another byte at a place is another state
abbrev Differs : ℕ → ℕ → List ℕ → ℕ → ℕ → Type 0
Differs n s bs i b = n * 8 ≤ length bs → length bs < n * 8 + 8 → s < 2 ^ 64 → AreBytes bs → i < length bs → b < 256
    → (b ≡ get_or bs i 0 → ⊥) → hashed_words s n (set bs i b) ≡ hashed_words s n bs → ⊥

rest_differs : (s : ℕ) (bs : List ℕ) (i b : ℕ) → Differs 0 s bs i b
rest_differs s [] i b many few small are inside byte differ e = omega (arith, inside)
rest_differs s (x ∷ bs) zero b many few small are inside byte differ e =
    word_differs (x ∷ bs) 0 b are inside (omega arith) byte differ
    (mixed_number s (from_le_bytes w64 (b ∷ bs)) (from_le_bytes w64 (x ∷ bs)) small
    (word_small (b ∷ bs) (changed_bytes (x ∷ bs) 0 b are byte)) (word_small (x ∷ bs) are) e)
rest_differs s (x ∷ bs) (suc i) b many few small are inside byte differ e =
    word_differs (x ∷ bs) (suc i) b are inside (omega (arith, inside, few)) byte differ
    (mixed_number s (from_le_bytes w64 (x ∷ set bs i b)) (from_le_bytes w64 (x ∷ bs)) small
    (word_small (x ∷ set bs i b) (changed_bytes (x ∷ bs) (suc i) b are byte)) (word_small (x ∷ bs) are) e)

words_differ : (n s : ℕ) (bs : List ℕ) (i b : ℕ) → Differs n s bs i b
words_differ zero s bs i b many few small are inside byte differ e = rest_differs s bs i b many few small are inside byte differ e
words_differ (suc n) s bs i b many few small are inside byte differ e =
    go (λ j. words_differ n (taken s (from_le_bytes w64 (take 8 bs))) (drop 8 bs) j b) (cases_lt i 8)
  where
    word : ℕ
    word = from_le_bytes w64 (take 8 bs)

    next : ℕ
    next = taken s word

    go : ((j : ℕ) → Differs n next (drop 8 bs) j b) → (i < 8) ⊎ (8 ≤ i) → ⊥
    go behind (inl lt) =
        let first = set (take 8 bs) i b in
        let long : length (take 8 bs) ≡ 8 = length-take-le 8 bs (omega (arith, many)) in
        let other : ℕ = from_le_bytes w64 first in
        let bytes = taken_bytes 8 bs are in
        let ends : hashed_words (taken s other) n (drop 8 bs) ≡ hashed_words next n (drop 8 bs) =
        sym (λ p. hashed_words (taken s (from_le_bytes w64 (take-set-lt 8 bs i b lt p))) n (drop-set-lt 8 bs i b lt p)) ∙ e in
        let states = words_state n (taken s other) next (drop 8 bs) (mixed_small s (scrambled other)) (mixed_small s (scrambled word))
        (dropped_bytes 8 bs are) ends in
        let numbers = mixed_number s (scrambled other) (scrambled word) small (times_small (folded (times other)))
        (times_small (folded (times word))) states in
        let words = scrambled_told other word (word_small first (changed_bytes (take 8 bs) i b bytes byte)) (word_small (take 8 bs) bytes) numbers in
        word_differs (take 8 bs) i b bytes (omega (arith, long, lt)) lt byte (λ q. differ (q ∙ get_or-take 8 bs i 0 lt)) words
    go behind (inr ge) =
        let j = i - 8 in
        let place : i ≡ 8 + j = omega (arith, ge) in
        let rest : drop 8 (set bs i b) ≡ set (drop 8 bs) j b = ap (λ x. drop 8 (set bs x b)) place ∙ drop-set-add 8 bs j b in
        let ends : hashed_words next n (set (drop 8 bs) j b) ≡ hashed_words next n (drop 8 bs) =
        sym (λ p. hashed_words (taken s (from_le_bytes w64 (take-set-le 8 bs i b ge p))) n (rest p)) ∙ e in
        behind j (omega (arith, many, length-drop 8 bs)) (omega (arith, few, many, length-drop 8 bs)) (mixed_small s (scrambled word))
        (dropped_bytes 8 bs are)
        (omega (arith, inside, place, length-drop 8 bs)) byte
        (λ q. differ (q ∙ get_or-drop 8 bs j 0 ∙ ap (λ x. get_or bs x 0) (sym place))) ends

-- the state behind all bytes
words_end : (n s : ℕ) (bs : List ℕ) → s < 2 ^ 64 → hashed_words s n bs < 2 ^ 64
words_end zero s [] small = small
words_end zero s (b ∷ bs) small = mixed_small s (from_le_bytes w64 (b ∷ bs))
words_end (suc n) s bs small = words_end n (taken s (from_le_bytes w64 (take 8 bs))) (drop 8 bs)
    (mixed_small s (scrambled (from_le_bytes w64 (take 8 bs))))

finished_told : (s t : ℕ) → s < 2 ^ 64 → t < 2 ^ 64 → folded (times (folded s)) ≡ folded (times (folded t)) → s ≡ t
finished_told s t small less e =
    fold_told s t small less
    (times_told (folded s) (folded t) (folded_small s small) (folded_small t less)
    (fold_told (times (folded s)) (times (folded t)) (times_small (folded s)) (times_small (folded t)) e))

pub bytes_told : (seed : ℕ) (bytes : List ℕ) (i b : ℕ) → seed < 2 ^ 64 → AllByRecursion (λ x. x < 256) bytes → i < length bytes → b < 256
    → b ≢ get_or bytes i 0 → hashed seed (set bytes i b) ≢ hashed seed bytes
unfolding hashed
bytes_told seed bytes i b small are inside byte differ e =
    let start : ℕ = bit_xor seed (times (length bytes)) in
    let few : start < 2 ^ 64 = xor_lt 64 seed (times (length bytes)) small (times_small (length bytes)) in
    let words : ℕ = length bytes / 8 in
    let same = ap (λ n. folded (times (folded (hashed_words (bit_xor seed (times n)) (n / 8) (set bytes i b))))) (sym (length-set bytes i b)) ∙ e in
    words_differ words start bytes i b (omega arith) (omega arith) few (below bytes are) inside byte differ
    (finished_told (hashed_words start words (set bytes i b)) (hashed_words start words bytes)
    (words_end words start (set bytes i b) few) (words_end words start bytes few) same)
