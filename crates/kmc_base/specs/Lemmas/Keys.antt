-- The keys of words, packed and unpacked.
use Rattle.std.proofs.Common.{◌≡◌, ℕ, zero, suc, ◌+◌, ◌-◌, ◌<◌, ◌≤◌, ◌^◌, ◌==◌, ◌||◌, Bool, true, false, cond, nat_lt, All, Option, Some, None, List, [], ◌∷◌, ◌++◌, length, map, drop, refl, sym, ap, subst, ◌∙◌, arith, length-drop}
use Rattle.std.proofs.lemmas.List.{length-take-le}
use Rattle.std.proofs.lemmas.List.Elements.{All-from_recursion}
use Rattle.std.proofs.lemmas.Bool.Decides.{nat_tests}
use Rattle.std.specs.Option.{option_map, option_and_then}
use Rattle.std.specs.List.{range_with_len, filter_map, cons_option, AllByRecursion}
use Rattle.kmc_base.specs.declared.strands.Strands.{Strands}
use Rattle.kmc_base.specs.declared.strands.Strands.TheVariants.{Joined, Apart}
use Rattle.kmc_base.specs.Words.{code_of, codes_of, window}
use Rattle.kmc_base.specs.Packed.{unpack, pack}
use Rattle.kmc_base.specs.Lemmas.Packs.{AreCodes, codes_canonical, length_canonical, unpack_pack, pack_fits}
use Rattle.kmc_base.specs.Lemmas.Rolling.{codes_part}
use Rattle.kmc_base.specs.Strands.{key, placed_key, keys}
use Rattle.kmc_base.specs.Places.{word_at, counted_words}

-- a word of k codes
abbrev pub IsWord : ℕ → List ℕ → Type 0
IsWord k w = (length w ≡ k) × AreCodes w

abbrev pub AreWords : ℕ → List (List ℕ) → Type 0
AreWords k ws = AllByRecursion (IsWord k) ws

pub words_append : (k : ℕ) (xs ys : List (List ℕ)) → AreWords k xs → AreWords k ys → AreWords k (xs ++ ys)
words_append k [] ys h g = g
words_append k (x ∷ xs) ys h g = (h.0, words_append k xs ys h.1 g)

pub key_is_word : (strands : Strands) (k : ℕ) (w : List ℕ) → IsWord k w → IsWord k (key strands w)
key_is_word Joined k w h = (length_canonical w ∙ h.0, codes_canonical w h.1)
key_is_word Apart k w h = h

pub window_is_word : (k : ℕ) (s : List ℕ) (i : ℕ) → AreCodes s → i + k ≤ length s → IsWord k (window k s i)
window_is_word k s i codes room = (length-take-le k (drop i s) (omega (arith, length-drop i s)), codes_part k i s codes)

keys_from : (strands : Strands) (k : ℕ) (s : List ℕ) (a n : ℕ) → AreCodes s → a + n + k ≤ length s + 1 → AreWords k
    (map (λ i. key strands (window k s i)) (range_with_len a n))
keys_from strands k s a zero codes room = tt
keys_from strands k s a (suc n) codes room =
    (key_is_word strands k (window k s a) (window_is_word k s a codes (omega arith)), keys_from strands k s (a + 1) n codes (omega arith))

pub keys_are_words : (strands : Strands) (k : ℕ) (s : List ℕ) → AreCodes s → AreWords k (keys strands k s)
keys_are_words strands k s codes = go (length s + 1 - k) (λ _. length s + 1 - k)
  where
    go : (n : ℕ) → n ≡ length s + 1 - k → AreWords k (map (λ i. key strands (window k s i)) (range_with_len 0 n))
    go zero e = tt
    go (suc n) e = keys_from strands k s 0 (suc n) codes (omega arith)

pub unpack_all : (k : ℕ) (ws : List (List ℕ)) → AreWords k ws → map (unpack k) (map pack ws) ≡ ws
unpack_all k [] h = refl
unpack_all k (w ∷ ws) h =
    let e : unpack k (pack w) ≡ w = ap (λ n. unpack n (pack w)) (sym h.0.0) ∙ unpack_pack w h.0.1 in
    (λ i. e i ∷ unpack_all k ws h.1 i)

packs_within : (k : ℕ) (ws : List (List ℕ)) → AreWords k ws → AllByRecursion (λ n. n < 4 ^ k) (map pack ws)
packs_within k [] h = tt
packs_within k (w ∷ ws) h =
    let fits : pack w < 4 ^ k = rw h.0.0 at (pack_fits w h.0.1) in
    (fits, packs_within k ws h.1)

pub packs_fit : (k : ℕ) (ws : List (List ℕ)) → AreWords k ws → All (λ n. n < 4 ^ k) (map pack ws)
packs_fit k ws h = All-from_recursion (λ (n : ℕ). n < 4 ^ k) (map pack ws) (packs_within k ws h)

-- ---- the words at counted places

abbrev pub IsCode : Option ℕ → Type 0
IsCode None = Unit {0}
IsCode (Some c) = c < 4

pub code_small : (b : ℕ) → IsCode (code_of b)
code_small b = go ((b == 65) || (b == 97)) ((b == 67) || (b == 99)) ((b == 71) || (b == 103)) ((b == 84) || (b == 116))
  where
    go : (a c g t : Bool) → IsCode (cond a (Some 0) (cond c (Some 1) (cond g (Some 2) (cond t (Some 3) None))))
    go true c g t = omega arith
    go false true g t = omega arith
    go false false true t = omega arith
    go false false false true = omega arith
    go false false false false = tt

abbrev IsWordOf : ℕ → Option (List ℕ) → Type 0
IsWordOf n None = Unit {0}
IsWordOf n (Some w) = IsWord n w

codes_of_is_word : (bs : List ℕ) → IsWordOf (length bs) (codes_of bs)
codes_of_is_word [] = (refl, tt)
codes_of_is_word (b ∷ bs) = go (code_of b) (codes_of bs) (code_small b) (codes_of_is_word bs)
  where
    go : (o : Option ℕ) (w : Option (List ℕ)) → IsCode o → IsWordOf (length bs) w → IsWordOf (suc (length bs))
        (option_and_then (λ c. option_map (λ cs. c ∷ cs) w) o)
    go None w small h = tt
    go (Some c) None small h = tt
    go (Some c) (Some w) small h = (ap suc h.0, (small, h.1))

word_at_is_word : (k : ℕ) (read : List ℕ) (i : ℕ) → IsWordOf k (word_at k read i)
word_at_is_word k read i = go (nat_lt (length read) (i + k)) refl
  where
    go : (t : Bool) → nat_lt (length read) (i + k) ≡ t → IsWordOf k (cond t None (codes_of (window k read i)))
    go true e = tt
    go false e =
        let room : i + k ≤ length read = grind (arith, nat_tests) in
        let long : length (window k read i) ≡ k = length-take-le k (drop i read) (omega (arith, length-drop i read)) in
        subst (λ n. IsWordOf n (codes_of (window k read i))) long (codes_of_is_word (window k read i))

keys_placed_at : (strands : Strands) (k : ℕ) (read ns : List ℕ) → AreWords k
    (map (placed_key strands) (filter_map (λ i. option_map (λ w. (i, w)) (word_at k read i)) ns))
keys_placed_at strands k read [] = tt
keys_placed_at strands k read (n ∷ ns) = go (word_at k read n) (word_at_is_word k read n) (keys_placed_at strands k read ns)
  where
    go : (o : Option (List ℕ)) → IsWordOf k o → AreWords k (map (placed_key strands) (filter_map (λ i. option_map (λ w. (i, w)) (word_at k read i)) ns))
        → AreWords k (map (placed_key strands) (cons_option (option_map (λ w. (n, w)) o) (filter_map (λ i. option_map (λ w. (i, w)) (word_at k read i)) ns)))
    go None h more = more
    go (Some w) h more = (key_is_word strands k w h, more)

pub counted_keys_are_words : (strands : Strands) (k : ℕ) (read : List ℕ) → AreWords k (map (placed_key strands) (counted_words k read))
counted_keys_are_words strands k read = keys_placed_at strands k read (range_with_len 0 (length read))
