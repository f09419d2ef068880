-- The line of a word at the front of bytes.
use Rattle.std.proofs.Common.{◌≡◌, ℕ, zero, suc, ◌+◌, ◌-◌, ◌<◌, ◌≤◌, ◌⊎◌, inl, inr, List, [], ◌∷◌, ◌++◌, length, take, drop, get_or, map, set, refl, sym, ap, subst, ◌∙◌, arith, append_assoc, length-append, length-drop}
use Rattle.std.specs.Prelude.{MatchOption, Option, None, Some}
use Rattle.std.proofs.lemmas.List.{get_or_append_left, get_or-append_right, get_or-take, get_or-set_other, get_or-set_same, map-append, take_more, take_more_set, length-map, length-take-le, take-append-drop, drop-take, drop-drop, drop_at}
use Rattle.std.proofs.lemmas.List.Elements.{All-get_or, All-from_get_or}
use Rattle.std.proofs.lemmas.Bool.{cases_eq, cases_order}
use Rattle.kmc_base.specs.Words.{IsKmer, letter}
use Rattle.kmc_sum.specs.Line.{IsLetter}
use Rattle.kmc_join.specs.Asking.{BeginsNoWord, word_line}

no_letter : IsLetter 10 → ⊥
no_letter (zero, small, e) = absurd (omega (arith, e))
no_letter (suc zero, small, e) = absurd (omega (arith, e))
no_letter (suc (suc zero), small, e) = absurd (omega (arith, e))
no_letter (suc (suc (suc zero)), small, e) = absurd (omega (arith, e))
no_letter (suc (suc (suc (suc c))), small, e) = absurd (omega (arith, small))

-- the bytes are the line of a word and more, and so many letters stand at their front
module _ (xs w more : List ℕ) (k : ℕ) (is : xs ≡ word_line w ++ more) (kmer : IsKmer w) (each : (i : ℕ) → i < k → IsLetter (get_or xs i 0))
    (ends : k < 64 → k < length xs → IsLetter (get_or xs k 0) → ⊥) where
  splits : xs ≡ map letter w ++ 10 ∷ more
  splits = is ∙ append_assoc (map letter w) (10 ∷ []) more

  front_long : length (map letter w) ≡ length w
  front_long = length-map w letter

  long : length xs ≡ length w + suc (length more)
  long = ap length splits ∙ length-append (map letter w) (10 ∷ more) ∙ ap (λ n. n + suc (length more)) front_long

  at_end : get_or xs (length w) 0 ≡ 10
  at_end =
      ap (λ (l : List ℕ). get_or l (length w) 0) splits
      ∙ get_or-append_right (map letter w) (10 ∷ more) (length w) (length w) 0 front_long (omega arith)
      ∙ (let none : length w - length w ≡ 0 = omega arith in ap (λ m. get_or (10 ∷ more) m 0) none)

  in_front : (i : ℕ) → i < length w → IsLetter (get_or xs i 0)
  in_front i inside = (
    get_or w i 0,
    All-get_or (λ c. c < 4) w i 0 inside kmer.codes,
    sym (ap (λ (l : List ℕ). get_or l i 0) splits ∙ get_or_append_left (map letter w) (10 ∷ more) 0 i (omega (arith, inside, front_long))
        ∙ at_letter w i inside),
  )
    where
      at_letter : (v : List ℕ) (j : ℕ) → j < length v → get_or (map letter v) j 0 ≡ letter (get_or v j 0)
      at_letter [] j h = absurd (omega (arith, h))
      at_letter (c ∷ v) zero h = refl
      at_letter (c ∷ v) (suc j) h = at_letter v j (omega (arith, h))

  -- they are those of the word
  pub all_letters : k ≡ length w
  all_letters = go (cases_order k (length w))
    where
      go : (k ≡ length w) ⊎ ((k < length w) ⊎ (length w < k)) → k ≡ length w
      go (inl same) = same
      go (inr (inl less)) = absurd (ends (omega (arith, less, kmer.most)) (omega (arith, less, long)) (in_front k less))
      go (inr (inr above)) = absurd (no_letter (subst IsLetter at_end (each (length w) above)))

  pub not_all : k ≡ length xs → ⊥
  not_all e = omega (arith, e, all_letters, long)

  pub line_feed : get_or xs k 0 ≡ 10
  line_feed = ap (λ i. get_or xs i 0) all_letters ∙ at_end

-- so many codes are a word
pub codes_are : (codes : List ℕ) (k : ℕ) → 1 ≤ k → k ≤ 64 → k ≤ length codes → ((i : ℕ) → i < k → get_or codes i 0 < 4) → IsKmer (take k codes)
codes_are codes k some most within small =
    let long : length (take k codes) ≡ k = length-take-le k codes within in
    record {
      some = omega (arith, long, some);
      most = omega (arith, long, most);
      codes = All-from_get_or (λ c. c < 4) (take k codes) 0
          (λ i inside. subst (λ c. c < 4) (sym (get_or-take k codes i 0 (omega (arith, inside, long)))) (small i (omega (arith, inside, long))));
    }

-- the bytes begin with the line of the word
pub line_begins : (xs codes : List ℕ) (k : ℕ) → k < length xs → take k xs ≡ map letter (take k codes) → get_or xs k 0 ≡ 10
    → xs ≡ word_line (take k codes) ++ drop (k + 1) xs
line_begins xs codes k inside letters feed =
    sym (take-append-drop (k + 1) xs) ∙ ap (λ (t : List ℕ). t ++ drop (k + 1) xs) (take_more xs k 0 inside ∙ (λ j. letters j ++ feed j ∷ []))

-- one code more
pub codes_more : (codes : List ℕ) (n code : ℕ) → n < length codes → code < 4 → ((j : ℕ) → j < n → get_or codes j 0 < 4) → (j : ℕ) → j < n + 1
    → get_or (set codes n code) j 0 < 4
codes_more codes n code inside small before j below = go (cases_eq j n)
  where
    go : (j ≡ n) ⊎ (j ≡ n → ⊥) → get_or (set codes n code) j 0 < 4
    go (inl same) = subst (λ c. c < 4) (sym (ap (λ m. get_or (set codes n code) m 0) same ∙ get_or-set_same codes n code 0 inside)) small
    go (inr differ) = subst (λ c. c < 4) (sym (get_or-set_other codes n j code 0 differ)) (before j (omega arith))

pub letters_more : (xs codes : List ℕ) (n code : ℕ) → n < length xs → n < length codes → take n xs ≡ map letter (take n codes)
    → letter code ≡ get_or xs n 0 → take (n + 1) xs ≡ map letter (take (n + 1) (set codes n code))
letters_more xs codes n code inside room before here =
    take_more xs n 0 inside ∙ (λ j. before j ++ sym here j ∷ []) ∙ sym (map-append letter (take n codes) (code ∷ []))
    ∙ ap (map letter) (sym (take_more_set codes n code room))

-- the word of the codes, where they are one
pub word_found : (xs codes rest : List ℕ) (o : Option (List ℕ)) → MatchOption o (IsKmer codes → ⊥) (λ w. (w ≡ codes) × IsKmer codes)
    → xs ≡ word_line codes ++ rest → ((w more : List ℕ) → IsKmer w → xs ≡ word_line w ++ more → IsKmer codes)
    → MatchOption o (BeginsNoWord xs) (λ w. IsKmer w × ((more : List ℕ) × (xs ≡ word_line w ++ more)))
word_found xs codes rest None none begins only = λ w more kmer e. none (only w more kmer e)
word_found xs codes rest (Some w) found begins only =
    (subst IsKmer (sym found.0) found.1, (rest, begins ∙ ap (λ (v : List ℕ). word_line v ++ rest) (sym found.0)))

-- behind the line of a word
pub rest_of_word : (from to n : ℕ) (bytes w more : List ℕ) → from ≤ to → to ≤ length bytes → n ≡ length w
    → take (to - from) (drop from bytes) ≡ word_line w ++ more
    → take (to - from) (drop from bytes) ≡ word_line w ++ take (to - (from + (n + 1))) (drop (from + (n + 1)) bytes)
rest_of_word from to n bytes w more order inside is e =
    let line : length (word_line w) ≡ n + 1 = omega (arith, length-append (map letter w) (10 ∷ []), length-map w letter, is) in
    let all : length (take (to - from) (drop from bytes)) ≡ to - from = length-take-le (to - from) (drop from bytes)
    (omega (arith, length-drop from bytes)) in
    let few : from + (n + 1) ≤ to = omega (arith, all, ap length e, length-append (word_line w) more, line, order) in
    let split : to - from ≡ n + 1 + (to - (from + (n + 1))) = omega (arith, few) in
    let behind : drop (n + 1) (take (to - from) (drop from bytes)) ≡ take (to - (from + (n + 1))) (drop (from + (n + 1)) bytes) =
    ap (λ m. drop (n + 1) (take m (drop from bytes))) split ∙ drop-take (n + 1) (to - (from + (n + 1))) (drop from bytes)
    ∙ ap (take (to - (from + (n + 1)))) (drop-drop (n + 1) from bytes) in
    let rest : more ≡ take (to - (from + (n + 1))) (drop (from + (n + 1)) bytes) =
    sym (drop_at (word_line w) more (n + 1) line) ∙ ap (drop (n + 1)) (sym e) ∙ behind in
    e ∙ ap (λ (t : List ℕ). word_line w ++ t) rest
