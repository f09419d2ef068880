-- The counted places of a read are those of two pieces of it which overlap by one symbol less than a word has.
use Rattle.std.proofs.Common.{◌≡◌, ℕ, zero, suc, ◌+◌, ◌-◌, ◌<◌, ◌≤◌, true, cond, nat_lt, List, ◌++◌, length, take, drop, Option, None, refl, sym, ap, ap₂, ◌∙◌, arith, length-append, append_assoc, zero-add}
use Rattle.std.proofs.Math.Seq.{drop-append-add}
use Rattle.std.proofs.lemmas.Bool.Decides.{nat_tests}
use Rattle.std.proofs.lemmas.List.{take-append-le, drop-append-le, length-drop}
use Rattle.std.proofs.lemmas.List.Sums.{sum_by-cons}
use Rattle.std.specs.List.{sum_by, range_with_len}
use Rattle.kmc_base.specs.declared.strands.Strands.{Strands}
use Rattle.kmc_base.specs.Places.{word_at}
use Rattle.kmc_base.specs.Words.{codes_of, window}
use Rattle.kmc_base.specs.Lemmas.Orders.{lt_same}
use Rattle.kmc_count.specs.Occurrences.{is_key_of}
use Rattle.kmc_reads.specs.Cuts.{AddsUp}
use Rattle.kmc_stage_two.specs.Laws.{CutReadsAreCounted}
use Rattle.kmc_stage_two.proofs.Summed.{sum_range}

-- ---- sums over numbers in a row

in_two : (F : ℕ → ℕ) (a m n : ℕ) → sum_by F (range_with_len a (m + n)) ≡ sum_by F (range_with_len a m) + sum_by F (range_with_len (a + m) n)
in_two F a zero n =
    let e : 0 + n ≡ n = omega arith in
    let g : a ≡ a + 0 = omega arith in
    ap (λ q. sum_by F (range_with_len a q)) e ∙ ap (λ q. sum_by F (range_with_len q n)) g ∙ sym (zero-add (sum_by F (range_with_len (a + 0) n)))
in_two F a (suc m) n =
    let e : suc m + n ≡ suc (m + n) = omega arith in
    let g : a + 1 + m ≡ a + suc m = omega arith in
    let more : sum_by F (range_with_len (a + 1) (m + n)) ≡ sum_by F (range_with_len (a + 1) m) + sum_by F (range_with_len (a + suc m) n) =
    in_two F (a + 1) m n ∙ ap (λ q. sum_by F (range_with_len (a + 1) m) + sum_by F (range_with_len q n)) g in
    let here = sum_by-cons F a (range_with_len (a + 1) (m + n)) in
    let first = sum_by-cons F a (range_with_len (a + 1) m) in
    ap (λ q. sum_by F (range_with_len a q)) e ∙ omega (arith, more, here, first)

moved : (F : ℕ → ℕ) (s a n : ℕ) → sum_by (λ i. F (s + i)) (range_with_len a n) ≡ sum_by F (range_with_len (s + a) n)
moved F s a zero = refl
moved F s a (suc n) =
    let e : s + (a + 1) ≡ s + a + 1 = omega arith in
    sum_by-cons (λ i. F (s + i)) a (range_with_len (a + 1) n)
    ∙ ap (λ q. F (s + a) + q) (moved F s (a + 1) n ∙ ap (λ q. sum_by F (range_with_len q n)) e)
    ∙ sym (sum_by-cons F (s + a) (range_with_len (s + a + 1) n))

nothing : (F : ℕ → ℕ) (a n : ℕ) → ((i : ℕ) → a ≤ i → F i ≡ 0) → sum_by F (range_with_len a n) ≡ 0
nothing F a zero none = refl
nothing F a (suc n) none =
    let here = none a (omega arith) in let rest = nothing F (a + 1) n (λ i le. none i (omega arith)) in
    sum_by-cons F a (range_with_len (a + 1) n) ∙ omega (arith, here, rest)

-- ---- the words of a front and of the rest

beyond : (k : ℕ) (read : List ℕ) (i : ℕ) → length read < i + k → word_at k read i ≡ None
beyond k read i short =
    let t : nat_lt (length read) (i + k) ≡ true = grind (arith, nat_tests) in
    rw t refl

word_before : (k : ℕ) (xs ys : List ℕ) (i : ℕ) → i + k ≤ length xs → word_at k (xs ++ ys) i ≡ word_at k xs i
word_before k xs ys i room =
    let long = length-append xs ys in
    let test : nat_lt (length (xs ++ ys)) (i + k) ≡ nat_lt (length xs) (i + k) = lt_same (length (xs ++ ys)) (i + k) (length xs) (i + k)
    (λ h. omega (arith, h, long, room)) (λ h. omega (arith, h, long, room)) in
    let same : window k (xs ++ ys) i ≡ window k xs i =
    ap (take k) (drop-append-le i xs ys (omega (arith, room))) ∙ take-append-le k (drop i xs) ys (omega (arith, room, length-drop i xs)) in
    (λ j. cond (test j) None (codes_of (same j)))

word_behind : (k : ℕ) (xs ys : List ℕ) (i : ℕ) → word_at k ys i ≡ word_at k (xs ++ ys) (length xs + i)
word_behind k xs ys i =
    let long = length-append xs ys in
    let test : nat_lt (length ys) (i + k) ≡ nat_lt (length (xs ++ ys)) (length xs + i + k) = lt_same (length ys) (i + k) (length (xs ++ ys))
    (length xs + i + k) (λ h. omega (arith, h, long)) (λ h. omega (arith, h, long)) in
    let same : window k ys i ≡ window k (xs ++ ys) (length xs + i) = ap (take k) (sym (drop-append-add xs ys i)) in
    (λ j. cond (test j) None (codes_of (same j)))

-- ---- a word's places in a read add up

module _ (strands : Strands) (k : ℕ) (some : 1 ≤ k) (x : List ℕ) where
  -- 1 where the word at a place has the key
  abbrev hit : List ℕ → ℕ → ℕ
  hit read i = cond (is_key_of strands x (word_at k read i)) 1 0

  abbrev places : List ℕ → ℕ
  places read = sum_by (hit read) (range_with_len 0 (length read))

  abbrev hits : Option (List ℕ) → ℕ
  hits w = cond (is_key_of strands x w) 1 0

  places_add_up : AddsUp (k - 1) places
  places_add_up a b c long =
      let read = a ++ (b ++ c) in
      let all : length read ≡ length a + length (b ++ c) = length-append a (b ++ c) in
      let two : length (a ++ b) ≡ length a + length b = length-append a b in
      let start : 0 + length a ≡ length a + 0 = omega arith in
      let front : places (a ++ b) ≡ sum_by (hit read) (range_with_len 0 (length a)) =
      ap (λ n. sum_by (hit (a ++ b)) (range_with_len 0 n)) two
      ∙ in_two (hit (a ++ b)) 0 (length a) (length b)
      ∙ ap₂ (λ (m n : ℕ). m + n)
      (sum_range (hit (a ++ b)) (hit read) 0 (length a) (λ i from to. ap hits
      (sym (ap (λ r. word_at k r i) (sym (append_assoc a b c)) ∙ word_before k (a ++ b) c i (omega (arith, two, long, to, some))))))
      (nothing (hit (a ++ b)) (0 + length a) (length b) (λ i le. ap hits (beyond k (a ++ b) i (omega (arith, two, long, le, some)))))
      ∙ omega arith in
      let rest : places (b ++ c) ≡ sum_by (hit read) (range_with_len (0 + length a) (length (b ++ c))) =
      sum_range (hit (b ++ c)) (λ i. hit read (length a + i)) 0 (length (b ++ c)) (λ i from to. ap hits (word_behind k a (b ++ c) i))
      ∙ moved (hit read) (length a) 0 (length (b ++ c))
      ∙ ap (λ n. sum_by (hit read) (range_with_len n (length (b ++ c)))) (sym start) in
      ap (λ n. sum_by (hit read) (range_with_len 0 n)) all
      ∙ in_two (hit read) 0 (length a) (length (b ++ c))
      ∙ ap₂ (λ (m n : ℕ). m + n) (sym front) (sym rest)

pub cut_counted : CutReadsAreCounted
cut_counted strands k reads cuts some cut x = sym (cut (places strands k some x) (places_add_up strands k some x))
