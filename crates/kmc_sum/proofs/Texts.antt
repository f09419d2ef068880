-- A text lists one list of pairs; so the texts of dumps of parts are merged to that of the dump of all reads.
use Rattle.std.proofs.Common.{◌≡◌, ℕ, zero, suc, ◌+◌, ◌<◌, ◌≤◌, Bool, true, false, cond, List, [], ◌∷◌, ◌++◌, length, get_or, map, decimal, Some, refl, sym, ap, subst, ◌∙◌, arith, zero-add, length-append}
use Rattle.std.specs.Cmp.Lexicographic.{same_text}
use Rattle.std.specs.Int.{IsInRange}
use Rattle.std.specs.List.{AllByRecursion, AllZip, flat_map}
use Rattle.std.proofs.lemmas.Fmt.{decimal_is_IsNumeral, decimal_injective}
use Rattle.std.proofs.lemmas.List.Sums.{sum_by-cons}
use Rattle.std.proofs.lemmas.Str.Parse.{digit_at}
use Rattle.kmc_base.specs.Words.{code_of, letter}
use Rattle.kmc_base.specs.Places.{counted_words}
use Rattle.kmc_base.specs.Strands.{placed_key}
use Rattle.kmc_base.specs.declared.strands.Strands.{Strands}
use Rattle.kmc_base.specs.Lemmas.Packs.{AreCodes}
use Rattle.kmc_base.specs.Lemmas.Keys.{IsWord, AreWords, words_append, counted_keys_are_words}
use Rattle.kmc_count.specs.declared.limits.Limits.{Limits}
use Rattle.kmc_count.specs.Dump.{IsListed, shown, IsDump}
use Rattle.kmc_count.specs.Laws.{KeysOfReadsAreCounted}
use Rattle.kmc_count.specs.Occurrences.{same_word, occurrences, count_of}
use Rattle.kmc_lists.specs.Line.{line_of, text_of}
use Rattle.kmc_sum.specs.Line.{IsLetter}
use Rattle.kmc_sum.specs.Listed.{IsPair, Lists}
use Rattle.kmc_sum.specs.Laws.{ListsEach, AreDumpTexts, AreDumpsOfParts}
use Rattle.kmc_sum.proofs.Fronts.{not_tab, letters_are, line_splits}

-- bytes of one kind end at the first of another kind
same_front : (P : ℕ → Type 0) (t : ℕ) → (P t → ⊥) → (xs ys more other : List ℕ) → ((i : ℕ) → i < length xs → P (get_or xs i 0))
    → ((i : ℕ) → i < length ys → P (get_or ys i 0)) → xs ++ t ∷ more ≡ ys ++ t ∷ other → (xs ≡ ys) × (more ≡ other)
same_front P t not_of [] [] more other hx hy e = (refl, cc e)
same_front P t not_of [] (y ∷ ys) more other hx hy e =
    let first : y ≡ t = cc e in
    absurd (not_of (subst P first (hy 0 (omega arith))))
same_front P t not_of (x ∷ xs) [] more other hx hy e =
    let first : x ≡ t = cc e in
    absurd (not_of (subst P first (hx 0 (omega arith))))
same_front P t not_of (x ∷ xs) (y ∷ ys) more other hx hy e =
    let first : x ≡ y = cc e in
    let rest = same_front P t not_of xs ys more other (λ i h. hx (suc i) (omega (arith, h))) (λ i h. hy (suc i) (omega (arith, h))) (cc e) in
    ((λ i. first i ∷ rest.0 i), rest.1)

letter_read : (c : ℕ) → c < 4 → code_of (letter c) ≡ Some c
letter_read zero small = refl
letter_read (suc zero) small = refl
letter_read (suc (suc zero)) small = refl
letter_read (suc (suc (suc zero))) small = refl
letter_read (suc (suc (suc (suc c)))) small = absurd (omega (arith, small))

same_letters : (w v : List ℕ) → AreCodes w → AreCodes v → map letter w ≡ map letter v → w ≡ v
same_letters [] [] hw hv e = refl
same_letters [] (d ∷ v) hw hv e = absurd (cc e)
same_letters (c ∷ w) [] hw hv e = absurd (cc e)
same_letters (c ∷ w) (d ∷ v) hw hv e =
    let first : letter c ≡ letter d = cc e in
    let code : Some c ≡ Some d = sym (letter_read c hw.0) ∙ ap code_of first ∙ letter_read d hv.0 in
    let here : c ≡ d = cc code in
    let rest = same_letters w v hw.1 hv.1 (cc e) in
    λ i. here i ∷ rest i

same_line : (k n : ℕ) (p q : List ℕ × ℕ) (more other : List ℕ) → IsPair k p → IsPair n q → line_of p ++ more ≡ line_of q ++ other
    → (p ≡ q) × (more ≡ other)
same_line k n p q more other hp hq e =
    let split = sym (line_splits (map letter p.0) (decimal p.1) more) ∙ e ∙ line_splits (map letter q.0) (decimal q.1) other in
    let letters = same_front IsLetter 9 not_tab (map letter p.0) (map letter q.0) (decimal p.1 ++ 10 ∷ more) (decimal q.1 ++ 10 ∷ other)
    (letters_are p.0 hp.word.1) (letters_are q.0 hq.word.1) split in
    let digits = same_front (IsInRange 48 57) 10 (λ h. omega (arith, h.0)) (decimal p.1) (decimal q.1) more other
    (λ i inside. digit_at (decimal p.1) i (decimal_is_IsNumeral p.1 hp.most).0.1 inside)
    (λ i inside. digit_at (decimal q.1) i (decimal_is_IsNumeral q.1 hq.most).0.1 inside) letters.1 in
    let word = same_letters p.0 q.0 hp.word.1 hq.word.1 letters.0 in
    let count = decimal_injective p.1 q.1 hp.most hq.most digits.0 in
    ((λ i. (word i, count i)), digits.1)

some_line : (p : List ℕ × ℕ) (more : List ℕ) → [] ≡ line_of p ++ more → ⊥
some_line p more e =
    let bytes = ap length (e ∙ line_splits (map letter p.0) (decimal p.1) more) in
    omega (arith, bytes, length-append (map letter p.0) (9 ∷ (decimal p.1 ++ 10 ∷ more)))

pub same_pairs : (k n : ℕ) (ps qs : List (List ℕ × ℕ)) → AllByRecursion (IsPair k) ps → AllByRecursion (IsPair n) qs → text_of ps ≡ text_of qs → ps ≡ qs
same_pairs k n [] [] hp hq e = refl
same_pairs k n [] (q ∷ qs) hp hq e = absurd (some_line q (text_of qs) e)
same_pairs k n (p ∷ ps) [] hp hq e = absurd (some_line p (text_of ps) (sym e))
same_pairs k n (p ∷ ps) (q ∷ qs) hp hq e =
    let here = same_line k n p q (text_of ps) (text_of qs) hp.0 hq.0 e in
    let rest = same_pairs k n ps qs hp.1 hq.1 here.1 in
    λ i. here.0 i ∷ rest i

-- ---- the pairs of a dump of reads are listed

occurs_word : (k : ℕ) (ws : List (List ℕ)) (x : List ℕ) → AreWords k ws → 1 ≤ occurrences ws x → IsWord k x
occurs_word k [] x are some = absurd (omega (arith, some))
occurs_word k (w ∷ ws) x are some = go (same_word w x) refl (occurs_word k ws x are.1)
  where
    go : (b : Bool) → same_word w x ≡ b → (1 ≤ occurrences ws x → IsWord k x) → IsWord k x
    go true e later = subst (IsWord k) (same_text w x (sym e)) are.0
    go false e later =
        let fewer : occurrences (w ∷ ws) x ≡ occurrences ws x =
        sum_by-cons (λ (v : List ℕ). cond (same_word v x) 1 0) w ws ∙ (λ i. cond (e i) 1 0 + occurrences ws x) ∙ zero-add (occurrences ws x) in
        later (omega (arith, some, fewer))

module _ (keys : KeysOfReadsAreCounted) (strands : Strands) (k : ℕ) where
  keys_are_words : (reads : List (List ℕ)) → AreWords k (flat_map (λ read. map (placed_key strands) (counted_words k read)) reads)
  keys_are_words [] = tt
  keys_are_words (read ∷ reads) = words_append k _ _ (counted_keys_are_words strands k read) (keys_are_words reads)

  counted_word : (reads : List (List ℕ)) (x : List ℕ) → 1 ≤ count_of strands k reads x → IsWord k x
  counted_word reads x some =
      occurs_word k (flat_map (λ read. map (placed_key strands) (counted_words k read)) reads) x (keys_are_words reads)
      (omega (arith, some, keys strands k reads x))

  module _ (every : Limits) (each : ListsEach every) where
    are_pairs : (reads : List (List ℕ)) (ps : List (List ℕ × ℕ))
        → AllByRecursion (λ p. IsListed every (count_of strands k reads p.0) × (p.1 ≡ shown every (count_of strands k reads p.0))) ps
        → AllByRecursion (IsPair k) ps
    are_pairs reads [] h = tt
    are_pairs reads (p ∷ ps) h = (
      record {
        word = counted_word reads p.0 h.0.0.0;
        some = omega (arith, h.0.1, h.0.0.0, each.cs);
        most = omega (arith, h.0.1, each.cs);
      },
      are_pairs reads ps h.1,
    )

    pub same_lists : (n : ℕ) (parts : List (List (List ℕ))) (texts : List (List ℕ)) (lists : List (List (List ℕ × ℕ))) → AreDumpTexts strands k every
        parts texts → AllZip (Lists n) texts lists → AreDumpsOfParts strands k every parts lists
    same_lists n [] [] [] dumps listed = tt
    same_lists n [] [] (list ∷ lists) dumps listed = absurd listed
    same_lists n [] (text ∷ texts) lists dumps listed = absurd dumps
    same_lists n (part ∷ parts) [] lists dumps listed = absurd dumps
    same_lists n (part ∷ parts) (text ∷ texts) [] dumps listed = absurd listed
    same_lists n (part ∷ parts) (text ∷ texts) (list ∷ lists) dumps listed =
        let d = dumps.0 in
        let same : d.pairs ≡ list = same_pairs k n d.pairs list (are_pairs part d.pairs d.dump.each) listed.0.listed.each (sym d.is ∙ listed.0.lines) in
        (subst (IsDump (count_of strands k part) every) same d.dump, same_lists n parts texts lists dumps.1 listed.1)
