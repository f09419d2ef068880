-- The dumps of parts of reads, summed.
use Rattle.std.proofs.Common.{◌≡◌, ℕ, zero, suc, ◌+◌, ◌≤◌, ◌^◌, List, [], ◌∷◌, ◌++◌, length, refl, sym, subst, ◌∙◌, arith}
use Rattle.std.specs.List.{AllByRecursion, count_by, range_with_len}
use Rattle.std.proofs.lemmas.List.Sums.{sum_by-cons, sum_by-append}
use Rattle.kmc_base.specs.Places.{word_at}
use Rattle.kmc_base.specs.declared.strands.Strands.{Strands}
use Rattle.kmc_count.specs.declared.limits.Limits.{Limits}
use Rattle.kmc_count.specs.Occurrences.{is_key_of, count_of}
use Rattle.kmc_count.specs.Dump.{IsListed, shown, words_of, IsDump}
use Rattle.kmc_count.specs.Merge.{joined}
use Rattle.kmc_base.specs.Lemmas.Members.{has_contains}
use Rattle.kmc_count.specs.Lemmas.OneDump.{listed_has}
use Rattle.kmc_sum.specs.Sum.{listed_count, sum_of}
use Rattle.kmc_sum.specs.Laws.{ListsEach, AreDumpsOfParts}
use Rattle.kmc_sum.specs.Lemmas.Listed.{none_listed, numbered}

module _ (strands : Strands) (k : ℕ) where
  pub counts_add : (reads others : List (List ℕ)) (x : List ℕ) → count_of strands k (reads ++ others) x
      ≡ count_of strands k reads x + count_of strands k others x
  counts_add reads others x = sum_by-append (λ (read : List ℕ). count_by (λ i. is_key_of strands x (word_at k read i))
      (range_with_len 0 (length read))) reads others

module _ (x : List ℕ) where
  -- the dump in which each count is listed gives a word its count
  pub counted : (c : List ℕ → ℕ) (l : Limits) (ps : List (List ℕ × ℕ)) → ListsEach l → c x ≤ 2 ^ 63 → IsDump c l ps → listed_count ps x ≡ c x
  counted c l ps every few dump = go (c x) refl
    where
      shows : (qs : List (List ℕ × ℕ)) → AllByRecursion (λ p. IsListed l (c p.0) × (p.1 ≡ shown l (c p.0))) qs → AllByRecursion (λ p. p.1 ≡ c p.0) qs
      shows [] h = tt
      shows (q ∷ qs) h =
          let here : q.1 ≡ c q.0 = omega (arith, h.0.1, h.0.0.2, every.cx, every.cs) in
          (here, shows qs h.1)

      go : (n : ℕ) → c x ≡ n → listed_count ps x ≡ c x
      go zero e = none_listed x ps (λ m. let some = listed_has c l ps x dump.each m in omega (arith, some.0, e)) ∙ sym e
      go (suc n) e = numbered x c ps (shows ps dump.each) dump.rising (has_contains x (words_of ps)
          (dump.all x (omega (arith, e), omega (arith, e, every.ci), omega (arith, every.cx, few))))

module _ (strands : Strands) (k : ℕ) (every : Limits) (each : ListsEach every) (x : List ℕ) where
  sums : (parts : List (List (List ℕ))) (lists : List (List (List ℕ × ℕ))) → AreDumpsOfParts strands k every parts lists → count_of strands k
      (joined parts) x ≤ 2 ^ 63
      → sum_of lists x ≡ count_of strands k (joined parts) x
  sums [] [] dumps few = refl
  sums [] (ps ∷ lists) dumps few = absurd dumps
  sums (part ∷ parts) [] dumps few = absurd dumps
  sums (part ∷ parts) (ps ∷ lists) dumps few =
      let add = counts_add strands k part (joined parts) x in
      let here = counted x (count_of strands k part) every ps each (omega (arith, add, few)) dumps.0 in
      let rest = sums parts lists dumps.1 (omega (arith, add, few)) in
      sum_by-cons (λ (qs : List (List ℕ × ℕ)). listed_count qs x) ps lists ∙ (λ i. here i + rest i) ∙ sym add

pub whole : (strands : Strands) (k : ℕ) (every l : Limits) (parts : List (List (List ℕ))) (lists : List (List (List ℕ × ℕ))) (pairs : List (List ℕ × ℕ))
    → ListsEach every → AreDumpsOfParts strands k every parts lists → ((x : List ℕ) → count_of strands k (joined parts) x ≤ 2 ^ 63)
    → IsDump (sum_of lists) l pairs → IsDump (count_of strands k (joined parts)) l pairs
whole strands k every l parts lists pairs each dumps few dump =
    subst (λ c. IsDump c l pairs) (λ i x. sums strands k every each x parts lists dumps (few x) i) dump
