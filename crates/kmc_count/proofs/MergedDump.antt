-- The dumps of lists of words that share none, merged, are one dump.
use Rattle.std.proofs.Common.{◌≡◌, ℕ, zero, suc, ◌<◌, ◌≤◌, List, [], ◌∷◌, ◌++◌, length, get_or, map, refl, sym, subst, arith}
use Rattle.std.specs.List.{All, AllZip, Contains}
use Rattle.std.proofs.lemmas.List.{length-map, map-append, get_or-map}
use Rattle.std.proofs.lemmas.List.Elements.{All-nil, All-append, All-weaker, All-from_recursion, recursion_from_All, Contains-append_left, Contains-append_right}
use Rattle.std.proofs.lemmas.List.Sorted.{IsPermutation-map, All-permutation, Contains-permutation}
use Rattle.std.proofs.lemmas.Slice.Zip.{AllZip-long}
use Rattle.kmc_base.specs.declared.strands.Strands.{Strands}
use Rattle.kmc_base.specs.Record.{IsBodyOf}
use Rattle.kmc_record.specs.RecordWords.{record_keys}
use Rattle.kmc_base.specs.SpellingLaws.{BodyHasOneList}
use Rattle.kmc_count.specs.declared.limits.Limits.{Limits}
use Rattle.kmc_count.specs.Occurrences.{occurrences}
use Rattle.kmc_count.specs.Dump.{IsListed, shown, words_of, IsDump}
use Rattle.kmc_count.specs.Bodies.{AreDumpsOfBodies}
use Rattle.kmc_count.specs.Merge.{joined, AreApart, EachRises, IsMerged, AreDumps}
use Rattle.kmc_count.specs.Lemmas.Apart.{occurrences_both, occurs_contains, tail_apart, none_behind, none_before}
use Rattle.kmc_count.specs.Lemmas.OneDump.{listed_has}
use Rattle.kmc_base.specs.Lemmas.Members.{has_contains}
use Rattle.kmc_count.specs.Lemmas.Zips.{zip_at}

module _ (l : Limits) where
  -- a pair of the dump of a count
  abbrev Right : (List ℕ → ℕ) → List ℕ × ℕ → Type 0
  Right c p = IsListed l (c p.0) × (p.1 ≡ shown l (c p.0))

  same_where_listed : (c d : List ℕ → ℕ) (ps : List (List ℕ × ℕ)) → ((x : List ℕ) → IsListed l (c x) → d x ≡ c x) → All (Right c) ps → All (Right d) ps
  same_where_listed c d ps same = All-weaker (Right c) (Right d) (λ p h. subst (λ n. IsListed l n × (p.1 ≡ shown l n)) (sym (same p.0 h.0)) h) ps

  each_right : (wss : List (List (List ℕ))) (lists : List (List (List ℕ × ℕ))) → AreDumps l wss lists → AreApart wss → All
      (Right (occurrences (joined wss))) (joined lists)
  each_right [] [] dumps apart = All-nil (Right (occurrences []))
  each_right [] (ps ∷ lists) dumps apart = absurd dumps
  each_right (ws ∷ wss) [] dumps apart = absurd dumps
  each_right (ws ∷ wss) (ps ∷ lists) dumps apart =
      let all = occurrences (joined (ws ∷ wss)) in
      let first = same_where_listed (occurrences ws) all ps
      (λ x listed. let none = none_behind x ws wss apart listed.0 in let sum = occurrences_both x ws (joined wss) in omega (arith, sum, none))
      (All-from_recursion (Right (occurrences ws)) ps dumps.0.each) in
      let rest = same_where_listed (occurrences (joined wss)) all (joined lists)
      (λ x listed. let none = none_before x ws wss apart listed.0 in let sum = occurrences_both x ws (joined wss) in omega (arith, sum, none))
      (each_right wss lists dumps.1 (tail_apart ws wss apart)) in
      All-append (Right all) ps (joined lists) first rest

  all_there : (x : List ℕ) (wss : List (List (List ℕ))) (lists : List (List (List ℕ × ℕ))) → AreDumps l wss lists → AreApart wss → IsListed l
      (occurrences (joined wss) x) → Contains (words_of (joined lists)) x
  all_there x [] lists dumps apart listed = absurd (omega (arith, listed.0))
  all_there x (ws ∷ wss) [] dumps apart listed = absurd dumps
  all_there x (ws ∷ wss) (ps ∷ lists) dumps apart listed =
      subst (λ (t : List (List ℕ)). Contains t x) (sym (map-append (λ (p : List ℕ × ℕ). p.0) ps (joined lists)))
      (go (occurrences ws x) refl (all_there x wss lists dumps.1 (tail_apart ws wss apart)))
    where
      go : (n : ℕ) → occurrences ws x ≡ n → (IsListed l (occurrences (joined wss) x) → Contains (words_of (joined lists)) x) → Contains
          (words_of ps ++ words_of (joined lists)) x
      go zero e more =
          let same : occurrences (joined (ws ∷ wss)) x ≡ occurrences (joined wss) x = omega (arith, occurrences_both x ws (joined wss), e) in
          Contains-append_right (words_of ps) (words_of (joined lists)) x (more (subst (IsListed l) same listed))
      go (suc n) e more =
          let some : 1 ≤ occurrences ws x = omega (arith, e) in
          let none = none_behind x ws wss apart some in
          let same : occurrences (joined (ws ∷ wss)) x ≡ occurrences ws x = omega (arith, occurrences_both x ws (joined wss), none) in
          Contains-append_left (words_of ps) (words_of (joined lists)) x (dumps.0.all x (subst (IsListed l) same listed))

  pub merged_dump : (wss : List (List (List ℕ))) (lists : List (List (List ℕ × ℕ))) (pairs : List (List ℕ × ℕ)) → AreDumps l wss lists → AreApart wss
      → IsMerged lists pairs
      → IsDump (occurrences (joined wss)) l pairs
  merged_dump wss lists pairs dumps apart merged = record {
    rising = merged.rising;
    each =
        let P = Right (occurrences (joined wss)) in
        recursion_from_All P pairs (All-permutation P (joined lists) pairs merged.all (each_right wss lists dumps apart));
    all = λ x listed.
        Contains-permutation (words_of (joined lists)) (words_of pairs) x
        (IsPermutation-map (λ (p : List ℕ × ℕ). p.0) (joined lists) pairs merged.all) (all_there x wss lists dumps apart listed);
  }

  dumped_occurs : (x : List ℕ) (ws : List (List ℕ)) (ps : List (List ℕ × ℕ)) → IsDump (occurrences ws) l ps → Contains (words_of ps) x → Contains ws x
  dumped_occurs x ws ps dump m = occurs_contains x ws (listed_has (occurrences ws) l ps x dump.each (has_contains x (words_of ps) m)).0

  module _ (wss : List (List (List ℕ))) (lists : List (List (List ℕ × ℕ))) (dumps : AreDumps l wss lists) where
    long : length lists ≡ length wss
    long = AllZip-long (λ ws ps. IsDump (occurrences ws) l ps) wss lists dumps

    dump_at : (i : ℕ) → i < length wss → (d : List (List ℕ)) (e : List (List ℕ × ℕ)) → IsDump (occurrences (get_or wss i d)) l (get_or lists i e)
    dump_at i inside d e = zip_at (λ ws ps. IsDump (occurrences ws) l ps) wss lists i d e dumps inside

    pub dumps_apart : AreApart wss → AreApart (map words_of lists)
    dumps_apart apart = λ i j d low high x here there.
        let second : j < length lists = omega (arith, high, length-map lists words_of) in
        let first : i < length lists = omega (arith, low, second) in
        let a = subst (λ (t : List (List ℕ)). Contains t x) (get_or-map words_of lists i [] d first) here in
        let b = subst (λ (t : List (List ℕ)). Contains t x) (get_or-map words_of lists j [] d second) there in
        let m : i < length wss = omega (arith, first, long) in
        let n : j < length wss = omega (arith, second, long) in
        apart i j d low n x (dumped_occurs x _ _ (dump_at i m d []) a) (dumped_occurs x _ _ (dump_at j n d []) b)

    pub dumps_rise : EachRises lists
    dumps_rise = λ i d inside. (dump_at i (omega (arith, inside, long)) [] d).rising

-- the dumps of bodies are those of the keys of their super-k-mers
pub dumps_of_keys : (one : BodyHasOneList) (strands : Strands) (k : ℕ) (l : Limits) (bodies : List (List ℕ)) (sss : List (List (List ℕ)))
    (lists : List (List (List ℕ × ℕ)))
    → AreDumpsOfBodies strands k l bodies lists → AllZip (IsBodyOf k) sss bodies → AreDumps l (map (record_keys strands k) sss) lists
dumps_of_keys one strands k l [] [] [] dumps are = tt
dumps_of_keys one strands k l [] [] (ps ∷ lists) dumps are = absurd dumps
dumps_of_keys one strands k l [] (ss ∷ sss) lists dumps are = absurd are
dumps_of_keys one strands k l (body ∷ bodies) [] lists dumps are = absurd are
dumps_of_keys one strands k l (body ∷ bodies) (ss ∷ sss) [] dumps are = absurd dumps
dumps_of_keys one strands k l (body ∷ bodies) (ss ∷ sss) (ps ∷ lists) dumps are =
    let same : dumps.0.super_kmers ≡ ss = one k dumps.0.super_kmers ss body dumps.0.records are.0 in (
      subst (λ (t : List (List ℕ)). IsDump (occurrences (record_keys strands k t)) l ps) same dumps.0.dump,
      dumps_of_keys one strands k l bodies sss lists dumps.1 are.1,
    )
