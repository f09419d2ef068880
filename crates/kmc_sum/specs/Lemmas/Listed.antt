-- The numbers that a list of pairs gives words.
use Rattle.std.proofs.Common.{◌≡◌, ℕ, ◌+◌, inl, inr, Bool, true, false, cond, List, [], ◌∷◌, refl, ap, subst, ◌∙◌, zero-add, add-zero}
use Rattle.std.specs.List.{AllByRecursion}
use Rattle.std.specs.List.Sorted.{IsStrictlySortedBy}
use Rattle.std.specs.declared.cmp.Ordering.TheVariants.{Less}
use Rattle.std.proofs.lemmas.List.Sums.{sum_by-cons}
use Rattle.kmc_base.specs.Words.{kmer_cmp}
use Rattle.kmc_count.specs.Occurrences.{same_word}
use Rattle.kmc_count.specs.Dump.{words_of}
use Rattle.kmc_count.specs.Lemmas.Listing.{same_is, same_itself}
use Rattle.kmc_base.specs.Lemmas.Members.{Has, below_has}
use Rattle.kmc_count.specs.Lemmas.OneDump.{not_below_itself, Below}
use Rattle.kmc_sum.specs.Sum.{listed_count}

module _ (x : List ℕ) where
  listed_more : (p : List ℕ × ℕ) (ps : List (List ℕ × ℕ)) → listed_count (p ∷ ps) x ≡ cond (same_word p.0 x) p.1 0 + listed_count ps x
  listed_more p ps = sum_by-cons (λ (q : List ℕ × ℕ). cond (same_word q.0 x) q.1 0) p ps

  -- a word that is none of these has no number
  pub none_listed : (ps : List (List ℕ × ℕ)) → (Has x (words_of ps) → ⊥) → listed_count ps x ≡ 0
  none_listed [] none = refl
  none_listed (p ∷ ps) none = go (same_word p.0 x) refl (none_listed ps (λ m. none (inr m)))
    where
      go : (b : Bool) → same_word p.0 x ≡ b → listed_count ps x ≡ 0 → listed_count (p ∷ ps) x ≡ 0
      go true e more = absurd (none (inl (same_is p.0 x e)))
      go false e more = listed_more p ps ∙ (λ i. cond (e i) p.1 0 + more i)

  -- the word of a pair has its number
  pub numbered : (c : List ℕ → ℕ) (ps : List (List ℕ × ℕ)) → AllByRecursion (λ p. p.1 ≡ c p.0) ps → IsStrictlySortedBy kmer_cmp (words_of ps) → Has x
      (words_of ps) → listed_count ps x ≡ c x
  unfolding IsStrictlySortedBy
  numbered c [] is up m = absurd m
  numbered c (p ∷ ps) is up (inl e) =
      let none = none_listed ps (λ m. not_below_itself x (subst (λ w. kmer_cmp w x ≡ Less) e (below_has Below p.0 x (words_of ps) up.0 m))) in
      listed_more p ps ∙ (λ i. cond (same_word (e i) x) p.1 0 + none i) ∙ ap (λ b. cond b p.1 0 + 0) (same_itself x) ∙ add-zero p.1 ∙ is.0 ∙ ap c e
  numbered c (p ∷ ps) is up (inr m) = go (same_word p.0 x) refl (numbered c ps is.1 up.1 m)
    where
      go : (b : Bool) → same_word p.0 x ≡ b → listed_count ps x ≡ c x → listed_count (p ∷ ps) x ≡ c x
      go true e more = absurd (not_below_itself x (subst (λ w. kmer_cmp w x ≡ Less) (same_is p.0 x e) (below_has Below p.0 x (words_of ps) up.0 m)))
      go false e more = listed_more p ps ∙ (λ i. cond (e i) p.1 0 + more i) ∙ zero-add (c x)
