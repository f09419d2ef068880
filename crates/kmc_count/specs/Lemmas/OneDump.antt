-- A count has one dump.
use Rattle.std.proofs.Common.{◌≡◌, ℕ, inl, inr, List, [], ◌∷◌, map, refl, sym, ap, subst, ◌∙◌}
use Rattle.std.specs.List.{AllByRecursion}
use Rattle.std.specs.List.Sorted.{IsStrictlySortedBy}
use Rattle.std.specs.declared.cmp.Ordering.TheVariants.{Less}
use Rattle.std.proofs.lemmas.Cmp.{tied_itself}
use Rattle.kmc_base.specs.Words.{kmer_cmp}
use Rattle.kmc_count.specs.declared.limits.Limits.{Limits}
use Rattle.kmc_count.specs.Dump.{IsListed, shown, words_of, IsDump}
use Rattle.kmc_count.specs.Lemmas.Listing.{kmer_total}
use Rattle.kmc_base.specs.Lemmas.Members.{Has, has_contains, RisesBy, same_members}

pub not_below_itself : (x : List ℕ) → kmer_cmp x x ≡ Less → ⊥
not_below_itself x less = let equal = tied_itself kmer_total x in cc (sym less ∙ equal)

abbrev pub Below : List ℕ → List ℕ → Type 0
Below x y = kmer_cmp x y ≡ Less

rises_by : (ws : List (List ℕ)) → IsStrictlySortedBy kmer_cmp ws → RisesBy Below ws
unfolding IsStrictlySortedBy
rises_by [] h = tt
rises_by (w ∷ ws) h = (h.0, rises_by ws h.1)

-- the pairs are fixed by their words
by_words : (count : List ℕ → ℕ) (l : Limits) (pairs : List (List ℕ × ℕ)) → AllByRecursion (λ p. IsListed l (count p.0) × (p.1 ≡ shown l (count p.0))) pairs
    → pairs ≡ map (λ w. (w, shown l (count w))) (words_of pairs)
by_words count l [] h = refl
by_words count l (p ∷ ps) h = λ i. (p.0, h.0.1 i) ∷ by_words count l ps h.1 i

pub listed_has : (count : List ℕ → ℕ) (l : Limits) (pairs : List (List ℕ × ℕ)) (x : List ℕ) → AllByRecursion
    (λ p. IsListed l (count p.0) × (p.1 ≡ shown l (count p.0))) pairs → Has x (words_of pairs)
    → IsListed l (count x)
listed_has count l [] x h m = absurd m
listed_has count l (p ∷ ps) x h (inl e) = subst (λ w. IsListed l (count w)) e h.0.0
listed_has count l (p ∷ ps) x h (inr m) = listed_has count l ps x h.1 m

pub one_dump : (count : List ℕ → ℕ) (l : Limits) (pairs other : List (List ℕ × ℕ)) → IsDump count l pairs → IsDump count l other → pairs ≡ other
one_dump count l pairs other a b =
    let words : words_of pairs ≡ words_of other = same_members Below kmer_total.trans not_below_itself (words_of pairs) (words_of other)
    (rises_by (words_of pairs) a.rising) (rises_by (words_of other) b.rising)
    (λ x m. has_contains x (words_of other) (b.all x (listed_has count l pairs x a.each m)))
    (λ x m. has_contains x (words_of pairs) (a.all x (listed_has count l other x b.each m))) in
    by_words count l pairs a.each ∙ ap (map (λ w. (w, shown l (count w)))) words ∙ sym (by_words count l other b.each)
