-- Dumps within limits, summed, where each word is in one of them.
use Rattle.std.proofs.Common.{◌≡◌, ℕ, ◌<◌, ◌≤◌, ◌^◌, ◌⊎◌, inl, inr, List, [], ◌∷◌, ◌∙◌, arith}
use Rattle.std.specs.List.{AllByRecursion}
use Rattle.std.proofs.lemmas.Bool.{cases_lt}
use Rattle.kmc_count.specs.declared.limits.Limits.{Limits}
use Rattle.kmc_count.specs.Dump.{IsListed, shown, words_of, IsDump}
use Rattle.kmc_base.specs.Lemmas.Members.{has_contains}
use Rattle.kmc_count.specs.Lemmas.OneDump.{listed_has}
use Rattle.kmc_sum.specs.Sum.{listed_count}
use Rattle.kmc_sum.specs.Laws.{ListsEach}
use Rattle.kmc_sum.specs.Lemmas.Listed.{none_listed, numbered}

module _ (x : List ℕ) where
  numbers : (c : List ℕ → ℕ) (l : Limits) (ps : List (List ℕ × ℕ)) → AllByRecursion (λ p. IsListed l (c p.0) × (p.1 ≡ shown l (c p.0))) ps
      → AllByRecursion (λ p. p.1 ≡ shown l (c p.0)) ps
  numbers c l [] h = tt
  numbers c l (p ∷ ps) h = (h.0.1, numbers c l ps h.1)

  -- what a dump gives a word
  pub listed_as : (c : List ℕ → ℕ) (l : Limits) (ps : List (List ℕ × ℕ)) → IsDump c l ps → IsListed l (c x) → listed_count ps x ≡ shown l (c x)
  listed_as c l ps dump listed = numbered x (λ w. shown l (c w)) ps (numbers c l ps dump.each) dump.rising
      (has_contains x (words_of ps) (dump.all x listed))

  pub unlisted : (c : List ℕ → ℕ) (l : Limits) (ps : List (List ℕ × ℕ)) → IsDump c l ps → (IsListed l (c x) → ⊥) → listed_count ps x ≡ 0
  unlisted c l ps dump never = none_listed x ps (λ m. never (listed_has c l ps x dump.each m))

pub listed_or : (l : Limits) (n : ℕ) → IsListed l n ⊎ (IsListed l n → ⊥)
listed_or l n = go (cases_lt n 1) (cases_lt n l.ci) (cases_lt l.cx n)
  where
    go : (n < 1) ⊎ (1 ≤ n) → (n < l.ci) ⊎ (l.ci ≤ n) → (l.cx < n) ⊎ (n ≤ l.cx) → IsListed l n ⊎ (IsListed l n → ⊥)
    go (inl a) b c = inr (λ h. omega (arith, a, h.0))
    go (inr a) (inl b) c = inr (λ h. omega (arith, b, h.1))
    go (inr a) (inr b) (inl c) = inr (λ h. omega (arith, c, h.2))
    go (inr a) (inr b) (inr c) = inl (a, b, c)

-- what is shown of a count that is listed, else nothing
pub record IsShown (l : Limits) (n v : ℕ) : Type 0 where
  pub yes : IsListed l n → v ≡ shown l n
  pub no : (IsListed l n → ⊥) → v ≡ 0

-- the dump of what is shown, each count listed, is the dump within the limits
pub dump_again : (c v : List ℕ → ℕ) (every l : Limits) (pairs : List (List ℕ × ℕ)) → ListsEach every → 1 ≤ l.cs → l.cs ≤ 2 ^ 63
    → ((x : List ℕ) → IsShown l (c x) (v x)) → IsDump v every pairs → IsDump c l pairs
dump_again c v every l pairs each some most shows dump = record {
  rising = dump.rising;
  each = all_pairs pairs dump.each;
  all = λ x listed.
      let is = (shows x).yes listed in
      dump.all x (omega (arith, is, listed.0, some), omega (arith, is, listed.0, some, each.ci), omega (arith, is, most, each.cx));
}
  where
    pair : (p : List ℕ × ℕ) → IsListed l (c p.0) ⊎ (IsListed l (c p.0) → ⊥) → IsListed every (v p.0) × (p.1 ≡ shown every (v p.0)) → IsListed l
        (c p.0) × (p.1 ≡ shown l (c p.0))
    pair p (inl listed) h =
        let is = (shows p.0).yes listed in
        let same : p.1 ≡ v p.0 = omega (arith, h.1, h.0.2, each.cx, each.cs) in
        (listed, same ∙ is)
    pair p (inr never) h = absurd (omega (arith, (shows p.0).no never, h.0.0))

    all_pairs : (ps : List (List ℕ × ℕ)) → AllByRecursion (λ p. IsListed every (v p.0) × (p.1 ≡ shown every (v p.0))) ps → AllByRecursion
        (λ p. IsListed l (c p.0) × (p.1 ≡ shown l (c p.0))) ps
    all_pairs [] h = tt
    all_pairs (p ∷ ps) h = (pair p (listed_or l (c p.0)) h.0, all_pairs ps h.1)
