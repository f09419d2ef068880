-- Counts that agree at each word have the same dumps.
use Rattle.std.proofs.Common.{◌≡◌, ℕ, List, [], ◌∷◌, sym, subst}
use Rattle.std.specs.List.{AllByRecursion}
use Rattle.kmc_count.specs.declared.limits.Limits.{Limits}
use Rattle.kmc_count.specs.Dump.{IsListed, shown, IsDump}

module _ (f g : List ℕ → ℕ) (l : Limits) (same : (x : List ℕ) → f x ≡ g x) where
  each_shown : (pairs : List (List ℕ × ℕ)) → AllByRecursion (λ p. IsListed l (f p.0) × (p.1 ≡ shown l (f p.0))) pairs → AllByRecursion
      (λ p. IsListed l (g p.0) × (p.1 ≡ shown l (g p.0))) pairs
  each_shown [] h = tt
  each_shown (p ∷ pairs) h = (subst (λ (n : ℕ). IsListed l n × (p.1 ≡ shown l n)) (same p.0) h.0, each_shown pairs h.1)

  pub same_dump : (pairs : List (List ℕ × ℕ)) → IsDump f l pairs → IsDump g l pairs
  same_dump pairs d = record {
    rising = d.rising;
    each = each_shown pairs d.each;
    all = λ x listed. d.all x (subst (IsListed l) (sym (same x)) listed);
  }
