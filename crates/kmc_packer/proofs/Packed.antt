-- The pairs of a dump that come of lists.
use Rattle.std.proofs.Common.{◌≡◌, ℕ, List, [], ◌∷◌, arith}
use Rattle.std.specs.List.{AllByRecursion}
use Rattle.kmc_base.specs.Lemmas.Packing.{length_unpack}
use Rattle.kmc_base.specs.Lemmas.Packs.{codes_unpack}
use Rattle.kmc_count.specs.declared.limits.Limits.{Limits}
use Rattle.kmc_count.specs.Dump.{IsDump, IsListed, shown}
use Rattle.kmc_lists.specs.Listed.{spelled}
use Rattle.kmc_sum.specs.Listed.{AreListed, IsPair}

module _ (count : List ℕ → ℕ) (l : Limits) (k : ℕ) where
  each_listed : (ps : List (ℕ × ℕ)) → AllByRecursion (λ p. IsListed l (count p.0) × (p.1 ≡ shown l (count p.0))) (spelled k ps)
      → AllByRecursion (IsPair k) (spelled k ps)
  each_listed [] h = tt
  each_listed (p ∷ ps) h = (
    record {
      word = (length_unpack k p.0, codes_unpack k p.0);
      some = omega (arith, h.0.1, h.0.0.0, l.in_range);
      most = omega (arith, h.0.1, l.in_range);
    },
    each_listed ps h.1,
  )

  -- a dump of packed words lists words and counts
  pub dump_listed : (ps : List (ℕ × ℕ)) → IsDump count l (spelled k ps) → AreListed k (spelled k ps)
  dump_listed ps dump = record { each = each_listed ps dump.each; rising = dump.rising }
