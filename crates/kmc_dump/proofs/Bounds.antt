-- A range between two bounds as they are read.
use Rattle.std.proofs.Common.{◌≡◌, ℕ, ◌+◌, ◌^◌, ◌<◌, ◌≤◌, List, length, get_or, sym, subst, ◌∙◌, arith}
use Rattle.std.proofs.lemmas.List.{get_or_default}
use Rattle.kmc_lists.specs.Listed.{Listed}
use Rattle.kmc_dump.specs.Ranges.{count_within, range_text, AreRanges}
use Rattle.kmc_dump.specs.declared.ranges.Ranges.{Ranges}

module _ (r : Ranges) (lists : List Listed) (i : ℕ) (inside : i + 1 < length r.bounds.items) (from to : ℕ)
    (low : from ≡ get_or r.bounds.items i from) (high : to ≡ get_or r.bounds.items (i + 1) to) where
  first : from ≡ get_or r.bounds.items i 0
  first = low ∙ get_or_default r.bounds.items i from 0 (omega (arith, inside))

  next : to ≡ get_or r.bounds.items (i + 1) 0
  next = high ∙ get_or_default r.bounds.items (i + 1) to 0 inside

  pub bounds_rise : AreRanges r lists → from ≤ to
  bounds_rise are = let rise = (are.bounds i inside).0 in omega (arith, first, next, rise)

  pub range_few : AreRanges r lists → count_within (2 ^ r.shift) from to lists ≤ r.widest
  range_few are =
      subst (λ (n : ℕ). count_within (2 ^ r.shift) n to lists ≤ r.widest) (sym first)
      (subst (λ (n : ℕ). count_within (2 ^ r.shift) (get_or r.bounds.items i 0) n lists ≤ r.widest) (sym next) (are.bounds i inside).1)

  pub range_read : (line : List ℕ × ℕ → List ℕ) (text : List ℕ) → text ≡ range_text line r.k (2 ^ r.shift) from to lists
      → text ≡ range_text line r.k (2 ^ r.shift) (get_or r.bounds.items i 0) (get_or r.bounds.items (i + 1) 0) lists
  range_read line text is =
      subst (λ (n : ℕ). text ≡ range_text line r.k (2 ^ r.shift) (get_or r.bounds.items i 0) n lists) next
      (subst (λ (n : ℕ). text ≡ range_text line r.k (2 ^ r.shift) n to lists) first is)
