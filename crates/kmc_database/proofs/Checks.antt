-- Markers and entries, taken and compared.
use Rattle.std.proofs.Common.{◌≡◌, ℕ, ◌^◌, ◌<◌, inl, inr, List, [], ◌++◌, length, Option, sym, ap, subst, ◌∙◌, arith}
use Rattle.std.proofs.lemmas.List.{length-take}
use Rattle.std.specs.Io.KnownBytes.{Consumes, IsAtEnd}
use Rattle.std.specs.Prelude.{◌≢◌}
use Rattle.kmc_sum.specs.Source.{GoesOn}
use Rattle.kmc_database.specs.Numbers.{low_first}
use Rattle.kmc_database.specs.UnpackCauses.{BeginsOtherwise}
use Rattle.kmc_database.specs.Lemmas.Bytes.{length_low, low_same}

-- a reader that gave nothing before
pub gave_first : (a b : Option (List ℕ)) (xs bytes : List ℕ) → xs ≡ [] → GoesOn a b xs bytes → Consumes a b bytes
gave_first a b xs bytes none goes = subst (Consumes a b) (sym (goes.are ∙ ap (λ (l : List ℕ). l ++ goes.bytes) none)) goes.gave

pub begins_so : (a b : Option (List ℕ)) (xs after : List ℕ) (found marker : ℕ) → xs ≡ [] → found ≡ marker → GoesOn a b xs (low_first 4 found ++ after)
    → GoesOn a b [] (low_first 4 marker ++ after)
begins_so a b xs after found marker none same goes =
    let there = subst (λ (l : List ℕ). GoesOn a b l (low_first 4 found ++ after)) none goes in
    subst (λ (n : ℕ). GoesOn a b [] (low_first 4 n ++ after)) same there

pub begins_other : (a b : Option (List ℕ)) (xs after : List ℕ) (found marker : ℕ) → xs ≡ [] → found < 256 ^ 4 → marker < 256 ^ 4 → (found ≡ marker → ⊥)
    → GoesOn a b xs (low_first 4 found ++ after) → BeginsOtherwise (low_first 4 marker) a b
begins_other a b xs after found marker none small small' differ goes = record {
  bytes = low_first 4 found ++ after;
  gave = gave_first a b xs (low_first 4 found ++ after) none goes;
  other = λ e. differ (low_same 4 found marker small small' e);
  enough = inl (omega arith);
}

pub begins_short : (a b : Option (List ℕ)) (xs rest : List ℕ) (marker : ℕ) → xs ≡ [] → GoesOn a b xs rest → length rest < 4 → IsAtEnd b
    → BeginsOtherwise (low_first 4 marker) a b
begins_short a b xs rest marker none goes short end = record {
  bytes = rest;
  gave = gave_first a b xs rest none goes;
  other = λ e. absurd (omega (arith, length-take 4 rest, ap length e, length_low 4 marker, short));
  enough = inr end;
}

-- all that is left is four bytes, which are a number
module _ (rest : List ℕ) (n marker : ℕ) (is : rest ≡ low_first 4 n) (small : n < 256 ^ 4) (small' : marker < 256 ^ 4) where
  pub ends_so : n ≡ marker → rest ≡ low_first 4 marker
  ends_so same = is ∙ ap (low_first 4) same

  pub ends_other : (n ≡ marker → ⊥) → rest ≢ low_first 4 marker
  ends_other differ = λ e. differ (low_same 4 n marker small small' (sym is ∙ e))

pub other_size : (rest : List ℕ) (marker : ℕ) → length rest ≢ 4 → rest ≢ low_first 4 marker
other_size rest marker differ = λ e. differ (ap length e ∙ length_low 4 marker)
