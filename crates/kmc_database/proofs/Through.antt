-- A file that is read through, of which the last bytes are kept.
use Rattle.std.proofs.Common.{◌≡◌, ℕ, ◌+◌, ◌-◌, ◌^◌, ◌≤◌, ◌⊎◌, inl, inr, min, List, [], ◌++◌, length, take, drop, Option, refl, sym, ap, subst, ◌∙◌, arith, append_assoc, length-append, length-drop, take-append-drop}
use Rattle.std.proofs.KnownBytes.{Consumes-nil}
use Rattle.std.proofs.lemmas.List.{length-take-le}
use Rattle.std.specs.Io.KnownBytes.{Consumes, IsAtEnd}
use Rattle.kmc_sum.specs.Source.{GoesOn}
use Rattle.kmc_database.specs.Unpacked.{IsTold}
use Rattle.kmc_database.proofs.TakenBytes.{gave_on}

-- a front was let go in so many steps, and the rest is held
pub record IsThrough (start now : Option (List ℕ)) (rest : List ℕ) (gone step : ℕ) : Type 0 where
  pub front : List ℕ
  pub gave : Consumes start now (front ++ rest)
  pub many : gone ≡ min (length front) (2 ^ 64 - 1)
  pub most : step ≤ length front
  pub held : (72 ≤ length rest) ⊎ (front ≡ [])

pub through_start : (a : Option (List ℕ)) (rest : List ℕ) → rest ≡ [] → IsThrough a a rest 0 0
through_start a rest none = record {
  front = [];
  gave = subst (Consumes a a) (sym none) (Consumes-nil a);
  many = omega arith;
  most = omega arith;
  held = inr refl;
}

module _ (a b c : Option (List ℕ)) (rest rest' : List ℕ) (gone step : ℕ) (h : IsThrough a b rest gone step) (goes : GoesOn b c rest rest') where
  longer : length rest ≤ length rest'
  longer = omega (arith, ap length goes.are, length-append rest goes.bytes)

  still : (72 ≤ length rest') ⊎ (h.front ≡ [])
  still = elim (h.held) [ inl many ↦ inl (omega (arith, many, longer)) | inr none ↦ inr none ]

  pub through_next : (more gone' : ℕ) (after : List ℕ) → 1 ≤ more → more + 72 ≡ length rest' → gone' ≡ min (gone + more) (2 ^ 64 - 1)
      → after ≡ drop more rest' → IsThrough a c after gone' (step + 1)
  through_next more gone' after some many sum is =
      let front = h.front ++ take more rest' in
      let long : length front ≡ length h.front + more =
      omega (arith, length-append h.front (take more rest'), length-take-le more rest' (omega (arith, many))) in
      let left : length after ≡ 72 = omega (arith, ap length is, length-drop more rest', many) in
      record {
        front = front;
        gave = subst (Consumes a c)
            (ap (λ (t : List ℕ). h.front ++ t) (sym (take-append-drop more rest'))
            ∙ sym (append_assoc h.front (take more rest') (drop more rest'))
            ∙ ap (λ (t : List ℕ). front ++ t) (sym is))
            (gave_on a b c h.front rest rest' h.gave goes);
        many = omega (arith, sum, h.many, long);
        most = omega (arith, h.most, long, some);
        held = inl (omega (arith, left));
      }

  pub through_end : (size : ℕ) → size ≡ min (gone + length rest') (2 ^ 64 - 1) → IsAtEnd c → IsTold a c rest' size
  through_end size sum end = record {
    front = h.front;
    read = record { gave = gave_on a b c h.front rest rest' h.gave goes; whole = inl end };
    many = omega (arith, sum, h.many, length-append h.front rest');
    held = still;
  }

-- more than are counted
pub through_many : (a b : Option (List ℕ)) (rest : List ℕ) (gone size : ℕ) → IsThrough a b rest gone (2 ^ 64 - 1)
    → size ≡ min (gone + length rest) (2 ^ 64 - 1) → IsTold a b rest size
through_many a b rest gone size h sum = record {
  front = h.front;
  read = record { gave = h.gave; whole = inr (omega (arith, h.most, length-append h.front rest)) };
  many = omega (arith, sum, h.many, length-append h.front rest);
  held = h.held;
}
