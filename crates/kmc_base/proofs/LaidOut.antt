-- How a record lies in bytes.
use Rattle.std.proofs.Common.{◌≡◌, ℕ, suc, ◌+◌, ◌*◌, ◌-◌, ◌/◌, ◌%◌, ◌^◌, ◌<◌, List, [], ◌∷◌, ◌++◌, length, get_or, refl, ap, ◌∙◌, arith}
use Rattle.std.proofs.lemmas.List.{get_or_append_left, get_or-append_right}
use Rattle.std.proofs.lemmas.List.Elements.{All-from_recursion}
use Rattle.kmc_base.specs.Lemmas.Packs.{AreCodes}
use Rattle.kmc_base.specs.Record.{packed_codes, spelling, IsSpelled, size_of}
use Rattle.kmc_base.specs.SpellingLaws.{bits_at, IsLaidOut}
use Rattle.kmc_base.specs.Lemmas.Codes.{code_is}
use Rattle.kmc_base.specs.Lemmas.Spelled.{AreBytes, codes_packed, length_packed, zeros_to_byte, zero_behind}

packed_bytes : (s : List ℕ) → AreCodes s → AreBytes (packed_codes s)
packed_bytes [] h = tt
packed_bytes (a ∷ []) h = (omega (arith, h.0), tt)
packed_bytes (a ∷ b ∷ []) h = (omega (arith, h.0, h.1.0), tt)
packed_bytes (a ∷ b ∷ c ∷ []) h = (omega (arith, h.0, h.1.0, h.1.1.0), tt)
packed_bytes (a ∷ b ∷ c ∷ d ∷ w) h = (omega (arith, h.0, h.1.0, h.1.1.0, h.1.1.1.0), packed_bytes w h.1.1.1.1)

bits_are : (k i : ℕ) (s : List ℕ) → AreCodes s → i < 4 * size_of (length s) → bits_at (spelling k s) i ≡ get_or (s ++ zeros_to_byte s) i 0
bits_are k i s h inside =
    let next : 1 + i / 4 ≡ suc (i / 4) = omega arith in
    ap (λ n. get_or (spelling k s) n 0 / 2 ^ (6 - 2 * (i % 4)) % 4) next
    ∙ code_is (packed_codes s) i (omega (arith, length_packed s))
    ∙ ap (λ (t : List ℕ). get_or t i 0) (codes_packed s h)

pub laid_out : (k : ℕ) (s : List ℕ) → IsSpelled k s → IsLaidOut k s (spelling k s)
laid_out k s h = record {
  size = omega (arith, length_packed s);
  are_bytes = All-from_recursion (λ (b : ℕ). b < 256) (spelling k s) (omega (arith, h.most), packed_bytes s h.codes);
  above = omega (arith, h.least);
  symbol = λ i inside. bits_are k i s h.codes (omega arith) ∙ get_or_append_left s (zeros_to_byte s) 0 i inside;
  zeros = λ i up inside.
      bits_are k i s h.codes inside ∙ get_or-append_right s (zeros_to_byte s) (length s) i 0 refl up ∙ zero_behind s (i - length s);
}
