-- Records, byte by byte.
use Rattle.std.proofs.Common.{◌≡◌, ℕ, zero, suc, ◌+◌, ◌*◌, ◌<◌, List, [], ◌∷◌, ◌++◌, length, get_or, take, drop, refl, sym, ap, ◌∙◌, arith, append_assoc, ◌/◌, ◌%◌}
use Rattle.std.proofs.lemmas.List.{get_or-drop, take_more, take_all}
use Rattle.kmc_base.specs.Lemmas.Packs.{AreCodes}
use Rattle.kmc_base.specs.Record.{packed_codes, size_of}
use Rattle.kmc_base.specs.Lemmas.Spelled.{length_packed}

pub code_small : (w : List ℕ) (i : ℕ) → AreCodes w → get_or w i 0 < 4
code_small [] i h = omega arith
code_small (c ∷ w) zero h = h.0
code_small (c ∷ w) (suc i) h = code_small w i h.1

head_byte : (w : List ℕ) → 0 < length w → get_or (packed_codes w) 0 0 ≡ get_or w 0 0 * 64 + get_or w 1 0 * 16 + get_or w 2 0 * 4 + get_or w 3 0
head_byte [] h = absurd (omega arith)
head_byte (a ∷ []) h = omega arith
head_byte (a ∷ b ∷ []) h = omega arith
head_byte (a ∷ b ∷ c ∷ []) h = omega arith
head_byte (a ∷ b ∷ c ∷ d ∷ w) h = refl

length_dropped : (i : ℕ) (w : List ℕ) → i < length w → 0 < length (drop i w)
length_dropped zero w h = h
length_dropped (suc i) [] h = absurd (omega arith)
length_dropped (suc i) (c ∷ w) h = length_dropped i w (omega arith)

pub byte_is : (w : List ℕ) (i a b c d : ℕ) → i < length w → a ≡ get_or w i 0 → b ≡ get_or w (i + 1) 0 → c ≡ get_or w (i + 2) 0 → d ≡ get_or w (i + 3) 0
    → a * 64 + b * 16 + c * 4 + d ≡ get_or (packed_codes (drop i w)) 0 0
byte_is w i a b c d h ea eb ec ed =
    let none : i + 0 ≡ i = omega arith in
    omega (
      arith,
      head_byte (drop i w) (length_dropped i w h),
      ea,
      eb,
      ec,
      ed,
      get_or-drop i w 0 0 ∙ ap (λ n. get_or w n 0) none,
      get_or-drop i w 1 0,
      get_or-drop i w 2 0,
      get_or-drop i w 3 0,
    )

pub byte_place : (w : List ℕ) (j : ℕ) → 4 * j < length w → get_or (packed_codes w) j 0 ≡ get_or (packed_codes (drop (4 * j) w)) 0 0
byte_place w zero h = refl
byte_place [] (suc j) h = absurd (omega arith)
byte_place (a ∷ []) (suc j) h = absurd (omega arith)
byte_place (a ∷ b ∷ []) (suc j) h = absurd (omega arith)
byte_place (a ∷ b ∷ c ∷ []) (suc j) h = absurd (omega arith)
byte_place (a ∷ b ∷ c ∷ d ∷ w) (suc j) h =
    let e : 4 * suc j ≡ suc (suc (suc (suc (4 * j)))) = omega arith in
    rw e (byte_place w j (omega arith))

pub pushed_more : (w old before new : List ℕ) (j v : ℕ) → 4 * j < length w → v ≡ get_or (packed_codes (drop (4 * j) w)) 0 0
    → before ≡ old ++ take j (packed_codes w) → new ≡ before ++ v ∷ [] → new ≡ old ++ take (j + 1) (packed_codes w)
pushed_more w old before new j v inside is h more =
    let place : get_or (packed_codes w) j 0 ≡ v = byte_place w j inside ∙ sym is in
    let front = take j (packed_codes w) in
    more ∙ (λ i. h i ++ sym place i ∷ []) ∙ append_assoc old front (get_or (packed_codes w) j 0 ∷ [])
    ∙ ap (λ (t : List ℕ). old ++ t) (sym (take_more (packed_codes w) j 0 (omega (arith, length_packed w))))

pub pushed_all : (n : ℕ) (w old new : List ℕ) → n ≡ size_of (length w) → new ≡ old ++ take n (packed_codes w) → new ≡ old ++ packed_codes w
pushed_all n w old new e h = h ∙ ap (λ (t : List ℕ). old ++ t) (take_all n (packed_codes w) (omega (arith, length_packed w)))

-- four codes gathered by one product
pub gathered : (a b c d : ℕ) → a < 4 → b < 4 → c < 4 → d < 4
    → (a + b * 256 + c * 65536 + d * 16777216) * 1074791425 / 16777216 % 256 ≡ a * 64 + b * 16 + c * 4 + d
gathered a b c d ha hb hc hd = omega arith
