-- Codes in bytes, and back.
use Rattle.std.proofs.Common.{◌≡◌, ℕ, zero, suc, ◌+◌, ◌*◌, ◌/◌, ◌%◌, ◌<◌, All, List, [], ◌∷◌, ◌++◌, length, get_or, take, drop, refl, ap, ◌∙◌, arith}
use Rattle.std.proofs.lemmas.List.Elements.{All-head, All-tail}
use Rattle.std.specs.List.{AllByRecursion}
use Rattle.kmc_base.specs.Lemmas.Packs.{AreCodes}
use Rattle.kmc_base.specs.Record.{packed_codes, quarters, codes_in, size_of}

abbrev pub AreBytes : List ℕ → Type 0
AreBytes bs = AllByRecursion (λ b. b < 256) bs

abbrev AreZeros : List ℕ → Type 0
AreZeros w = AllByRecursion (λ c. c ≡ 0) w

pub zeros_each : (w : List ℕ) → All (λ c. c ≡ 0) w → AreZeros w
zeros_each [] h = tt
zeros_each (c ∷ w) h = (All-head (λ (x : ℕ). x ≡ 0) c w h, zeros_each w (All-tail (λ (x : ℕ). x ≡ 0) c w h))

whole_byte : (b : ℕ) → b < 256 → b / 64 % 4 * 64 + b / 16 % 4 * 16 + b / 4 % 4 * 4 + b % 4 ≡ b
whole_byte b h = omega arith

-- bytes whose codes behind the n-th are zero are those n codes, packed
pub packed_back : (n : ℕ) (bs : List ℕ) → AreBytes bs → length bs ≡ size_of n → AreZeros (drop n (codes_in bs)) → packed_codes (take n (codes_in bs)) ≡ bs
packed_back zero [] bytes long rest = refl
packed_back zero (b ∷ bs) bytes long rest = absurd (omega arith)
packed_back (suc n) [] bytes long rest = absurd (omega arith)
packed_back (suc zero) (b ∷ c ∷ bs) bytes long rest = absurd (omega arith)
packed_back (suc (suc zero)) (b ∷ c ∷ bs) bytes long rest = absurd (omega arith)
packed_back (suc (suc (suc zero))) (b ∷ c ∷ bs) bytes long rest = absurd (omega arith)
packed_back (suc zero) (b ∷ []) bytes long rest =
    let h = whole_byte b bytes.0 in
    let e : b / 64 % 4 * 64 ≡ b = omega (arith, h, rest.0, rest.1.0, rest.1.1.0) in
    ap (λ x. x ∷ []) e
packed_back (suc (suc zero)) (b ∷ []) bytes long rest =
    let h = whole_byte b bytes.0 in
    let e : b / 64 % 4 * 64 + b / 16 % 4 * 16 ≡ b = omega (arith, h, rest.0, rest.1.0) in
    ap (λ x. x ∷ []) e
packed_back (suc (suc (suc zero))) (b ∷ []) bytes long rest =
    let h = whole_byte b bytes.0 in
    let e : b / 64 % 4 * 64 + b / 16 % 4 * 16 + b / 4 % 4 * 4 ≡ b = omega (arith, h, rest.0) in
    ap (λ x. x ∷ []) e
packed_back (suc (suc (suc (suc n)))) (b ∷ bs) bytes long rest =
    (λ i. whole_byte b bytes.0 i ∷ packed_back n bs bytes.1 (omega arith) rest i)

-- ---- the codes of packed codes

abbrev pub zeros_to_byte : List ℕ → List ℕ
zeros_to_byte [] = []
zeros_to_byte (a ∷ []) = 0 ∷ 0 ∷ 0 ∷ []
zeros_to_byte (a ∷ b ∷ []) = 0 ∷ 0 ∷ []
zeros_to_byte (a ∷ b ∷ c ∷ []) = 0 ∷ []
zeros_to_byte (a ∷ b ∷ c ∷ d ∷ w) = zeros_to_byte w

four_codes : (a b c d : ℕ) → a < 4 → b < 4 → c < 4 → d < 4 → quarters (a * 64 + b * 16 + c * 4 + d) ≡ a ∷ b ∷ c ∷ d ∷ []
four_codes a b c d ha hb hc hd =
    let n = a * 64 + b * 16 + c * 4 + d in
    let ea : n / 64 % 4 ≡ a = omega arith in
    let eb : n / 16 % 4 ≡ b = omega arith in
    let ec : n / 4 % 4 ≡ c = omega arith in
    let ed : n % 4 ≡ d = omega arith in
    (λ i. ea i ∷ eb i ∷ ec i ∷ ed i ∷ [])

pub bytes_each : (bs : List ℕ) → ((i : ℕ) → get_or bs i 0 < 256) → AreBytes bs
bytes_each [] h = tt
bytes_each (b ∷ bs) h = (h 0, bytes_each bs (λ i. h (suc i)))

pub codes_packed : (s : List ℕ) → AreCodes s → codes_in (packed_codes s) ≡ s ++ zeros_to_byte s
codes_packed [] h = refl
codes_packed (a ∷ []) h =
    let e : a * 64 ≡ a * 64 + 0 * 16 + 0 * 4 + 0 = omega arith in
    ap quarters e ∙ four_codes a 0 0 0 h.0 (omega arith) (omega arith) (omega arith)
codes_packed (a ∷ b ∷ []) h =
    let e : a * 64 + b * 16 ≡ a * 64 + b * 16 + 0 * 4 + 0 = omega arith in
    ap quarters e ∙ four_codes a b 0 0 h.0 h.1.0 (omega arith) (omega arith)
codes_packed (a ∷ b ∷ c ∷ []) h =
    let e : a * 64 + b * 16 + c * 4 ≡ a * 64 + b * 16 + c * 4 + 0 = omega arith in
    ap quarters e ∙ four_codes a b c 0 h.0 h.1.0 h.1.1.0 (omega arith)
codes_packed (a ∷ b ∷ c ∷ d ∷ w) h = (λ i. four_codes a b c d h.0 h.1.0 h.1.1.0 h.1.1.1.0 i ++ codes_packed w h.1.1.1.1 i)

pub length_packed : (s : List ℕ) → length (packed_codes s) ≡ size_of (length s)
length_packed [] = refl
length_packed (a ∷ []) = refl
length_packed (a ∷ b ∷ []) = refl
length_packed (a ∷ b ∷ c ∷ []) = refl
length_packed (a ∷ b ∷ c ∷ d ∷ w) = omega (arith, length_packed w)

pub zero_behind : (s : List ℕ) (j : ℕ) → get_or (zeros_to_byte s) j 0 ≡ 0
zero_behind [] j = refl
zero_behind (a ∷ []) zero = refl
zero_behind (a ∷ []) (suc zero) = refl
zero_behind (a ∷ []) (suc (suc zero)) = refl
zero_behind (a ∷ []) (suc (suc (suc j))) = refl
zero_behind (a ∷ b ∷ []) zero = refl
zero_behind (a ∷ b ∷ []) (suc zero) = refl
zero_behind (a ∷ b ∷ []) (suc (suc j)) = refl
zero_behind (a ∷ b ∷ c ∷ []) zero = refl
zero_behind (a ∷ b ∷ c ∷ []) (suc j) = refl
zero_behind (a ∷ b ∷ c ∷ d ∷ w) j = zero_behind w j
