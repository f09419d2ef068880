-- The codes from a place on, in a packed word.
use Rattle.std.proofs.Common.{◌≡◌, ℕ, ◌+◌, ◌*◌, ◌-◌, ◌/◌, ◌%◌, ◌^◌, ◌<◌, ◌≤◌, bit_and, List, ◌++◌, take, drop, refl, sym, ap, ◌∙◌, arith, append_assoc}
use Rattle.std.proofs.lemmas.List.{take_at, drop_at}
use Rattle.kmc_base.specs.Lemmas.Powers.{pow_quad, masked, low_fits}
use Rattle.kmc_base.specs.Words.{window}
use Rattle.kmc_base.specs.Packed.{unpack}
use Rattle.kmc_base.specs.Lemmas.Packing.{length_unpack, unpack_low, unpack_split}

pub window_unpack : (n i m j p : ℕ) → i + m + j ≡ n → window m (unpack n p) i ≡ unpack m (p / 4 ^ j)
window_unpack n i m j p e =
    let q = p / 4 ^ j in
    let front = unpack i (q / 4 ^ m) in
    let mid = unpack m q in
    let parts : unpack n p ≡ front ++ (mid ++ unpack j p) =
    ap (λ k. unpack k p) (sym e) ∙ unpack_split (i + m) j p ∙ ap (λ (w : List ℕ). w ++ unpack j p) (unpack_split i m q) ∙ append_assoc front mid (unpack j p) in
    ap (λ (w : List ℕ). take m (drop i w)) parts
    ∙ ap (take m) (drop_at front (mid ++ unpack j p) i (length_unpack i (q / 4 ^ m)))
    ∙ take_at mid (unpack j p) m (length_unpack m q)

-- the mask leaves the m codes
pub masked_codes : (m q ones : ℕ) → ones + 1 ≡ 4 ^ m → bit_and q ones ≡ q % 4 ^ m
masked_codes m q ones e =
    let less : ones ≡ 4 ^ m - 1 = omega arith in
    ap (bit_and q) less ∙ masked q (4 ^ m) m refl

pub masked_fits : (m q ones : ℕ) → ones + 1 ≡ 4 ^ m → bit_and q ones < 4 ^ m
masked_fits m q ones e = rw (masked_codes m q ones e) (low_fits q (4 ^ m) m refl)

pub sub_is : (n i m p ones : ℕ) → i + m ≤ n → ones + 1 ≡ 4 ^ m → unpack m (bit_and (p / 2 ^ (2 * (n - i - m))) ones) ≡ window m (unpack n p) i
sub_is n i m p ones inside e =
    let j = n - i - m in
    let count : i + m + j ≡ n = omega arith in
    ap (unpack m) (masked_codes m (p / 2 ^ (2 * j)) ones e)
    ∙ unpack_low m (p / 2 ^ (2 * j))
    ∙ ap (λ d. unpack m (p / d)) (sym (pow_quad j))
    ∙ sym (window_unpack n i m j p count)
