-- A number of 16 bytes in two halves.
use Rattle.std.proofs.Common.{◌≡◌, ℕ, ◌+◌, ◌*◌, ◌/◌, ◌%◌, ◌^◌, ◌<◌, List, [], ◌∷◌, ◌++◌, length, take, drop, length-append, refl, sym, ap, ◌∙◌, arith, append-nil}
use Rattle.std.proofs.lemmas.List.{take_at, take-append-drop}
use Rattle.std.proofs.lemmas.Slice.{take-put_mid, drop-put_mid}
use Rattle.std.proofs.Math.ListN.{drop_of_length-le}
use borrow.Rule.Slice.PartMut.{put_mid}
use Rattle.std.specs.Int.{bytes_high_first}
use Rattle.kmc_base.specs.Packed.{unpack}
use Rattle.kmc_base.specs.Record.{packed_codes, codes_in}
use Rattle.kmc_base.specs.Lemmas.Codes.{codes_join}
use Rattle.kmc_base.specs.Lemmas.NumberBytes.{codes_of_bytes, are_bytes}
use Rattle.kmc_base.specs.Lemmas.Packing.{unpack_low, unpack_split}
use Rattle.kmc_base.specs.Lemmas.Spelled.{AreBytes}
use Rattle.kmc_base.specs.Lemmas.Whole.{bytes_append}

-- bytes are the codes in them, packed
packed_whole : (bs : List ℕ) → AreBytes bs → packed_codes (codes_in bs) ≡ bs
packed_whole [] h = refl
packed_whole (b ∷ bs) h =
    let small : b < 256 = h.0 in
    let own : b / 64 % 4 * 64 + b / 16 % 4 * 16 + b / 4 % 4 * 4 + b % 4 ≡ b = omega arith in
    (λ i. own i ∷ packed_whole bs h.1 i)

same_bytes : (xs ys : List ℕ) → AreBytes xs → AreBytes ys → codes_in xs ≡ codes_in ys → xs ≡ ys
same_bytes xs ys h k e = sym (packed_whole xs h) ∙ ap packed_codes e ∙ packed_whole ys k

pub of_halves : (n : ℕ) → bytes_high_first 8 (n / 2 ^ 64) ++ bytes_high_first 8 (n % 2 ^ 64) ≡ bytes_high_first 16 n
of_halves n =
    let high = bytes_high_first 8 (n / 2 ^ 64) in
    let low = bytes_high_first 8 (n % 2 ^ 64) in
    let codes : codes_in (high ++ low) ≡ unpack 64 n =
    codes_join high low ∙ (λ i. codes_of_bytes 8 (n / 2 ^ 64) i ++ (codes_of_bytes 8 (n % 2 ^ 64) ∙ unpack_low 32 n) i) ∙ sym (unpack_split 32 32 n) in
    same_bytes (high ++ low) (bytes_high_first 16 n) (bytes_append high low (are_bytes 8 (n / 2 ^ 64)) (are_bytes 8 (n % 2 ^ 64))) (are_bytes 16 n)
    (codes ∙ sym (codes_of_bytes 16 n))

-- two halves of 8 bytes that were written one after the other
pub halves_joined : (a b z : List ℕ) → length a ≡ 8 → length b ≡ 8 → length z ≡ 8 → put_mid 8 8 (a ++ z) b ≡ a ++ b
halves_joined a b z la lb lz =
    let long : length (a ++ z) ≡ 16 = omega (arith, length-append a z, la, lz) in
    let front : take 16 (put_mid 8 8 (a ++ z) b) ≡ take 8 (a ++ z) ++ b = take-put_mid 8 8 (a ++ z) b 16 (omega (arith, lb)) (omega (arith, long)) in
    let back : drop 16 (put_mid 8 8 (a ++ z) b) ≡ drop 16 (a ++ z) = drop-put_mid 8 8 (a ++ z) b 16 (omega arith) (omega (arith, long)) lb in
    let none : drop 16 (a ++ z) ≡ [] = drop_of_length-le (a ++ z) {i = 16} (omega (arith, long)) in
    sym (take-append-drop 16 (put_mid 8 8 (a ++ z) b)) ∙ (λ i. front i ++ (back ∙ none) i) ∙ append-nil (take 8 (a ++ z) ++ b)
    ∙ ap (λ (t : List ℕ). t ++ b) (take_at a z 8 la)
