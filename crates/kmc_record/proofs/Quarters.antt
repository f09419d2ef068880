-- Four codes are put in a row, those of one byte.
use Rattle.std.proofs.Common.{◌≡◌, ℕ, ◌+◌, ◌*◌, ◌/◌, ◌%◌, ◌<◌, List, [], ◌∷◌, ◌++◌, length, get_or, set, take, sym, ap, ◌∙◌, arith, length-set}
use Rattle.std.proofs.lemmas.List.{take_more, take_more_set}
use Rattle.kmc_base.specs.Record.{codes_in}
use Rattle.kmc_base.specs.Lemmas.Codes.{length_codes, byte_codes}

one_more : (out want : List ℕ) (i m v : ℕ) → m ≡ i + 1 → i < length out → i < length want → v ≡ get_or want i 0 → take i out ≡ take i want
    → take m (set out i v) ≡ take m want
one_more out want i m v e a b is front =
    ap (λ n. take n (set out i v)) e ∙ take_more_set out i v a ∙ (λ k. front k ++ is k ∷ []) ∙ sym (take_more want i 0 b) ∙ ap (λ n. take n want) (sym e)

pub four_more : (out bs : List ℕ) (j a b c d : ℕ) → j < length bs → length out ≡ 4 * length bs → a ≡ get_or bs j 0 / 64 % 4 → b ≡ get_or bs j 0 / 16 % 4
    → c ≡ get_or bs j 0 / 4 % 4 → d ≡ get_or bs j 0 % 4 → take (4 * j) out ≡ take (4 * j) (codes_in bs)
    → take (4 * (j + 1)) (set (set (set (set out (4 * j) a) (4 * j + 1) b) (4 * j + 2) c) (4 * j + 3) d) ≡ take (4 * (j + 1)) (codes_in bs)
four_more out bs j a b c d inside long pa pb pc pd front =
    let want = codes_in bs in
    let total = length_codes bs in
    let codes = byte_codes bs j inside in
    let one = set out (4 * j) a in
    let two = set one (4 * j + 1) b in
    let three = set two (4 * j + 2) c in
    let long_one : length one ≡ length out = length-set out (4 * j) a in
    let long_two : length two ≡ length one = length-set one (4 * j + 1) b in
    let long_three : length three ≡ length two = length-set two (4 * j + 2) c in
    one_more three want (4 * j + 3) (4 * (j + 1)) d (omega arith) (omega (arith, long_one, long_two, long_three)) (omega (arith, total)) (pd ∙ codes.3)
    (one_more two want (4 * j + 2) (4 * j + 3) c (omega arith) (omega (arith, long_one, long_two)) (omega (arith, total)) (pc ∙ codes.2)
    (one_more one want (4 * j + 1) (4 * j + 2) b (omega arith) (omega (arith, long_one)) (omega (arith, total)) (pb ∙ codes.1)
    (one_more out want (4 * j) (4 * j + 1) a (omega arith) (omega arith) (omega (arith, total)) (pa ∙ codes.0) front)))
