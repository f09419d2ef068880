-- Codes that are copied out of packed codes, from any place on.
use Rattle.std.proofs.Common.{◌≡◌, ℕ, zero, suc, ◌+◌, ◌-◌, ◌*◌, ◌/◌, ◌%◌, ◌^◌, ◌<◌, ◌≤◌, List, [], ◌∷◌, ◌++◌, length, get_or, take, drop, refl, sym, ap, ◌∙◌, arith, append_assoc, length-append}
use Rattle.std.proofs.lemmas.List.{take-take, drop-drop, drop-take, take_all, take_rest, length-take-le}
use Rattle.std.proofs.Math.Seq.{take-add, take-append-add, drop-cons}
use Rattle.kmc_base.specs.Words.{window}
use Rattle.kmc_base.specs.Lemmas.Windows.{length_window, window_front}
use Rattle.kmc_base.specs.Record.{packed_codes, spelling, codes_in}
use Rattle.kmc_base.specs.Lemmas.Codes.{length_codes, codes_join, take_codes, drop_codes}

-- ---- windows

-- a window in a window
window_within : (n m p q : ℕ) (xs : List ℕ) → q + n ≤ m → window n (window m xs p) q ≡ window n xs (p + q)
window_within n m p q xs h =
    let d = m - q in
    let parts : m ≡ q + d = omega arith in
    ap (λ t. take n (drop q (take t (drop p xs)))) parts ∙ ap (take n) (drop-take q d (drop p xs)) ∙ take-take n d (drop q (drop p xs)) (omega arith)
    ∙ ap (take n) (drop-drop q p xs)

-- codes within sixteen bytes
pub window_in_sixteen : (packed bytes : List ℕ) (start n : ℕ) → n ≤ 61 → bytes ≡ take 16 (take (length packed - start / 4) (drop (start / 4) packed))
    → window n (codes_in bytes) (start % 4) ≡ window n (codes_in packed) start
window_in_sixteen packed bytes start n few is =
    let q = start / 4 in
    let place : 4 * q + start % 4 ≡ start = omega arith in
    let spread : codes_in bytes ≡ window 64 (codes_in packed) (4 * q) =
    ap codes_in (is ∙ ap (take 16) (take_rest packed q)) ∙ take_codes 16 (drop q packed) ∙ ap (take 64) (drop_codes q packed) in
    ap (λ (t : List ℕ). window n t (start % 4)) spread ∙ window_within n 64 (4 * q) (start % 4) (codes_in packed) (omega arith)
    ∙ ap (window n (codes_in packed)) place

-- a record with bytes behind it is cut back
pub record_kept : (old pushed longer bytes new : List ℕ) (count n end : ℕ) → pushed ≡ old ++ count ∷ [] → longer ≡ pushed ++ bytes → end ≡ length old + 1 + n
    → new ≡ take end longer → new ≡ old ++ count ∷ take n bytes
record_kept old pushed longer bytes new count n end first more long is =
    let all : longer ≡ pushed ++ bytes = more in
    let at : end ≡ length pushed + n = omega (arith, long, ap length first, length-append old (count ∷ [])) in
    is ∙ (λ i. take (at i) (all i)) ∙ take-append-add pushed bytes n ∙ ap (λ (t : List ℕ). t ++ take n bytes) first
    ∙ append_assoc old (count ∷ []) (take n bytes)

-- ---- the codes of two bytes

pub pair_is : (l r s : ℕ) → l < 256 → r < 256 → s < 4 → packed_codes (take 4 (drop s (codes_in (l ∷ r ∷ [])))) ≡ ((l * 256 + r) / 2 ^ (8 - 2 * s) % 256) ∷ []
pair_is l r zero hl hr hs = ap (λ b. b ∷ []) (omega arith)
pair_is l r (suc zero) hl hr hs = ap (λ b. b ∷ []) (omega arith)
pair_is l r (suc (suc zero)) hl hr hs = ap (λ b. b ∷ []) (omega arith)
pair_is l r (suc (suc (suc zero))) hl hr hs = ap (λ b. b ∷ []) (omega arith)
pair_is l r (suc (suc (suc (suc s)))) hl hr hs = absurd (omega arith)

front_of : (a b c d n v : ℕ) (more : List ℕ) → a < 4 → b < 4 → c < 4 → d < 4 → 1 ≤ n → n ≤ 4 → a * 64 + b * 16 + c * 4 + d ≡ v
    → packed_codes (take n (a ∷ b ∷ c ∷ d ∷ more)) ≡ (v - v % (1 * 2 ^ (8 - 2 * n) % 256)) ∷ []
front_of a b c d zero v more ha hb hc hd some most is = absurd (omega arith)
front_of a b c d (suc zero) v more ha hb hc hd some most is = ap (λ x. x ∷ []) (omega arith)
front_of a b c d (suc (suc zero)) v more ha hb hc hd some most is = ap (λ x. x ∷ []) (omega arith)
front_of a b c d (suc (suc (suc zero))) v more ha hb hc hd some most is = ap (λ x. x ∷ []) (omega arith)
front_of a b c d (suc (suc (suc (suc zero)))) v more ha hb hc hd some most is = ap (λ x. x ∷ []) (omega arith)
front_of a b c d (suc (suc (suc (suc (suc n))))) v more ha hb hc hd some most is = absurd (omega arith)

-- the first of four codes, with zeros behind them
pub front_is : (l r s n v : ℕ) → s < 4 → 1 ≤ n → n ≤ 4 → packed_codes (take 4 (drop s (codes_in (l ∷ r ∷ [])))) ≡ v ∷ []
    → packed_codes (take n (drop s (codes_in (l ∷ r ∷ [])))) ≡ (v - v % (1 * 2 ^ (8 - 2 * n) % 256)) ∷ []
front_is l r zero n v hs some most is =
    front_of (l / 64 % 4) (l / 16 % 4) (l / 4 % 4) (l % 4) n v _ (omega arith) (omega arith) (omega arith) (omega arith) some most cc
front_is l r (suc zero) n v hs some most is =
    front_of (l / 16 % 4) (l / 4 % 4) (l % 4) (r / 64 % 4) n v _ (omega arith) (omega arith) (omega arith) (omega arith) some most cc
front_is l r (suc (suc zero)) n v hs some most is =
    front_of (l / 4 % 4) (l % 4) (r / 64 % 4) (r / 16 % 4) n v _ (omega arith) (omega arith) (omega arith) (omega arith) some most cc
front_is l r (suc (suc (suc zero))) n v hs some most is =
    front_of (l % 4) (r / 64 % 4) (r / 16 % 4) (r / 4 % 4) n v _ (omega arith) (omega arith) (omega arith) (omega arith) some most cc
front_is l r (suc (suc (suc (suc s)))) n v hs some most is = absurd (omega arith)

padded_read : (bs : List ℕ) (i : ℕ) → get_or (bs ++ 0 ∷ []) i 0 ≡ get_or bs i 0
padded_read [] zero = refl
padded_read [] (suc i) = refl
padded_read (b ∷ bs) zero = refl
padded_read (b ∷ bs) (suc i) = padded_read bs i

two_bytes : (bs : List ℕ) (i s n : ℕ) → i + 1 < length bs → s + n ≤ 8
    → window n (codes_in bs) (4 * i + s) ≡ take n (drop s (codes_in (get_or bs i 0 ∷ get_or bs (i + 1) 0 ∷ [])))
two_bytes bs i s n inside few =
    let pair = get_or bs i 0 ∷ get_or bs (i + 1) 0 ∷ [] in
    let rest = drop (suc (i + 1)) bs in
    let next : suc i ≡ i + 1 = omega arith in
    let front : drop i bs ≡ pair ++ rest =
    drop-cons bs i 0 (omega arith) ∙ ap (λ t. get_or bs i 0 ∷ drop t bs) next ∙ ap (λ (t : List ℕ). get_or bs i 0 ∷ t) (drop-cons bs (i + 1) 0 inside) in
    ap (take n) (sym (drop-drop s (4 * i) (codes_in bs)) ∙ ap (drop s) (sym (drop_codes i bs) ∙ ap codes_in front ∙ codes_join pair rest))
    ∙ window_front n s (codes_in pair) (codes_in rest) few

-- codes from a byte on, and those of the byte behind it
pub codes_of_two : (bs : List ℕ) (i s n : ℕ) → i < length bs → s + n ≤ 8 → 4 * i + s + n ≤ 4 * length bs
    → window n (codes_in bs) (4 * i + s) ≡ take n (drop s (codes_in (get_or bs i 0 ∷ get_or bs (i + 1) 0 ∷ [])))
codes_of_two bs i s n inside few within =
    let padded = bs ++ 0 ∷ [] in
    sym (ap (λ (t : List ℕ). window n t (4 * i + s)) (codes_join bs (0 ∷ []))
    ∙ window_front n (4 * i + s) (codes_in bs) (codes_in (0 ∷ [])) (omega (arith, length_codes bs)))
    ∙ two_bytes padded i s n (omega (arith, length-append bs (0 ∷ []))) few
    ∙ (λ k. take n (drop s (codes_in (padded_read bs i k ∷ padded_read bs (i + 1) k ∷ []))))

-- ---- a record, byte by byte

packed_join : (j : ℕ) (xs ys : List ℕ) → length xs ≡ 4 * j → packed_codes (xs ++ ys) ≡ packed_codes xs ++ packed_codes ys
packed_join zero [] ys h = refl
packed_join zero (a ∷ xs) ys h = absurd (omega arith)
packed_join (suc j) [] ys h = absurd (omega arith)
packed_join (suc j) (a ∷ []) ys h = absurd (omega arith)
packed_join (suc j) (a ∷ b ∷ []) ys h = absurd (omega arith)
packed_join (suc j) (a ∷ b ∷ c ∷ []) ys h = absurd (omega arith)
packed_join (suc j) (a ∷ b ∷ c ∷ d ∷ xs) ys h = ap (λ (t : List ℕ). (a * 64 + b * 16 + c * 4 + d) ∷ t) (packed_join j xs ys (omega arith))

module _ (cs : List ℕ) (start symbols q r : ℕ) (place : start ≡ 4 * q + r) (within : start + symbols ≤ length cs) (old : List ℕ) (count : ℕ) where
  -- the codes of the record
  abbrev w : List ℕ
  w = window symbols cs start

  long : length w ≡ symbols
  long = length_window symbols start cs within

  -- one byte more
  pub copied_more : (before new : List ℕ) (j n m v : ℕ) → m ≡ 4 * j + n → m ≤ symbols → packed_codes (window n cs (4 * (q + j) + r)) ≡ v ∷ []
      → before ≡ old ++ count ∷ packed_codes (take (4 * j) w) → new ≡ before ++ v ∷ [] → new ≡ old ++ count ∷ packed_codes (take m w)
  copied_more before new j n m v is inside byte h more =
      let front = take (4 * j) w in
      let at : start + 4 * j ≡ 4 * (q + j) + r = omega arith in
      let piece : packed_codes (window n w (4 * j)) ≡ v ∷ [] =
      ap packed_codes (window_within n symbols start (4 * j) cs (omega arith) ∙ ap (window n cs) at) ∙ byte in
      let all : packed_codes (take m w) ≡ packed_codes front ++ v ∷ [] =
      ap (λ t. packed_codes (take t w)) is ∙ ap packed_codes (take-add (4 * j) n w)
      ∙ packed_join j front (window n w (4 * j)) (length-take-le (4 * j) w (omega (arith, long))) ∙ ap (λ (t : List ℕ). packed_codes front ++ t) piece in
      more ∙ ap (λ (t : List ℕ). t ++ v ∷ []) h ∙ append_assoc old (count ∷ packed_codes front) (v ∷ []) ∙ ap (λ (t : List ℕ). old ++ count ∷ t) (sym all)

  pub copied_all : (k : ℕ) (new : List ℕ) → count ≡ symbols - k → new ≡ old ++ count ∷ packed_codes (take symbols w) → new ≡ old ++ spelling k w
  copied_all k new is h =
      let above : count ≡ length w - k = omega (arith, long) in
      h ∙ (λ i. old ++ above i ∷ packed_codes (take_all symbols w (omega (arith, long)) i))
