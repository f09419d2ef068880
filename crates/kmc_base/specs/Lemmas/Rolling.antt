-- The window of k codes that rolls over a list of codes, from k zeros in front of them on.
use Rattle.std.proofs.Common.{◌≡◌, ℕ, zero, suc, ◌+◌, ◌*◌, ◌-◌, ◌/◌, ◌%◌, ◌^◌, ◌<◌, ◌≤◌, min, List, [], ◌∷◌, ◌++◌, length, map, get_or, take, drop, replicate, refl, sym, ap, ◌∙◌, arith, append_assoc, add-one, length-append, length-drop}
use Rattle.std.proofs.lemmas.List.{drop_more, take_more, take_at, drop_at, drop-drop, get_or-drop, get_or-append-add, length-replicate, length-take-le, map_push}
use Rattle.std.proofs.lemmas.List.FromFn.{map-range_with_len_more}
use Rattle.std.proofs.lemmas.Nat.{mod-mul-add, mod_below}
use Rattle.std.proofs.Math.Arith.{mod-mul}
use Rattle.std.proofs.Math.Nat.{pow-succ'}
use Rattle.kmc_base.specs.Lemmas.Powers.{pow_some}
use Rattle.std.specs.List.{range_with_len}
use Rattle.kmc_base.specs.Words.{rev_comp, canonical, window}
use Rattle.kmc_base.specs.declared.strands.Strands.{Strands}
use Rattle.kmc_base.specs.declared.strands.Strands.TheVariants.{Joined, Apart}
use Rattle.kmc_base.specs.Strands.{key, packed_key}
use Rattle.kmc_base.specs.Packed.{pack}
use Rattle.kmc_base.specs.Bytes.{ahead_byte, behind_byte, turned}
use Rattle.kmc_base.specs.Lemmas.Packing.{pack_after_append}
use Rattle.kmc_base.specs.Lemmas.Packs.{AreCodes, codes_append, codes_rev_comp, length_rev_comp, rev_comp_cons, pack_fits, forward_step, back_step, pack_canonical}

-- one code more in a packed window, and in its packed reverse complement
abbrev pub ahead : ℕ → ℕ → ℕ → ℕ
ahead top forward c = forward % top * 4 + c

abbrev pub behind : ℕ → ℕ → ℕ → ℕ
behind top back c = back / 4 + (3 - c) * top

-- the four codes of a byte more, the highest bits first
abbrev pub ahead_quarters : ℕ → ℕ → ℕ → ℕ
ahead_quarters top forward b = ahead top (ahead top (ahead top (ahead top forward (b / 64 % 4)) (b / 16 % 4)) (b / 4 % 4)) (b % 4)

abbrev pub behind_quarters : ℕ → ℕ → ℕ → ℕ
behind_quarters top back b = behind top (behind top (behind top (behind top back (b / 64 % 4)) (b / 16 % 4)) (b / 4 % 4)) (b % 4)

-- where k zeros stand in front of the codes, the window that ends before place i
abbrev pub trail : ℕ → List ℕ → ℕ → List ℕ
trail k s i = take k (drop i (replicate k 0 ++ s))

pub record IsRolling (k : ℕ) (s : List ℕ) (i forward back : ℕ) : Type 0 where
  pub ahead : forward ≡ pack (trail k s i)
  pub behind : back ≡ pack (rev_comp (trail k s i))

-- ---- codes

codes_zeros : (k : ℕ) → AreCodes (replicate k 0)
codes_zeros zero = tt
codes_zeros (suc k) = (omega arith, codes_zeros k)

pub codes_front : (n : ℕ) (xs : List ℕ) → AreCodes xs → AreCodes (take n xs)
codes_front zero xs h = tt
codes_front (suc n) [] h = tt
codes_front (suc n) (x ∷ xs) h = (h.0, codes_front n xs h.1)

pub codes_drop : (n : ℕ) (xs : List ℕ) → AreCodes xs → AreCodes (drop n xs)
codes_drop zero xs h = h
codes_drop (suc n) [] h = tt
codes_drop (suc n) (x ∷ xs) h = codes_drop n xs h.1

pub codes_part : (n m : ℕ) (xs : List ℕ) → AreCodes xs → AreCodes (take n (drop m xs))
codes_part n m xs h = codes_front n (drop m xs) (codes_drop m xs h)

codes_trail : (k : ℕ) (s : List ℕ) (i : ℕ) → AreCodes s → AreCodes (trail k s i)
codes_trail k s i h = codes_part k i (replicate k 0 ++ s) (codes_append (replicate k 0) s (codes_zeros k) h)

-- ---- where the trail stands

-- the codes that stay
abbrev stay : ℕ → List ℕ → ℕ → List ℕ
stay k s i = take k (drop (i + 1) (replicate (suc k) 0 ++ s))

length_z : (k : ℕ) (s : List ℕ) → length (replicate (suc k) 0 ++ s) ≡ suc k + length s
length_z k s = length-append (replicate (suc k) 0) s ∙ ap (λ n. n + length s) (length-replicate (suc k) 0)

old_window : (k : ℕ) (s : List ℕ) (i : ℕ) → i < length s → trail (suc k) s i ≡ get_or (replicate (suc k) 0 ++ s) i 0 ∷ stay k s i
old_window k s i inside =
    let z = replicate (suc k) 0 ++ s in
    let here : i < length z = omega (arith, length_z k s) in
    ap (λ (t : List ℕ). take (suc k) t) (drop_more z i 0 here)

new_window : (k : ℕ) (s : List ℕ) (i : ℕ) → i < length s → trail (suc k) s (i + 1) ≡ stay k s i ++ get_or s i 0 ∷ []
new_window k s i inside =
    let z = replicate (suc k) 0 ++ s in
    let rest = drop (i + 1) z in
    let here : k < length rest = omega (arith, length_z k s, length-drop (i + 1) z) in
    let place : (i + 1) + k ≡ length (replicate (suc k) 0) + i = omega (arith, length-replicate {A = ℕ} (suc k) 0) in
    let last : get_or rest k 0 ≡ get_or s i 0 =
    get_or-drop (i + 1) z k 0 ∙ ap (λ j. get_or z j 0) place ∙ get_or-append-add (replicate (suc k) 0) s i 0 in
    ap (λ n. take n rest) (sym (add-one k)) ∙ take_more rest k 0 here ∙ ap (λ c. stay k s i ++ c ∷ []) last

length_stay : (k : ℕ) (s : List ℕ) (i : ℕ) → i < length s → length (stay k s i) ≡ k
length_stay k s i inside =
    let z = replicate (suc k) 0 ++ s in
    length-take-le k (drop (i + 1) z) (omega (arith, length_z k s, length-drop (i + 1) z))

codes_stay : (k : ℕ) (s : List ℕ) (i : ℕ) → AreCodes s → AreCodes (stay k s i)
codes_stay k s i h = codes_part k (i + 1) (replicate (suc k) 0 ++ s) (codes_append (replicate (suc k) 0) s (codes_zeros (suc k)) h)

-- ---- the trail rolls

zeros_pack : (k : ℕ) → pack (replicate k 0) ≡ 0
zeros_pack zero = refl
zeros_pack (suc k) = zeros_pack k

threes_pack : (k : ℕ) → pack (rev_comp (replicate k 0)) + 1 ≡ 4 ^ k
threes_pack zero = refl
threes_pack (suc k) =
    let e = ap pack (rev_comp_cons 0 (replicate k 0)) ∙ pack_after_append 0 (rev_comp (replicate k 0)) 3 in
    omega (arith, e, threes_pack k, pow-succ' 4 k)

pub roll_start : (k : ℕ) (s : List ℕ) (forward back : ℕ) → forward ≡ 0 → back + 1 ≡ 4 ^ k → IsRolling k s 0 forward back
roll_start k s forward back f b =
    let zeros : trail k s 0 ≡ replicate k 0 = take_at (replicate k 0) s k (length-replicate k 0) in
    record {
      ahead = f ∙ sym (ap pack zeros ∙ zeros_pack k);
      behind = omega (arith, b, threes_pack k, ap (λ w. pack (rev_comp w)) zeros);
    }

pub back_fits : (k : ℕ) (s : List ℕ) (i forward back : ℕ) → AreCodes s → i < length s → IsRolling (suc k) s i forward back → back / 4 < 4 ^ k
back_fits k s i forward back h inside rolling =
    let w = trail (suc k) s i in
    let count : length w ≡ suc k = ap length (old_window k s i inside) ∙ ap suc (length_stay k s i inside) in
    let fits : pack (rev_comp w) < 4 ^ length w = rw (length_rev_comp w) at (pack_fits (rev_comp w) (codes_rev_comp w)) in
    let fits2 : pack (rev_comp w) < 4 ^ suc k = rw count at fits in
    omega (arith, rolling.behind, fits2, pow-succ' 4 k)

pub roll_step : (k : ℕ) (s : List ℕ) (i c forward back : ℕ) → AreCodes s → i < length s → c ≡ get_or s i 0 → IsRolling (suc k) s i forward back
    → IsRolling (suc k) s (i + 1) (forward % 4 ^ k * 4 + c) (back / 4 + (3 - c) * 4 ^ k)
roll_step k s i c forward back h inside is rolling =
    let x = get_or (replicate (suc k) 0 ++ s) i 0 in
    let t = stay k s i in
    let count = length_stay k s i inside in
    let new : trail (suc k) s (i + 1) ≡ t ++ c ∷ [] = new_window k s i inside ∙ ap (λ d. t ++ d ∷ []) (sym is) in
    let old = old_window k s i inside in
    let f = rw count at (forward_step x c t (codes_stay k s i h)) in
    let b = rw count at (back_step x c t) in
    record {
      ahead = ap (λ n. n % 4 ^ k * 4 + c) (rolling.ahead ∙ ap pack old) ∙ sym f ∙ ap pack (sym new);
      behind = ap (λ n. n / 4 + (3 - c) * 4 ^ k) (rolling.behind ∙ ap (λ w. pack (rev_comp w)) old) ∙ sym b ∙ ap (λ w. pack (rev_comp w)) (sym new);
    }

-- the trail behind the zeros
at_word : (k : ℕ) (s : List ℕ) (i : ℕ) → k ≤ i → trail k s i ≡ take k (drop (i - k) s)
at_word k s i h =
    let z = replicate k 0 ++ s in
    let parts : i ≡ k + (i - k) = omega arith in
    ap (take k) (ap (λ n. drop n z) parts ∙ sym (drop-drop (i - k) k z) ∙ ap (drop (i - k)) (drop_at (replicate k 0) s k (length-replicate k 0)))

pub roll_key : (strands : Strands) (k : ℕ) (s : List ℕ) (i forward back : ℕ) → AreCodes s → k ≤ i → IsRolling k s i forward back
    → packed_key strands forward back ≡ pack (key strands (window k s (i - k)))
roll_key Joined k s i forward back h behind rolling =
    (λ j. min (rolling.ahead j) (rolling.behind j)) ∙ sym (pack_canonical (trail k s i) (codes_trail k s i h)) ∙ ap (λ w. pack (canonical w))
    (at_word k s i behind)
roll_key Apart k s i forward back h behind rolling = rolling.ahead ∙ ap pack (at_word k s i behind)

-- ---- the keys so far

abbrev pub keys_upto : Strands → ℕ → List ℕ → ℕ → List ℕ
keys_upto strands k s n = map pack (map (λ i. key strands (window k s i)) (range_with_len 0 n))

pub one_more : (strands : Strands) (k : ℕ) (s : List ℕ) (n m v : ℕ) (old new whole : List ℕ) → new ≡ old ++ v ∷ [] → v ≡ pack
    (key strands (window k s n)) → m ≡ n + 1
    → old ≡ whole ++ keys_upto strands k s n → new ≡ whole ++ keys_upto strands k s m
one_more strands k s n m v old new whole pushed is count before =
    let f : ℕ → List ℕ = λ i. key strands (window k s i) in
    let more : keys_upto strands k s (n + 1) ≡ keys_upto strands k s n ++ v ∷ [] =
    ap (map pack) (map-range_with_len_more f 0 n n (omega arith)) ∙ map_push pack (map f (range_with_len 0 n)) (f n) ∙ ap
    (λ u. keys_upto strands k s n ++ u ∷ []) (sym is) in
    pushed ∙ ap (λ (t : List ℕ). t ++ v ∷ []) before ∙ append_assoc whole (keys_upto strands k s n) (v ∷ []) ∙ ap (λ (t : List ℕ). whole ++ t)
    (sym more ∙ ap (keys_upto strands k s) (sym count))

-- ---- the same at any k but 0

pub step_at : (k : ℕ) → 1 ≤ k → (s : List ℕ) (i c f b g d top : ℕ) → AreCodes s → i < length s → c ≡ get_or s i 0 → top ≡ 4 ^ (k - 1)
    → g ≡ f % top * 4 + c → d ≡ b / 4 + (3 - c) * top → IsRolling k s i f b → IsRolling k s (i + 1) g d
step_at zero some s i c f b g d top h inside is t e u rolling = absurd (omega arith)
step_at (suc k) some s i c f b g d top h inside is t e u rolling =
    let less : suc k - 1 ≡ k = omega arith in
    let p : top ≡ 4 ^ k = t ∙ ap (λ n. 4 ^ n) less in
    let r = roll_step k s i c f b h inside is rolling in
    record { ahead = e ∙ ap (λ n. f % n * 4 + c) p ∙ r.ahead; behind = u ∙ ap (λ n. b / 4 + (3 - c) * n) p ∙ r.behind }

pub fits_at : (k : ℕ) → 1 ≤ k → (s : List ℕ) (i f b top : ℕ) → AreCodes s → i < length s → top ≡ 4 ^ (k - 1) → IsRolling k s i f b → b / 4 < top
fits_at zero some s i f b top h inside t rolling = absurd (omega arith)
fits_at (suc k) some s i f b top h inside t rolling =
    let less : suc k - 1 ≡ k = omega arith in
    let p : top ≡ 4 ^ k = t ∙ ap (λ n. 4 ^ n) less in
    rw p (back_fits k s i f b h inside rolling)

pub all_ones : (k top : ℕ) → 1 ≤ k → top ≡ 4 ^ (k - 1) → (4 * (top - 1) + 3) + 1 ≡ 4 ^ k
all_ones zero top some t = absurd (omega arith)
all_ones (suc k) top some t =
    let less : suc k - 1 ≡ k = omega arith in
    let p : top ≡ 4 ^ k = t ∙ ap (λ n. 4 ^ n) less in
    omega (arith, p, pow_some k, pow-succ' 4 k)

-- four codes more
pub byte_step : (k : ℕ) → 1 ≤ k → (s : List ℕ) (i a b c d f g top x y : ℕ) → AreCodes s → i + 3 < length s
    → a ≡ get_or s i 0 → b ≡ get_or s (i + 1) 0 → c ≡ get_or s (i + 2) 0 → d ≡ get_or s (i + 3) 0 → top ≡ 4 ^ (k - 1)
    → x ≡ ahead top (ahead top (ahead top (ahead top f a) b) c) d → y ≡ behind top (behind top (behind top (behind top g a) b) c) d
    → IsRolling k s i f g → IsRolling k s (i + 4) x y
byte_step k some s i a b c d f g top x y h inside ea eb ec ed t ex ey rolling =
    let one : (i + 1) + 1 ≡ i + 2 = omega arith in
    let two : (i + 2) + 1 ≡ i + 3 = omega arith in
    let three : (i + 3) + 1 ≡ i + 4 = omega arith in
    let r1 = step_at k some s i a f g (ahead top f a) (behind top g a) top h (omega arith) ea t refl refl rolling in
    let r2 = step_at k some s (i + 1) b _ _ (ahead top (ahead top f a) b) (behind top (behind top g a) b) top h (omega arith) eb t refl refl r1 in
    let r3 = step_at k some s (i + 2) c _ _ (ahead top (ahead top (ahead top f a) b) c) (behind top (behind top (behind top g a) b) c) top h
    (omega arith) ec t refl refl (rw one at r2) in
    rw three at (step_at k some s (i + 3) d _ _ x y top h (omega arith) ed t ex ey (rw two at r3))

-- ---- four codes at once are four times one

low_twice : (m r x : ℕ) → 1 ≤ m → 1 ≤ r → x % (r * m) % m ≡ x % m
low_twice m r x some more =
    let here : zero < m = omega arith in
    let there : zero < r = omega arith in
    ap (λ n. n % m) (mod-mul x there here) ∙ mod-mul-add (x / m % r) m (x % m) (mod_below x m here)

-- where the window has at least m codes, m codes of the next one
low_ahead : (m r x a : ℕ) → 1 ≤ m → 1 ≤ r → a < 4 → (x % (r * m) * 4 + a) % (m * 4) ≡ x % m * 4 + a
low_ahead m r x a some more small =
    let here : zero < m = omega arith in
    let four : zero < 4 = omega arith in
    let y = x % (r * m) in
    let high : (y * 4 + a) / 4 ≡ y = omega arith in
    let low : (y * 4 + a) % 4 ≡ a = omega arith in
    mod-mul (y * 4 + a) here four ∙ (λ i. high i % m * 4 + low i) ∙ ap (λ n. n * 4 + a) (low_twice m r x some more)

pub ahead_four : (top q f a b c d : ℕ) → 1 ≤ q → top ≡ q * 64 → a < 4 → b < 4 → c < 4 → d < 4
    → ahead top (ahead top (ahead top (ahead top f a) b) c) d ≡ f % q * 256 + (a * 64 + b * 16 + c * 4 + d)
ahead_four top q f a b c d some e ha hb hc hd =
    let t1 : top ≡ 64 * q = omega arith in
    let t2 : top ≡ 16 * (q * 4) = omega arith in
    let t3 : top ≡ 4 * (q * 16) = omega arith in
    let t4 : top ≡ q * 16 * 4 = omega arith in
    let s1 = ahead top f a in
    let s2 = ahead top s1 b in
    let s3 = ahead top s2 c in
    let e1 : s1 % (q * 4) ≡ f % q * 4 + a = ap (λ t. (f % t * 4 + a) % (q * 4)) t1 ∙ low_ahead q 64 f a some (omega arith) ha in
    let u2 : q * 16 ≡ q * 4 * 4 = omega arith in
    let e2 : s2 % (q * 16) ≡ s1 % (q * 4) * 4 + b = (λ i. (s1 % t2 i * 4 + b) % u2 i) ∙ low_ahead (q * 4) 16 s1 b (omega arith) (omega arith) hb in
    let e3 : s3 % top ≡ s2 % (q * 16) * 4 + c = (λ i. (s2 % t3 i * 4 + c) % t4 i) ∙ low_ahead (q * 16) 4 s2 c (omega arith) (omega arith) hc in
    omega (arith, e1, e2, e3)

pub behind_four : (top q x a b c d : ℕ) → top ≡ q * 64
    → behind top (behind top (behind top (behind top x a) b) c) d ≡ x / 256 + ((3 - d) * 64 + (3 - c) * 16 + (3 - b) * 4 + (3 - a)) * q
behind_four top q x a b c d e = go (3 - a) (3 - b) (3 - c) (3 - d)
  where
    go : (a b c d : ℕ) → (((x / 4 + a * top) / 4 + b * top) / 4 + c * top) / 4 + d * top ≡ x / 256 + (d * 64 + c * 16 + b * 4 + a) * q
    go a b c d =
        let ea : a * top ≡ 64 * (a * q) = ap (λ t. a * t) e ∙ omega arith in
        let eb : b * top ≡ 64 * (b * q) = ap (λ t. b * t) e ∙ omega arith in
        let ec : c * top ≡ 64 * (c * q) = ap (λ t. c * t) e ∙ omega arith in
        let ed : d * top ≡ 64 * (d * q) = ap (λ t. d * t) e ∙ omega arith in
        omega (arith, ea, eb, ec, ed)

pub ahead_bytes : (top q f b : ℕ) → 1 ≤ q → top ≡ q * 64 → b < 256 → ahead_byte top f b ≡ ahead top
    (ahead top (ahead top (ahead top f (b / 64 % 4)) (b / 16 % 4)) (b / 4 % 4)) (b % 4)
ahead_bytes top q f b some e small =
    let part : top / 64 ≡ q = omega arith in
    let whole : b ≡ b / 64 % 4 * 64 + b / 16 % 4 * 16 + b / 4 % 4 * 4 + b % 4 = omega arith in
    (λ i. f % part i * 256 + whole i) ∙ sym (ahead_four top q f (b / 64 % 4) (b / 16 % 4) (b / 4 % 4) (b % 4) some e (omega arith) (omega arith)
    (omega arith) (omega arith))

pub behind_bytes : (top q x b : ℕ) → top ≡ q * 64 → behind_byte top x b ≡ behind top
    (behind top (behind top (behind top x (b / 64 % 4)) (b / 16 % 4)) (b / 4 % 4)) (b % 4)
behind_bytes top q x b e =
    let part : top / 64 ≡ q = omega arith in
    ap (λ n. x / 256 + turned b * n) part ∙ sym (behind_four top q x (b / 64 % 4) (b / 16 % 4) (b / 4 % 4) (b % 4) e)

-- ---- one word more

-- the window behind i codes, and the keys of the words that end there or before
pub record IsFilled (strands : Strands) (k : ℕ) (s : List ℕ) (i forward back : ℕ) (old new : List ℕ) : Type 0 where
  pub rolling : IsRolling k s i forward back
  pub pushed : new ≡ old ++ keys_upto strands k s (i + 1 - k)
