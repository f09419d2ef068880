-- Pairs of a range as keys.
use Rattle.std.proofs.Common.{◌≡◌, ℕ, ◌+◌, ◌-◌, ◌*◌, ◌/◌, ◌%◌, ◌^◌, ◌<◌, ◌≤◌, List, [], ◌∷◌, ◌++◌, bit_and, All, length, get_or, map, take, drop, ap, sym, subst, ◌∙◌, arith, le_refl, mod-eq_of_lt, le-div_iff_mul-le, length-drop, append-nil}
use Rattle.std.specs.List.{flat_map}
use Rattle.std.specs.List.Sorted.{IsSorted, IsNonDecreasingBy}
use Rattle.std.specs.Ordering.{nat_cmp}
use Rattle.std.proofs.Math.Nat.{add-mul}
use Rattle.std.proofs.lemmas.Nat.{pow_pos, pow-add, mul-le, div-add-mod', mod_below, shr_high, mod_low, one_shl, and_mask}
use Rattle.std.proofs.lemmas.List.{get_or-drop, get_or-take, length-take-le, length-map, get_or-map, map-append, take_more}
use Rattle.std.proofs.lemmas.Grind.{flat_map-append}
use Rattle.std.proofs.lemmas.List.Sorted.{IsNonDecreasingBy-from_sort}
use Rattle.kmc_base.specs.Packed.{unpack}
use Rattle.kmc_dump.specs.Keys.{key_pair, key_pairs}
use Rattle.kmc_lists.specs.Listed.{spell, spelled}
use Rattle.kmc_lists.specs.Ordered.{Climbs, IsCutOfList}
use Rattle.kmc_lists.specs.Lemmas.Order.{climbs_from, slot_up}

-- a key holds its pair
pub key_holds : (word count least bits : ℕ) → least ≤ word → count < 2 ^ bits → key_pair least bits ((word - least) * 2 ^ bits + count) ≡ (word, count)
key_holds word count least bits low few =
    let high : ((word - least) * 2 ^ bits + count) / 2 ^ bits ≡ word - least = shr_high (word - least) bits count few in
    let a : ((word - least) * 2 ^ bits + count) / 2 ^ bits + least ≡ word = omega (arith, high, low) in
    (λ i. (a i, mod_low (word - least) bits count few i))

-- what is at most the greatest number shifted down can be shifted up
pub shift_fits : (n shift : ℕ) → n ≤ (2 ^ 128 - 1) / 2 ^ shift → n * 2 ^ shift < 2 ^ 128
shift_fits n shift low = omega (arith, (le-div_iff_mul-le (pow_pos shift)).0 low)

-- how far the word lies behind the least fits, also above the bits of a count
module _ (word least bits : ℕ) (room : (word - least + 1) * 2 ^ bits ≤ 2 ^ 64) where
  pub far_whole : (word - least) * 2 ^ bits % 2 ^ 64 ≡ (word - least) * 2 ^ bits
  far_whole = mod-eq_of_lt (omega (arith, room, pow_pos bits))

  pub key_fits : (count : ℕ) → count < 2 ^ bits → (word - least) * 2 ^ bits + count < 2 ^ 64
  key_fits count few = omega (arith, room, few)

-- a word of a range lies behind the first word of the range, and before that of the next
module _ (w from to n : ℕ) (pos : 0 < w) (low : from ≤ n / w) (high : n / w < to) where
  pub above_least : from * w ≤ n
  above_least = omega (arith, mul-le from w (n / w) w low (le_refl w), div-add-mod' n w)

  pub before_next : n - from * w + 1 ≤ (to - from) * w
  before_next =
      let top : (n / w + 1) * w ≤ to * w = mul-le (n / w + 1) w to w (omega (arith, high)) (le_refl w) in
      let e : from + (to - from) ≡ to = omega (arith, low, high) in
      let split : (from + (to - from)) * w ≡ to * w = ap (λ t. t * w) e in
      omega (
        arith,
        top,
        split,
        above_least,
        add-mul (n / w) 1 w,
        add-mul from (to - from) w,
        div-add-mod' n w,
        mod_below n w pos,
      )

-- a pair between two cuts lies in the range, and has a key
pub between : (w from to b e : ℕ) (ps : List (ℕ × ℕ)) → IsCutOfList w from b ps → IsCutOfList w to e ps → (i : ℕ) (p : ℕ × ℕ) → b ≤ i → i < e
    → ((d : ℕ × ℕ) → p ≡ get_or ps i d) → (from ≤ p.0 / w) × (p.0 / w < to)
between w from to b e ps low high i p up inside is =
    let place : b + (i - b) ≡ i = omega arith in
    let first : from ≤ (get_or (drop b ps) (i - b) p).0 / w = low.behind (i - b) p (omega (arith, inside, up, high.inside, length-drop b ps)) in
    let second : (get_or (take e ps) i p).0 / w < to = high.before i p (omega (arith, inside, length-take-le e ps high.inside)) in
    let a : get_or (drop b ps) (i - b) p ≡ p = get_or-drop b ps (i - b) p ∙ ap (λ n. get_or ps n p) place ∙ sym (is p) in
    let c : get_or (take e ps) i p ≡ p = get_or-take e ps i p inside ∙ sym (is p) in
    (subst (λ (q : ℕ × ℕ). from ≤ q.0 / w) a first, subst (λ (q : ℕ × ℕ). q.0 / w < to) c second)

pub has_key : (w from to least bits n : ℕ) → 0 < w → least ≡ from * w → (to - from) * w * 2 ^ bits ≤ 2 ^ 64 → (from ≤ n / w) × (n / w < to)
    → (least ≤ n) × ((n - least + 1) * 2 ^ bits ≤ 2 ^ 64)
has_key w from to least bits n pos is room there =
    let low = above_least w from to n pos there.0 there.1 in
    let high : n - least + 1 ≤ (to - from) * w = omega (arith, before_next w from to n pos there.0 there.1, is) in (
      omega (arith, low, is),
      omega (arith, room, mul-le (n - least + 1) (2 ^ bits) ((to - from) * w) (2 ^ bits) high (le_refl (2 ^ bits))),
    )

-- a range of so few slots has keys of 64 bits
pub fit_room : (n s b : ℕ) → b < 64 → s ≤ 64 - b → n ≤ 1 * 2 ^ (64 - b - s) % 2 ^ 128 → n * 2 ^ s * 2 ^ b ≤ 2 ^ 64
fit_room n s b small low few =
    let e : 1 * 2 ^ (64 - b - s) % 2 ^ 128 ≡ 2 ^ (64 - b - s) = one_shl (64 - b - s) 128 (omega arith) in
    let less : n ≤ 2 ^ (64 - b - s) = omega (arith, few, e) in
    let one : n * 2 ^ s ≤ 2 ^ (64 - b - s) * 2 ^ s = mul-le n (2 ^ s) (2 ^ (64 - b - s)) (2 ^ s) less (le_refl (2 ^ s)) in
    let two : n * 2 ^ s * 2 ^ b ≤ 2 ^ (64 - b - s) * 2 ^ s * 2 ^ b =
    mul-le (n * 2 ^ s) (2 ^ b) (2 ^ (64 - b - s) * 2 ^ s) (2 ^ b) one (le_refl (2 ^ b)) in
    let sum : (64 - b - s) + s + b ≡ 64 = omega arith in
    let whole : 2 ^ ((64 - b - s) + s + b) ≡ 2 ^ (64 - b - s) * 2 ^ s * 2 ^ b =
    pow-add 2 ((64 - b - s) + s) b ∙ ap (λ t. t * 2 ^ b) (pow-add 2 (64 - b - s) s) in
    let top : 2 ^ ((64 - b - s) + s + b) ≡ 2 ^ 64 = ap (λ t. 2 ^ t) sum in
    omega (arith, two, whole, top)

-- the lowest bits of a key are the count
pub low_count : (n b : ℕ) → b < 64 → bit_and n (1 * 2 ^ b % 2 ^ 64 - 1) ≡ n % 2 ^ b
low_count n b small = ap (λ t. bit_and n (t - 1)) (one_shl b 64 small) ∙ and_mask n b

-- the word of a key has k codes where those of all keys have
pub word_fits : (k least b : ℕ) (ns : List ℕ) (i : ℕ) → i < length ns → All (λ p. p.0 < 4 ^ k) (key_pairs least b ns)
    → get_or ns i 0 / 2 ^ b + least < 4 ^ k
word_fits k least b ns i inside fit =
    let f : ℕ → ℕ × ℕ = key_pair least b in
    let here : get_or (map f ns) i (f 0) ≡ f (get_or ns i 0) = get_or-map f ns i 0 (f 0) inside in
    subst (λ (q : ℕ × ℕ). q.0 < 4 ^ k) here (fit i (f 0) (omega (arith, inside, length-map ns f)))

-- one pair more
pub pair_more : (line : List ℕ × ℕ → List ℕ) (k least b : ℕ) (ns : List ℕ) (i : ℕ) → i < length ns
    → flat_map line (spelled k (key_pairs least b (take i ns))) ++ line (unpack k (get_or ns i 0 / 2 ^ b + least), get_or ns i 0 % 2 ^ b)
    ≡ flat_map line (spelled k (key_pairs least b (take (i + 1) ns)))
pair_more line k least b ns i inside =
    let f : ℕ → ℕ × ℕ = key_pair least b in
    let n = get_or ns i 0 in
    let more : take (i + 1) ns ≡ take i ns ++ n ∷ [] = take_more ns i 0 inside in
    let pairs : key_pairs least b (take (i + 1) ns) ≡ map f (take i ns) ++ f n ∷ [] = ap (map f) more ∙ map-append f (take i ns) (n ∷ []) in
    let words : spelled k (key_pairs least b (take (i + 1) ns)) ≡ spelled k (map f (take i ns)) ++ spell k (f n) ∷ [] =
    ap (spelled k) pairs ∙ map-append (spell k) (map f (take i ns)) (f n ∷ []) in
    sym (ap (flat_map line) words ∙ flat_map-append line (spelled k (map f (take i ns))) (spell k (f n) ∷ [])
    ∙ ap (λ (t : List ℕ). flat_map line (spelled k (map f (take i ns))) ++ t) (append-nil (line (spell k (f n)))))

-- keys that do not fall have words that do not fall
pub keys_climb : (least bits : ℕ) (ns : List ℕ) → IsSorted nat_cmp ns → Climbs (key_pairs least bits ns)
keys_climb least bits ns sorted =
    let up : IsNonDecreasingBy (λ n. n) ns = IsNonDecreasingBy-from_sort (λ n. n) ns sorted in
    climbs_from (λ n. n / 2 ^ bits + least) (λ n. n % 2 ^ bits) ns
    (λ i j e less inside. (let h = slot_up (2 ^ bits) (pow_pos bits) (get_or ns i e) (get_or ns j e) (up i j e less inside) in omega (arith, h)))
