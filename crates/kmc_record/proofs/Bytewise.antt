-- The bytes of a number, worked on side by side, and the other strand of their codes.
use Rattle.std.proofs.Common.{◌≡◌, ℕ, ◌+◌, ◌-◌, ◌*◌, ◌/◌, ◌%◌, ◌^◌, ◌<◌, List, [], ◌∷◌, ◌++◌, length, map, reverse, replicate, bit_and, refl, sym, ap, ◌∙◌, arith, mod-eq_of_lt}
use Rattle.std.proofs.lemmas.List.{length-map, map-append, reverse-append}
use Rattle.std.proofs.lemmas.Nat.{and_block, and_mask}
use Rattle.std.proofs.lemmas.Nat.Bits.{and_high}
use Rattle.kmc_base.specs.Bytes.{turned}
use Rattle.kmc_base.specs.Packed.{pack}
use Rattle.kmc_base.specs.Words.{rev_comp}
use Rattle.kmc_base.specs.Record.{quarters, codes_in}
use Rattle.kmc_base.specs.Lemmas.Codes.{are_codes, length_codes, codes_join}
use Rattle.kmc_base.specs.Lemmas.NumberBytes.{bytes_after, packed_bytes}
use Rattle.kmc_base.specs.Lemmas.Packs.{pack_fits, rev_comp_join}
use Rattle.kmc_base.specs.Lemmas.Spelled.{AreBytes}
use Rattle.kmc_base.specs.Lemmas.Whole.{bytes_append}

-- ---- each byte by itself

and_each : (c p q : ℕ) (ds : List ℕ) → c < 256 → AreBytes ds
    → bit_and (bytes_after p ds) (bytes_after q (replicate (length ds) c)) ≡ bytes_after (bit_and p q) (map (λ b. bit_and b c) ds)
and_each c p q [] small h = refl
and_each c p q (b ∷ ds) small h =
    and_each c (p * 256 + b) (q * 256 + c) ds small h.1 ∙ ap (λ n. bytes_after n (map (λ x. bit_and x c) ds)) (and_block 8 p q b c h.0 small)

times_each : (f : ℕ → ℕ) (c p : ℕ) (ds : List ℕ) → bytes_after p (map f ds) * c ≡ bytes_after (p * c) (map (λ b. f b * c) ds)
times_each f c p [] = refl
times_each f c p (b ∷ ds) =
    let e : (p * 256 + f b) * c ≡ p * c * 256 + f b * c = omega arith in
    times_each f c (p * 256 + f b) ds ∙ ap (λ n. bytes_after n (map (λ x. f x * c) ds)) e

sum_each : (f g : ℕ → ℕ) (p q : ℕ) (ds : List ℕ) → bytes_after p (map f ds) + bytes_after q (map g ds) ≡ bytes_after (p + q) (map (λ b. f b + g b) ds)
sum_each f g p q [] = refl
sum_each f g p q (b ∷ ds) =
    let e : p * 256 + f b + (q * 256 + g b) ≡ (p + q) * 256 + (f b + g b) = omega arith in
    sum_each f g (p * 256 + f b) (q * 256 + g b) ds ∙ ap (λ n. bytes_after n (map (λ x. f x + g x) ds)) e

all_bytes : (f : ℕ → ℕ) → ((b : ℕ) → f b < 256) → (ds : List ℕ) → AreBytes (map f ds)
all_bytes f h [] = tt
all_bytes f h (b ∷ ds) = (h b, all_bytes f h ds)

all_same : (c : ℕ) (ds : List ℕ) → map (λ _. c) ds ≡ replicate (length ds) c
all_same c [] = refl
all_same c (b ∷ ds) = ap (λ (t : List ℕ). c ∷ t) (all_same c ds)

-- the reverse complement of a byte's codes, less its complement
abbrev other : ℕ → ℕ
other b = b % 4 * 64 + b / 4 % 4 * 4 * 4 + b / 16 % 4 * 4 + b / 64 % 4

-- ---- of sixteen bytes

module _ (ds : List ℕ) (long : length ds ≡ 16) (small : AreBytes ds) where
  abbrev number : (ℕ → ℕ) → ℕ
  number f = bytes_after 0 (map f ds)

  fits : (f : ℕ → ℕ) → ((b : ℕ) → f b < 256) → number f < 2 ^ 128
  fits f h =
      let codes = codes_in (map f ds) in
      let count : length codes ≡ 64 = omega (arith, length_codes (map f ds), length-map ds f, long) in
      let below : pack codes < 4 ^ 64 = rw count at (pack_fits codes (are_codes (map f ds))) in
      omega (arith, below, packed_bytes 0 (map f ds) (all_bytes f h ds))

  masked : (c : ℕ) → c < 256 → bit_and (bytes_after 0 ds) (bytes_after 0 (replicate 16 c)) ≡ number (λ b. bit_and b c)
  masked c few = ap (λ n. bit_and (bytes_after 0 ds) (bytes_after 0 (replicate n c))) (sym long) ∙ and_each c 0 0 ds few small

  last_is : bit_and (bytes_after 0 ds) (bytes_after 0 (replicate 16 3)) * 2 ^ 6 % 2 ^ 128 ≡ number (λ b. b % 4 * 64)
  last_is =
      let own : bit_and (bytes_after 0 ds) (bytes_after 0 (replicate 16 3)) ≡ number (λ b. b % 4) =
      masked 3 (omega arith) ∙ (λ i. number (λ b. and_mask b 2 i)) in
      ap (λ n. n * 64 % 2 ^ 128) own ∙ ap (λ n. n % 2 ^ 128) (times_each (λ b. b % 4) 64 0 ds)
      ∙ mod-eq_of_lt (fits (λ b. b % 4 * 64) (λ b. omega arith))

  third_is : bit_and (bytes_after 0 ds) (bytes_after 0 (replicate 16 12)) * 2 ^ 2 % 2 ^ 128 ≡ number (λ b. b / 4 % 4 * 4 * 4)
  third_is =
      let own : bit_and (bytes_after 0 ds) (bytes_after 0 (replicate 16 12)) ≡ number (λ b. b / 4 % 4 * 4) =
      masked 12 (omega arith) ∙ (λ i. number (λ b. and_high b 2 2 i)) in
      ap (λ n. n * 4 % 2 ^ 128) own ∙ ap (λ n. n % 2 ^ 128) (times_each (λ b. b / 4 % 4 * 4) 4 0 ds)
      ∙ mod-eq_of_lt (fits (λ b. b / 4 % 4 * 4 * 4) (λ b. omega arith))

  second_is : bit_and (bytes_after 0 ds) (bytes_after 0 (replicate 16 48)) / 2 ^ 2 ≡ number (λ b. b / 16 % 4 * 4)
  second_is =
      let sixteens : (b : ℕ) → b / 16 % 4 * 16 ≡ b / 16 % 4 * 4 * 4 = λ b. omega arith in
      let own : bit_and (bytes_after 0 ds) (bytes_after 0 (replicate 16 48)) ≡ number (λ b. b / 16 % 4 * 4) * 4 =
      masked 48 (omega arith) ∙ (λ i. number (λ b. and_high b 2 4 i)) ∙ (λ i. number (λ b. sixteens b i))
      ∙ sym (times_each (λ b. b / 16 % 4 * 4) 4 0 ds) in
      omega (arith, own)

  first_is : bit_and (bytes_after 0 ds) (bytes_after 0 (replicate 16 192)) / 2 ^ 6 ≡ number (λ b. b / 64 % 4)
  first_is =
      let own : bit_and (bytes_after 0 ds) (bytes_after 0 (replicate 16 192)) ≡ number (λ b. b / 64 % 4) * 64 =
      masked 192 (omega arith) ∙ (λ i. number (λ b. and_high b 2 6 i)) ∙ sym (times_each (λ b. b / 64 % 4) 64 0 ds) in
      omega (arith, own)

  all_turned : number other + number turned ≡ 2 ^ 128 - 1
  all_turned =
      let both : (b : ℕ) → other b + turned b ≡ 255 = λ b. omega arith in
      sum_each other turned 0 0 ds ∙ (λ i. number (λ b. both b i)) ∙ ap (bytes_after 0) (all_same 255 ds)
      ∙ ap (λ n. bytes_after 0 (replicate n 255)) long

  sum_is : (a b c d : ℕ) → a ≡ number (λ b. b % 4 * 64) → b ≡ number (λ b. b / 4 % 4 * 4 * 4) → c ≡ number (λ b. b / 16 % 4 * 4)
      → d ≡ number (λ b. b / 64 % 4) → a + b + c + d ≡ number other
  sum_is a b c d ea eb ec ed =
      (λ i. ea i + eb i + ec i + ed i)
      ∙ ap (λ n. n + number (λ b. b / 16 % 4 * 4) + number (λ b. b / 64 % 4)) (sum_each (λ b. b % 4 * 64) (λ b. b / 4 % 4 * 4 * 4) 0 0 ds)
      ∙ ap (λ n. n + number (λ b. b / 64 % 4)) (sum_each (λ b. b % 4 * 64 + b / 4 % 4 * 4 * 4) (λ b. b / 16 % 4 * 4) 0 0 ds)
      ∙ sum_each (λ b. b % 4 * 64 + b / 4 % 4 * 4 * 4 + b / 16 % 4 * 4) (λ b. b / 64 % 4) 0 0 ds

  pub parts_turned : (n : ℕ) → n ≡ bytes_after 0 ds
      → bit_and n (bytes_after 0 (replicate 16 3)) * 2 ^ 6 % 2 ^ 128 + bit_and n (bytes_after 0 (replicate 16 12)) * 2 ^ 2 % 2 ^ 128
      + bit_and n (bytes_after 0 (replicate 16 48)) / 2 ^ 2 + bit_and n (bytes_after 0 (replicate 16 192)) / 2 ^ 6 + pack (codes_in (map turned ds)) ≡ 2 ^ 128 - 1
  parts_turned n is =
      let turned_small : (b : ℕ) → turned b < 256 = λ b. omega arith in
      (λ i. bit_and (is i) (bytes_after 0 (replicate 16 3)) * 2 ^ 6 % 2 ^ 128 + bit_and (is i) (bytes_after 0 (replicate 16 12)) * 2 ^ 2 % 2 ^ 128
      + bit_and (is i) (bytes_after 0 (replicate 16 48)) / 2 ^ 2 + bit_and (is i) (bytes_after 0 (replicate 16 192)) / 2 ^ 6
      + packed_bytes 0 (map turned ds) (all_bytes turned turned_small ds) i)
      ∙ ap (λ t. t + number turned) (sum_is _ _ _ _ last_is third_is second_is first_is) ∙ all_turned

-- ---- the other strand

quarters_turned : (b : ℕ) → quarters (turned b) ≡ rev_comp (quarters b)
quarters_turned b =
    let e : turned b / 64 % 4 ≡ 3 - b % 4 = omega arith in
    let f : turned b / 16 % 4 ≡ 3 - b / 4 % 4 = omega arith in
    let g : turned b / 4 % 4 ≡ 3 - b / 16 % 4 = omega arith in
    let h : turned b % 4 ≡ 3 - b / 64 % 4 = omega arith in
    (λ i. e i ∷ f i ∷ g i ∷ h i ∷ [])

-- each byte of the other strand is one of this, turned, and the last of them comes first
pub codes_turned : (bs : List ℕ) → codes_in (map turned (reverse bs)) ≡ rev_comp (codes_in bs)
codes_turned [] = refl
codes_turned (b ∷ bs) =
    ap (λ (t : List ℕ). codes_in (map turned t)) (reverse-append (b ∷ []) bs) ∙ ap codes_in (map-append turned (reverse bs) (b ∷ []))
    ∙ codes_join (map turned (reverse bs)) (turned b ∷ []) ∙ (λ i. codes_turned bs i ++ quarters_turned b i)
    ∙ sym (rev_comp_join (quarters b) (codes_in bs))

pub bytes_reverse : (bs : List ℕ) → AreBytes bs → AreBytes (reverse bs)
bytes_reverse [] h = tt
bytes_reverse (b ∷ bs) h = rw (reverse-append (b ∷ []) bs) (bytes_append (reverse bs) (b ∷ []) (bytes_reverse bs h.1) (h.0, tt))
