-- Ranges of slots as ranges of finer slots.
use Rattle.std.specs.Prelude.{min}
use Rattle.std.proofs.Common.{◌≡◌, ℕ, ◌+◌, ◌-◌, ◌*◌, ◌/◌, ◌^◌, ◌<◌, ◌≤◌, ◌&&◌, Bool, true, false, cond, nat_lt, nat_le, All, List, [], ◌∷◌, length, get_or, refl, sym, ap, subst, ◌∙◌, arith, le_refl}
use Rattle.std.proofs.Math.Nat.{add-mul, mul_comm, mul_assoc, div-mul-le_self, lt-div-mul-add, div-div-eq-div-mul}
use Rattle.std.proofs.lemmas.Bool.Decides.{nat_tests}
use Rattle.std.proofs.lemmas.Nat.{mul-le, pow-add, pow_pos}
use Rattle.kmc_lists.specs.Listed.{Listed}
use Rattle.kmc_lists.specs.Ordered.{is_within, within, joined, packs}
use Rattle.kmc_dump.specs.Ranges.{count_within}
use Rattle.kmc_dump.specs.Lemmas.Parted.{more}

-- a slot of weight w * q is q slots of weight w
module _ (w q : ℕ) (some : 0 < q) where
  from_same : (s x : ℕ) → nat_le s (x / q) ≡ nat_le (s * q) x
  from_same s x = go (nat_le s (x / q)) refl
    where
      go : (b : Bool) → nat_le s (x / q) ≡ b → b ≡ nat_le (s * q) x
      go true e =
          let high : s ≤ x / q = grind (arith, nat_tests) in
          let up : s * q ≤ x = omega (arith, mul-le s q (x / q) q high (le_refl q), div-mul-le_self x q) in
          grind (arith, nat_tests)
      go false e =
          let low : x / q + 1 ≤ s = grind (arith, nat_tests) in
          let down : x < s * q = omega (arith, mul-le (x / q + 1) q s q low (le_refl q), add-mul (x / q) 1 q, lt-div-mul-add {a = x} some) in
          grind (arith, nat_tests)

  to_same : (t x : ℕ) → nat_lt (x / q) t ≡ nat_lt x (t * q)
  to_same t x = go (nat_lt (x / q) t) refl
    where
      go : (b : Bool) → nat_lt (x / q) t ≡ b → b ≡ nat_lt x (t * q)
      go true e =
          let low : x / q + 1 ≤ t = grind (arith, nat_tests) in
          let down : x < t * q = omega (arith, mul-le (x / q + 1) q t q low (le_refl q), add-mul (x / q) 1 q, lt-div-mul-add {a = x} some) in
          grind (arith, nat_tests)
      go false e =
          let high : t ≤ x / q = grind (arith, nat_tests) in
          let up : t * q ≤ x = omega (arith, mul-le t q (x / q) q high (le_refl q), div-mul-le_self x q) in
          grind (arith, nat_tests)

  at_same : (s t : ℕ) (p : ℕ × ℕ) → is_within (w * q) s t p ≡ is_within w (s * q) (t * q) p
  at_same s t p =
      ap (λ n. nat_le s n && nat_lt n t) (sym (div-div-eq-div-mul p.0 w q)) ∙ (λ i. from_same s (p.0 / w) i && to_same t (p.0 / w) i)

  pub finer : (s t : ℕ) (ps : List (ℕ × ℕ)) → length (within (w * q) s t ps) ≡ length (within w (s * q) (t * q) ps)
  finer s t [] = refl
  finer s t (p ∷ ps) =
      let one : cond (is_within (w * q) s t p) 1 0 + 0 ≡ cond (is_within w (s * q) (t * q) p) 1 0 + 0 = ap (λ b. cond b 1 0 + 0) (at_same s t p) in
      omega (arith, more (w * q) s t p ps, more w (s * q) (t * q) p ps, one, finer s t ps)

  -- what lies before the end lies before it in finer slots
  pub before_end : (t : ℕ) (ps : List (ℕ × ℕ)) → All (λ p. p.0 / (w * q) < t) ps → All (λ p. p.0 / w < t * q) ps
  before_end t ps h = λ i d inside.
      let x = (get_or ps i d).0 / w in
      let low : x / q < t = subst (λ n. n < t) (sym (div-div-eq-div-mul (get_or ps i d).0 w q)) (h i d inside) in
      omega (arith, mul-le (x / q + 1) q t q (omega (arith, low)) (le_refl q), add-mul (x / q) 1 q, lt-div-mul-add {a = x} some)

-- a slot that leaves out some bits more is q slots
module _ (shift fine slots q : ℕ) (least : fine ≡ min shift 2) (is : q ≡ 2 ^ (shift - fine)) where
  pub q_some : 0 < q
  q_some = omega (arith, is, pow_pos (shift - fine))

  pub weights : 2 ^ fine * q ≡ 2 ^ shift
  weights =
      let e : fine + (shift - fine) ≡ shift = omega (arith, least) in
      ap (λ n. 2 ^ fine * n) is ∙ sym (pow-add 2 fine (shift - fine)) ∙ ap (λ n. 2 ^ n) e

  -- the end of the last slot fits
  pub end_fits : slots < 2 ^ 64 → slots * 2 ^ shift ≤ 2 ^ 128 → slots * q < 2 ^ 128
  end_fits few room = go (nat_lt 0 shift) refl
    where
      go : (b : Bool) → nat_lt 0 shift ≡ b → slots * q < 2 ^ 128
      go true e =
          let some : 1 ≤ shift = grind (arith, nat_tests) in
          let one : 1 ≤ fine = omega (arith, least, some) in
          let parts : 1 + (fine - 1) ≡ fine = omega (arith, one) in
          let power : 2 ^ (1 + (fine - 1)) ≡ 2 ^ fine = ap (λ n. 2 ^ n) parts in
          let twice : 2 ≤ 2 ^ fine = omega (arith, power, pow-add 2 1 (fine - 1), pow_pos (fine - 1)) in
          let wide : 2 * q ≤ 2 ^ shift = omega (arith, mul-le 2 q (2 ^ fine) q twice (le_refl q), weights) in
          let all : slots * (2 * q) ≤ slots * 2 ^ shift = mul-le slots (2 * q) slots (2 ^ shift) (le_refl slots) wide in
          let turned : slots * (2 * q) ≡ 2 * (slots * q) = sym (mul_assoc slots 2 q) ∙ ap (λ n. n * q) (mul_comm slots 2) ∙ mul_assoc 2 slots q in
          omega (arith, all, turned, room)
      go false e =
          let low : shift ≡ 0 = grind (arith, nat_tests) in
          let none : shift - fine ≡ 0 = omega (arith, low) in
          let power : 2 ^ (shift - fine) ≡ 2 ^ 0 = ap (λ n. 2 ^ n) none in
          let one : q ≡ 1 = omega (arith, is, power) in
          let all : slots * q ≡ slots * 1 = ap (λ n. slots * n) one in
          omega (arith, all, few)

  pub next_slot : (slot : ℕ) → (slot + 1) * q ≡ slot * q + q
  next_slot slot = omega (arith, add-mul slot 1 q)

  pub slot_size : (size slot : ℕ) (lists : List Listed) → size ≡ count_within (2 ^ shift) slot (slot + 1) lists
      → size ≡ count_within (2 ^ fine) (slot * q) (slot * q + q) lists
  slot_size size slot lists there =
      there ∙ ap (λ n. count_within n slot (slot + 1) lists) (sym weights) ∙ finer (2 ^ fine) q q_some slot (slot + 1) (joined (packs lists))
      ∙ ap (λ n. count_within (2 ^ fine) (slot * q) n lists) (next_slot slot)

  pub slot_fits : (slot : ℕ) → slot < slots → slots < 2 ^ 64 → slots * 2 ^ shift ≤ 2 ^ 128 → slot * q + q < 2 ^ 128
  slot_fits slot inside few room =
      omega (arith, mul-le (slot + 1) q slots q (omega (arith, inside)) (le_refl q), next_slot slot, end_fits few room)

  pub all_before : (ps : List (ℕ × ℕ)) → All (λ p. p.0 / 2 ^ shift < slots) ps → All (λ p. p.0 / 2 ^ fine < slots * q) ps
  all_before ps h = before_end (2 ^ fine) q q_some slots ps (subst (λ n. All (λ p. p.0 / n < slots) ps) (sym weights) h)
