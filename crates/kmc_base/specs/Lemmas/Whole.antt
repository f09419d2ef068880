-- Whole records, one after the other.
use Rattle.std.proofs.Common.{◌≡◌, ℕ, zero, suc, ◌+◌, ◌-◌, ◌<◌, ◌≤◌, List, [], ◌∷◌, ◌++◌, length, get_or, take, drop, All, refl, sym, ap, subst, ◌∙◌, arith, append_assoc, append-nil, length-drop}
use Rattle.std.proofs.lemmas.List.{length-take-le, take_rest, take-append-drop}
use Rattle.std.proofs.Math.Seq.{take-add}
use Rattle.std.specs.List.{flat_map, AllByRecursion}
use Rattle.kmc_base.specs.Lemmas.Rolling.{codes_front}
use Rattle.kmc_base.specs.Record.{packed_codes, spelling, IsSpelled, IsBodyOf, codes_in, size_of}
use Rattle.kmc_base.specs.Lemmas.Codes.{length_codes, are_codes}
use Rattle.kmc_base.specs.Lemmas.Spelled.{AreBytes, bytes_each, zeros_each, packed_back}

-- ---- one record more

all_push : (P : List ℕ → Type 0) (ss : List (List ℕ)) (s : List ℕ) → AllByRecursion P ss → P s → AllByRecursion P (ss ++ s ∷ [])
all_push P [] s h p = (p, tt)
all_push P (r ∷ ss) s h p = (h.0, all_push P ss s h.1 p)

pub flat_push : {A : Type 0} (f : List ℕ → List A) (ss : List (List ℕ)) (s : List ℕ) → flat_map f (ss ++ s ∷ []) ≡ flat_map f ss ++ f s
flat_push f [] s = append-nil (f s)
flat_push f (r ∷ ss) s = ap (λ t. f r ++ t) (flat_push f ss s) ∙ sym (append_assoc (f r) (flat_map f ss) (f s))

pub body_push : (k : ℕ) (ss : List (List ℕ)) (s front b : List ℕ) → IsBodyOf k ss front → IsSpelled k s → b ≡ spelling k s → IsBodyOf k
    (ss ++ s ∷ []) (front ++ b)
body_push k ss s front b h spelled is = record {
  each = all_push (IsSpelled k) ss s h.each spelled;
  is = (λ i. h.is i ++ is i) ∙ sym (flat_push (spelling k) ss s);
}

-- the codes of the first record
abbrev pub first_codes : ℕ → List ℕ → List ℕ
first_codes n bytes = take n (codes_in (take (size_of n) (drop 1 bytes)))

pub bytes_take : (n : ℕ) (bs : List ℕ) → AreBytes bs → AreBytes (take n bs)
bytes_take zero bs h = tt
bytes_take (suc n) [] h = tt
bytes_take (suc n) (b ∷ bs) h = (h.0, bytes_take n bs h.1)

pub bytes_drop : (n : ℕ) (bs : List ℕ) → AreBytes bs → AreBytes (drop n bs)
bytes_drop zero bs h = h
bytes_drop (suc n) [] h = tt
bytes_drop (suc n) (b ∷ bs) h = bytes_drop n bs h.1

pub bytes_append : (xs ys : List ℕ) → AreBytes xs → AreBytes ys → AreBytes (xs ++ ys)
bytes_append [] ys h k = k
bytes_append (x ∷ xs) ys h k = (h.0, bytes_append xs ys h.1 k)

head_and_rest : (bytes : List ℕ) (n : ℕ) → 0 < length bytes → take (1 + n) bytes ≡ get_or bytes 0 0 ∷ take n (drop 1 bytes)
head_and_rest [] n some = absurd (omega arith)
head_and_rest (b ∷ bs) n some = let e : 1 + n ≡ suc n = omega arith in rw e refl

first_byte : (bytes : List ℕ) → AreBytes bytes → get_or bytes 0 0 < 256
first_byte [] h = omega arith
first_byte (b ∷ bs) h = h.0

pub length_first : (n : ℕ) (bytes : List ℕ) → 1 + size_of n ≤ length bytes → length (first_codes n bytes) ≡ n
length_first n bytes inside =
    let inner = take (size_of n) (drop 1 bytes) in
    let long_inner : length inner ≡ size_of n = length-take-le (size_of n) (drop 1 bytes) (omega (arith, length-drop 1 bytes)) in
    length-take-le n (codes_in inner) (omega (arith, length_codes inner, long_inner))

pub first_spelled : (k n : ℕ) (bytes : List ℕ) → AreBytes bytes → n ≡ get_or bytes 0 0 + k → 1 + size_of n ≤ length bytes → IsSpelled k (first_codes n bytes)
first_spelled k n bytes are count inside = record {
  least = omega (arith, length_first n bytes inside, count);
  most = omega (arith, length_first n bytes inside, count, first_byte bytes are);
  codes = codes_front n (codes_in (take (size_of n) (drop 1 bytes))) (are_codes (take (size_of n) (drop 1 bytes)));
}

pub spelled_is : (k n : ℕ) (bytes : List ℕ) → AreBytes bytes → n ≡ get_or bytes 0 0 + k → 1 + size_of n ≤ length bytes
    → All (λ c. c ≡ 0) (drop n (codes_in (take (size_of n) (drop 1 bytes)))) → take (1 + size_of n) bytes ≡ spelling k (first_codes n bytes)
spelled_is k n bytes are count inside rest =
    let size = size_of n in
    let inner = take size (drop 1 bytes) in
    let long_inner : length inner ≡ size = length-take-le size (drop 1 bytes) (omega (arith, length-drop 1 bytes)) in
    let first : get_or bytes 0 0 ≡ length (first_codes n bytes) - k = omega (arith, length_first n bytes inside, count) in
    let codes : inner ≡ packed_codes (first_codes n bytes) =
    sym (packed_back n inner (bytes_take size (drop 1 bytes) (bytes_drop 1 bytes are)) long_inner (zeros_each (drop n (codes_in inner)) rest)) in
    head_and_rest bytes size (omega arith) ∙ (λ i. first i ∷ codes i)

pub first_read : (k n : ℕ) (bytes : List ℕ) → AreBytes bytes → n ≡ get_or bytes 0 0 + k → 1 + size_of n ≤ length bytes
    → All (λ c. c ≡ 0) (drop n (codes_in (take (size_of n) (drop 1 bytes)))) → bytes ≡ spelling k (first_codes n bytes) ++ drop (1 + size_of n) bytes
first_read k n bytes are count inside rest =
    sym (take-append-drop (1 + size_of n) bytes) ∙ ap (λ (t : List ℕ). t ++ drop (1 + size_of n) bytes) (spelled_is k n bytes are count inside rest)

-- the bytes of a body from a place on
abbrev pub rest_at : ℕ → List ℕ → List ℕ
rest_at offset body = take (length body - offset) (drop offset body)

-- a record of n symbols was found at a place of a body
module _ (k n offset : ℕ) (body : List ℕ) (each : (i : ℕ) → get_or body i 0 < 256) (count : n ≡ get_or (rest_at offset body) 0 0 + k)
    (inside : 1 + size_of n ≤ length (rest_at offset body))
    (clean : All (λ c. c ≡ 0) (drop n (codes_in (take (size_of n) (drop 1 (rest_at offset body)))))) where
  is_rest : rest_at offset body ≡ drop offset body
  is_rest = take_rest body offset

  are_bytes : AreBytes (rest_at offset body)
  are_bytes = subst AreBytes (sym is_rest) (bytes_drop offset body (bytes_each body each))

  pub spelled_there : IsSpelled k (first_codes n (rest_at offset body))
  spelled_there = first_spelled k n (rest_at offset body) are_bytes count inside

  pub begins_there : drop offset body ≡ spelling k (first_codes n (rest_at offset body)) ++ drop (1 + size_of n) (rest_at offset body)
  begins_there = sym is_rest ∙ first_read k n (rest_at offset body) are_bytes count inside clean

  pub rest_long : length (rest_at offset body) ≡ length body - offset
  rest_long = ap length is_rest ∙ length-drop offset body

  pub next_inside : offset + (1 + size_of n) ≤ length body
  next_inside = omega (arith, inside, rest_long)

  pub next_body : (next : ℕ) (ss : List (List ℕ)) → IsBodyOf k ss (take offset body) → next ≡ offset + (1 + size_of n)
      → IsBodyOf k (ss ++ first_codes n (rest_at offset body) ∷ []) (take next body)
  next_body next ss before there =
      let rest = rest_at offset body in
      let split : take next body ≡ take offset body ++ take (1 + size_of n) rest =
      ap (λ m. take m body) there ∙ take-add offset (1 + size_of n) body
      ∙ ap (λ (t : List ℕ). take offset body ++ take (1 + size_of n) t) (sym is_rest) in
      subst (IsBodyOf k (ss ++ first_codes n rest ∷ [])) (sym split)
      (body_push k ss (first_codes n rest) (take offset body) (take (1 + size_of n) rest) before spelled_there
      (spelled_is k n rest are_bytes count inside clean))

-- the codes of the bytes behind the first
pub same_codes : (n : ℕ) (bytes : List ℕ) → take n (codes_in (take (1 + size_of n - 1) (drop 1 bytes))) ≡ first_codes n bytes
same_codes n bytes = let same : 1 + size_of n - 1 ≡ size_of n = omega arith in ap (λ m. take n (codes_in (take m (drop 1 bytes)))) same
