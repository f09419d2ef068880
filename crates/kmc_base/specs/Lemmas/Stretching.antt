-- An open stretch before the stretches of what follows it.
use Rattle.std.proofs.Common.{◌≡◌, ℕ, suc, ◌+◌, ◌-◌, ◌<◌, ◌≤◌, ◌==◌, inl, inr, Bool, true, false, cond, nat_le, List, [], ◌∷◌, ◌++◌, length, take, drop, get_or, Option, None, Some, refl, sym, ap, subst, ◌∙◌, arith, append_assoc, append-nil, add-one, add-zero, length-append, drop_of_length-le}
use Rattle.std.proofs.lemmas.Bool.{cases_lt, eq-eqb, ne_eqb}
use Rattle.std.proofs.lemmas.Bool.Decides.{nat_tests}
use Rattle.std.proofs.lemmas.List.Elements.{filter-append}
use Rattle.std.proofs.Math.Seq.{drop-cons}
use Rattle.std.proofs.lemmas.List.{get_or-take, get_or-drop, length-take, length-drop}
use Rattle.std.specs.List.{filter}
use Rattle.kmc_base.specs.Words.{code_of}
use Rattle.kmc_base.specs.Stretches.{Stretch, with_place, stretches_from, led_by, leading, IsBase, AreBases}

abbrev pub long_enough : ℕ → List Stretch → List Stretch
long_enough k ss = filter (λ s. nat_le k (length s.codes)) ss

-- codes that stand from place a on, before the stretches
abbrev pub joined : ℕ → List ℕ → List Stretch → List Stretch
joined a [] ss = ss
joined a (c ∷ cs) ss = with_place a (Some c) (joined (a + 1) cs ss)

-- one more code
pub joined_more : (a : ℕ) (cs : List ℕ) (c : ℕ) (ss : List Stretch) → joined a (cs ++ c ∷ []) ss ≡ joined a cs (with_place (a + length cs) (Some c) ss)
joined_more a [] c ss = rw add-zero refl
joined_more a (d ∷ cs) c ss =
    let place : a + 1 + length cs ≡ a + suc (length cs) = omega arith in
    ap (with_place a (Some d)) (joined_more (a + 1) cs c ss ∙ ap (λ p. joined (a + 1) cs (with_place p (Some c) ss)) place)

-- the first stretch does not begin at this place
abbrev pub Apart : ℕ → List Stretch → Type 0
Apart p [] = Unit {0}
Apart p (s ∷ ss) = p < s.start

-- an open stretch that nothing follows is a stretch
pub joined_alone : (a : ℕ) (c : ℕ) (cs : List ℕ) (ss : List Stretch) → Apart (a + length (c ∷ cs)) ss → joined a (c ∷ cs) ss
    ≡ record { start = a; codes = c ∷ cs } ∷ ss
joined_alone a c [] [] apart = refl
joined_alone a c [] (s ∷ ss) apart =
    let other : (s.start == a + 1) ≡ false = ne_eqb s.start (a + 1) (λ e. omega arith) in
    rw other refl
joined_alone a c (d ∷ cs) ss apart =
    let place : a + length (c ∷ d ∷ cs) ≡ a + 1 + length (d ∷ cs) = grind arith in
    let rest = joined_alone (a + 1) d cs ss (subst (λ p. Apart p ss) place apart) in
    let same : (a + 1 == a + 1) ≡ true = eq-eqb (a + 1) (a + 1) refl in
    ap (with_place a (Some c)) rest ∙ rw same refl

-- the stretches from place i on begin there or later
pub apart_from : (i j : ℕ) (bs : List ℕ) → j < i → Apart j (stretches_from i bs)
apart_from i j [] h = tt
apart_from i j (b ∷ bs) h = go (code_of b) (stretches_from (i + 1) bs) (apart_from (i + 1) j bs (omega arith))
  where
    go : (o : Option ℕ) (ss : List Stretch) → Apart j ss → Apart j (with_place i o ss)
    go None ss k = k
    go (Some c) [] k = h
    go (Some c) (s ∷ ss) k = under (s.start == i + 1) s ss
      where
        under : (t : Bool) (s : Stretch) (ss : List Stretch) → Apart j
            (cond t (record { start = i; codes = c ∷ s.codes } ∷ ss) (record { start = i; codes = c ∷ [] } ∷ s ∷ ss))
        under true s ss = h
        under false s ss = h

-- closing the open stretch
pub closing : (k a : ℕ) (open_codes : List ℕ) (ss : List Stretch) → 1 ≤ k → Apart (a + length open_codes) ss
    → long_enough k (record { start = a; codes = open_codes } ∷ []) ++ long_enough k ss ≡ long_enough k (joined a open_codes ss)
closing k a [] ss some apart =
    let short : nat_le k 0 ≡ false = grind (arith, nat_tests) in
    rw short refl
closing k a (c ∷ cs) ss some apart =
    sym (filter-append (λ (s : Stretch). nat_le k (length s.codes)) (record { start = a; codes = c ∷ cs } ∷ []) ss)
    ∙ ap (long_enough k) (sym (joined_alone a c cs ss apart))

module _ (k : ℕ) (read : List ℕ) (i : ℕ) (inside : i < length read) where
  here : (o : Option ℕ) → code_of (get_or read i 0) ≡ o → stretches_from i (drop i read) ≡ with_place i o (stretches_from (i + 1) (drop (i + 1) read))
  here o e =
      let split : drop i read ≡ get_or read i 0 ∷ drop (i + 1) read = rw add-one (drop-cons read i 0 inside) in
      ap (stretches_from i) split ∙ ap (λ t. with_place i t (stretches_from (i + 1) (drop (i + 1) read))) e

  pub base_added : (done whole : List Stretch) (open_codes new : List ℕ) (c : ℕ) → code_of (get_or read i 0) ≡ Some c → length open_codes ≤ i → new
      ≡ open_codes ++ c ∷ []
      → done ++ long_enough k (joined (i - length open_codes) open_codes (stretches_from i (drop i read))) ≡ whole
      → done ++ long_enough k (joined (i + 1 - length new) new (stretches_from (i + 1) (drop (i + 1) read))) ≡ whole
  base_added done whole open_codes new c is within more before =
      let rest = stretches_from (i + 1) (drop (i + 1) read) in
      let count : length new ≡ length open_codes + 1 = ap length more ∙ length-append open_codes (c ∷ []) in
      let start : i + 1 - length new ≡ i - length open_codes = omega (arith, count) in
      let place : i - length open_codes + length open_codes ≡ i = omega arith in
      (λ j. done ++ long_enough k (joined (start j) (more j) rest))
      ∙ ap (λ (ss : List Stretch). done ++ long_enough k ss)
      (joined_more (i - length open_codes) open_codes c rest
      ∙ ap (λ p. joined (i - length open_codes) open_codes (with_place p (Some c) rest)) place
      ∙ ap (joined (i - length open_codes) open_codes) (sym (here (Some c) is)))
      ∙ before

  pub stretch_ended : (done whole new : List Stretch) (open_codes : List ℕ) (a : ℕ) → 1 ≤ k → code_of (get_or read i 0) ≡ None
      → length open_codes ≤ i → a ≡ i - length open_codes
      → new ≡ done ++ long_enough k (record { start = a; codes = open_codes } ∷ [])
      → done ++ long_enough k (joined (i - length open_codes) open_codes (stretches_from i (drop i read))) ≡ whole
      → new ++ long_enough k (stretches_from (i + 1) (drop (i + 1) read)) ≡ whole
  stretch_ended done whole new open_codes a some is within at more before =
      let rest = stretches_from (i + 1) (drop (i + 1) read) in
      let place : i ≡ a + length open_codes = omega (arith, at) in
      let apart = subst (λ p. Apart p rest) place (apart_from (i + 1) i (drop (i + 1) read) (omega arith)) in
      ap (λ (t : List Stretch). t ++ long_enough k rest) more ∙ append_assoc done _ (long_enough k rest)
      ∙ ap (λ (t : List Stretch). done ++ t) (closing k a open_codes rest some apart)
      ∙ (λ j. done ++ long_enough k (joined (at j) open_codes (sym (here None is) j))) ∙ before

pub all_ended : (k : ℕ) (read : List ℕ) (i : ℕ) (done whole new : List Stretch) (open_codes : List ℕ) (a : ℕ) → 1 ≤ k → length read ≤ i → a
    ≡ i - length open_codes
    → new ≡ done ++ long_enough k (record { start = a; codes = open_codes } ∷ [])
    → done ++ long_enough k (joined (i - length open_codes) open_codes (stretches_from i (drop i read))) ≡ whole → new ≡ whole
all_ended k read i done whole new open_codes a some end at more before =
    let none : drop i read ≡ [] = drop_of_length-le read end in
    more ∙ ap (λ (t : List Stretch). done ++ t) (sym (append-nil _) ∙ closing k a open_codes [] some tt)
    ∙ (λ j. done ++ long_enough k (joined (at j) open_codes (stretches_from i (sym none j)))) ∙ before

-- ---- the stretch that a text begins with

-- the bases that a text begins with, before the stretches behind the byte that ends them
led_apart : (a : ℕ) (bs : List ℕ) → stretches_from a bs ≡ joined a (leading bs)
    (stretches_from (a + (length (leading bs) + 1)) (drop (length (leading bs) + 1) bs))
led_apart a [] = refl
led_apart a (b ∷ bs) = go (code_of b) (led_apart (a + 1) bs)
  where
    go : (o : Option ℕ) → stretches_from (a + 1) bs ≡ joined (a + 1) (leading bs)
        (stretches_from (a + 1 + (length (leading bs) + 1)) (drop (length (leading bs) + 1) bs))
        → with_place a o (stretches_from (a + 1) bs) ≡ joined a (led_by o (leading bs))
        (stretches_from (a + (length (led_by o (leading bs)) + 1)) (drop (length (led_by o (leading bs)) + 1) (b ∷ bs)))
    go None e = refl
    go (Some c) e =
        let n = length (leading bs) in
        let place : a + 1 + (n + 1) ≡ a + (suc n + 1) = omega arith in
        let more : suc (n + 1) ≡ suc n + 1 = omega arith in
        let rest : drop (n + 1) bs ≡ drop (suc n + 1) (b ∷ bs) = ap (λ m. drop m (b ∷ bs)) more in
        ap (with_place a (Some c)) (e ∙ (λ j. joined (a + 1) (leading bs) (stretches_from (place j) (rest j))))

pub first_apart : (k a : ℕ) (bs : List ℕ) → 1 ≤ k
    → long_enough k (record { start = a; codes = leading bs } ∷ []) ++ long_enough k
    (stretches_from (a + (length (leading bs) + 1)) (drop (length (leading bs) + 1) bs)) ≡ long_enough k (stretches_from a bs)
first_apart k a bs some =
    let n = length (leading bs) in
    closing k a (leading bs) (stretches_from (a + (n + 1)) (drop (n + 1) bs)) some (apart_from (a + (n + 1)) (a + n) (drop (n + 1) bs) (omega arith))
    ∙ ap (long_enough k) (sym (led_apart a bs))

-- ---- the codes of the bases that a text begins with, while they are written

-- codes that are those of the bytes at their places, up to the first byte that is no base
leading_is : (bytes codes : List ℕ) → length codes ≤ length bytes
    → ((i : ℕ) → i < length codes → Some (get_or codes i 0) ≡ code_of (get_or bytes i 0))
    → (length codes < length bytes → code_of (get_or bytes (length codes) 0) ≡ None)
    → codes ≡ leading bytes
leading_is [] [] within each end = refl
leading_is [] (c ∷ codes) within each end = absurd (omega arith)
leading_is (b ∷ bytes) [] within each end = rw (end (omega arith)) refl
leading_is (b ∷ bytes) (c ∷ codes) within each end =
    let rest : codes ≡ leading bytes = leading_is bytes codes (omega arith) (λ i h. each (suc i) (omega arith)) (λ h. end (omega arith)) in
    ap (λ (cs : List ℕ). c ∷ cs) rest ∙ ap (λ o. led_by o (leading bytes)) (each 0 (omega arith))

-- the first n bytes, taken alone, are bases
pub bases_taken : (n : ℕ) (bytes : List ℕ) → AreBases n bytes → AreBases (length (take n bytes)) (take n bytes)
bases_taken n bytes each i inside =
    let below : i < n = omega (arith, length-take n bytes) in
    subst IsBase (sym (get_or-take n bytes i 0 below)) (each i below)

-- the codes of the first n bytes, where those are bases up to the first that is none
pub leading_is_taken : (n : ℕ) (bytes codes : List ℕ) → length codes ≡ n → n ≤ length bytes
    → ((i : ℕ) → i < length (take n bytes) → Some (get_or codes i 0) ≡ code_of (get_or (take n bytes) i 0))
    → (n < length bytes → code_of (get_or bytes n 0) ≡ None)
    → codes ≡ leading bytes
leading_is_taken n bytes codes long within each end =
    leading_is bytes codes (omega arith)
    (λ i h. each i (omega (arith, length-take n bytes)) ∙ ap code_of (get_or-take n bytes i 0 (omega arith)))
    (λ h. ap (λ j. code_of (get_or bytes j 0)) long ∙ end (omega arith))

-- so many bases more
pub bases_more : (n d : ℕ) (bytes more : List ℕ) → more ≡ take (n + d - n) (drop n bytes) → n + d ≤ length bytes → AreBases (length more) more
    → AreBases n bytes → AreBases (n + d) bytes
bases_more n d bytes more is long rest each i inside =
    let many : length more ≡ d = ap length is ∙ length-take (n + d - n) (drop n bytes) ∙ omega (arith, length-drop n bytes) in
    elim (cases_lt i n) [
      | inl h ↦ each i h
      | inr h ↦ let place : n + (i - n) ≡ i = omega arith in subst IsBase (at (i - n) (omega arith) ∙ ap (λ (j : ℕ). get_or bytes j 0) place)
          (rest (i - n) (omega (arith, many)))
    ]
  where
    at : (j : ℕ) → j < d → get_or more j 0 ≡ get_or bytes (n + j) 0
    at j below = ap (λ (xs : List ℕ). get_or xs j 0) is ∙ get_or-take (n + d - n) (drop n bytes) j 0 (omega arith) ∙ get_or-drop n bytes j 0
