-- Rows in one buffer, and where they end.
use Rattle.std.proofs.Common.{◌≡◌, ℕ, zero, suc, ◌+◌, ◌-◌, ◌<◌, ◌≤◌, List, [], ◌∷◌, ◌++◌, length, take, drop, get_or, refl, sym, ap, ◌∙◌, arith, length-append, append_assoc, append-nil, add-zero}
use Rattle.std.proofs.lemmas.List.{take_at, drop_at}
use Rattle.std.specs.List.{concat}
use Rattle.kmc_reads.specs.Rows.{rows_from, ends_from, AreEnds}

pub concat_snoc : (rows : List (List ℕ)) (r : List ℕ) → concat (rows ++ r ∷ []) ≡ concat rows ++ r
concat_snoc [] r = append-nil r
concat_snoc (row ∷ rows) r = ap (λ t. row ++ t) (concat_snoc rows r) ∙ sym (append_assoc row (concat rows) r)

pub ends_snoc : (n : ℕ) (rows : List (List ℕ)) (r : List ℕ) → ends_from n (rows ++ r ∷ []) ≡ ends_from n rows ++ (n + length (concat rows) + length r) ∷ []
ends_snoc n [] r = ap (λ t. (t + length r) ∷ []) (sym (add-zero n))
ends_snoc n (row ∷ rows) r =
    let e : n + length row + length (concat rows) + length r ≡ n + length (concat (row ∷ rows)) + length r = grind (arith, length-append row (concat rows)) in
    ap (λ t. (n + length row) ∷ t) (ends_snoc (n + length row) rows r ∙ ap (λ t. ends_from (n + length row) rows ++ t ∷ []) e)

-- rows are found again by their ends, whatever stands behind them
pub rows_same : (n : ℕ) (rows : List (List ℕ)) (more : List ℕ) → rows_from n (ends_from n rows) (concat rows ++ more) ≡ rows
rows_same n [] more = refl
rows_same n (r ∷ rows) more =
    let e : n + length r - n ≡ length r = omega arith in
    let a : (r ++ concat rows) ++ more ≡ r ++ (concat rows ++ more) = append_assoc r (concat rows) more in
    (λ i. take (e i) (a i) ∷ rows_from (n + length r) (ends_from (n + length r) rows) (drop (e i) (a i)))
    ∙ (λ i. take_at r (concat rows ++ more) (length r) refl i ∷ rows_from (n + length r) (ends_from (n + length r) rows)
    (drop_at r (concat rows ++ more) (length r) refl i))
    ∙ ap (λ t. r ∷ t) (rows_same (n + length r) rows more)

-- a buffer that has the rows has their ends within
pub ends_rise : (n : ℕ) (rows : List (List ℕ)) (m : ℕ) → n + length (concat rows) ≤ m → AreEnds n (ends_from n rows) m
ends_rise n [] m h = omega arith
ends_rise n (row ∷ rows) m h = (omega arith, ends_rise (n + length row) rows m (omega (arith, length-append row (concat rows))))

-- a row lies between the end before it and its own
pub rows_many : (n : ℕ) (ends bytes : List ℕ) → length (rows_from n ends bytes) ≡ length ends
rows_many n [] bytes = refl
rows_many n (e ∷ ends) bytes = ap suc (rows_many e ends (drop (e - n) bytes))

pub ends_order : (n : ℕ) (ends : List ℕ) (m i : ℕ) → AreEnds n ends m → i < length ends
    → (n ≤ get_or (n ∷ ends) i 0) × (get_or (n ∷ ends) i 0 ≤ get_or ends i 0) × (get_or ends i 0 ≤ m)
ends_order n [] m i rise less = absurd (omega arith)
ends_order n (e ∷ ends) m zero rise less = (omega arith, rise.0, last e ends rise.1)
  where
    last : (k : ℕ) (es : List ℕ) → AreEnds k es m → k ≤ m
    last k [] h = h
    last k (x ∷ es) h = let rest = last x es h.1 in omega (arith, h.0, rest)
ends_order n (e ∷ ends) m (suc i) rise less =
    let rest = ends_order e ends m i rise.1 (omega arith) in
    (omega (arith, rest.0, rise.0), rest.1, rest.2)

drop-drop : (a b : ℕ) (xs : List ℕ) → drop a (drop b xs) ≡ drop (b + a) xs
drop-drop a zero xs = let e : a ≡ 0 + a = omega arith in ap (λ (n : ℕ). drop n xs) e
drop-drop zero (suc b) [] = let e : suc b ≡ suc b + 0 = omega arith in ap (λ (n : ℕ). drop {A = ℕ} n []) e
drop-drop (suc a) (suc b) [] = let e : suc b + suc a ≡ suc (b + suc a) = omega arith in ap (λ (n : ℕ). drop {A = ℕ} n []) (sym e)
drop-drop a (suc b) (x ∷ xs) =
    let e : suc b + a ≡ suc (b + a) = omega arith in
    drop-drop a b xs ∙ ap (λ (n : ℕ). drop n (x ∷ xs)) (sym e)

pub row_at : (n : ℕ) (ends bytes : List ℕ) (m i : ℕ) → AreEnds n ends m → i < length ends
    → get_or (rows_from n ends bytes) i [] ≡ take (get_or ends i 0 - get_or (n ∷ ends) i 0) (drop (get_or (n ∷ ends) i 0 - n) bytes)
row_at n [] bytes m i rise less = absurd (omega arith)
row_at n (e ∷ ends) bytes m zero rise less =
    let none : n - n ≡ 0 = omega arith in
    ap (λ k. take (e - n) (drop k bytes)) (sym none)
row_at n (e ∷ ends) bytes m (suc i) rise less =
    let order = ends_order e ends m i rise.1 (omega arith) in
    let from = get_or (e ∷ ends) i 0 in
    let far : e - n + (from - e) ≡ from - n = omega (arith, order.0, rise.0) in
    row_at e ends (drop (e - n) bytes) m i rise.1 (omega arith)
    ∙ ap (take (get_or ends i 0 - from)) (drop-drop (from - e) (e - n) bytes ∙ ap (λ k. drop k bytes) far)

pub before_is : (ends : List ℕ) (i : ℕ) → 0 < i → get_or (0 ∷ ends) i 0 ≡ get_or ends (i - 1) 0
before_is ends zero some = absurd (omega arith)
before_is ends (suc i) some = let e : i ≡ suc i - 1 = omega arith in ap (λ (n : ℕ). get_or ends n 0) e

pub ends_many : (n : ℕ) (rows : List (List ℕ)) → length (ends_from n rows) ≡ length rows
ends_many n [] = refl
ends_many n (row ∷ rows) = ap suc (ends_many (n + length row) rows)

pub concat_append : (xs ys : List (List ℕ)) → concat (xs ++ ys) ≡ concat xs ++ concat ys
concat_append [] ys = refl
concat_append (x ∷ xs) ys = ap (λ t. x ++ t) (concat_append xs ys) ∙ sym (append_assoc x (concat xs) (concat ys))
