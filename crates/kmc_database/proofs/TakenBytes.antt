-- Bytes that are taken from a room.
use Rattle.std.proofs.Common.{◌≡◌, ℕ, ◌+◌, ◌-◌, ◌<◌, ◌≤◌, inl, inr, List, ◌++◌, length, take, drop, Option, sym, ap, subst, ◌∙◌, arith, append_assoc, length-drop}
use Rattle.std.proofs.KnownBytes.{Consumes-trans}
use Rattle.std.proofs.Math.Seq.{take-add}
use Rattle.std.proofs.lemmas.List.{drop-drop, drop_at, length-take-le}
use Rattle.std.specs.Io.KnownBytes.{Consumes, IsAtEnd}
use Rattle.kmc_sum.specs.Numbers.{longest_line}
use Rattle.kmc_sum.specs.Source.{GoesOn, IsEnough, IsRoom, unread}
use Rattle.kmc_sum.specs.declared.source.Room.{Room}

pub length_unread : (r : Room) → IsRoom r → length (unread r) ≡ r.to - r.from
length_unread r is =
    length-take-le (r.to - r.from) (drop r.from r.bytes.items) (omega (arith, length-drop r.from r.bytes.items, is.inside))

-- the first n bytes, and those behind them
pub unread_cut : (from to n : ℕ) (bytes : List ℕ) → from + n ≤ to
    → take (to - from) (drop from bytes) ≡ take n (drop from bytes) ++ take (to - (from + n)) (drop (from + n) bytes)
unread_cut from to n bytes few =
    let rest : to - from ≡ n + (to - (from + n)) = omega (arith, few) in
    ap (λ m. take m (drop from bytes)) rest
    ∙ take-add n (to - (from + n)) (drop from bytes)
    ∙ ap (λ (t : List ℕ). take n (drop from bytes) ++ take (to - (from + n)) t) (drop-drop n from bytes)

-- the bytes behind them
pub unread_behind : (from to n : ℕ) (bytes : List ℕ) → from + n ≤ to → to ≤ length bytes
    → take (to - (from + n)) (drop (from + n) bytes) ≡ drop n (take (to - from) (drop from bytes))
unread_behind from to n bytes few inside =
    let x = take n (drop from bytes) in
    let long : length x ≡ n = length-take-le n (drop from bytes) (omega (arith, few, inside, length-drop from bytes)) in
    sym (ap (drop n) (unread_cut from to n bytes few) ∙ drop_at x (take (to - (from + n)) (drop (from + n) bytes)) n long)

-- the bytes before a place, and those from there on
pub unread_at : (from at to : ℕ) (bytes : List ℕ) → from ≤ at → at ≤ to
    → take (to - from) (drop from bytes) ≡ take (at - from) (drop from bytes) ++ take (to - at) (drop at bytes)
unread_at from at to bytes low high =
    let e : from + (at - from) ≡ at = omega (arith, low) in
    subst (λ (m : ℕ). take (to - from) (drop from bytes) ≡ take (at - from) (drop from bytes) ++ take (to - m) (drop m bytes)) e
    (unread_cut from to (at - from) bytes (omega (arith, low, high)))

-- what a reader went on to, by another name
pub goes_as : (a b : Option (List ℕ)) (xs ys zs : List ℕ) → ys ≡ zs → GoesOn a b xs ys → GoesOn a b xs zs
goes_as a b xs ys zs e p = subst (GoesOn a b xs) e p

-- a reader goes on behind what it gave
pub gave_on : (a b c : Option (List ℕ)) (front rest more : List ℕ) → Consumes a b (front ++ rest) → GoesOn b c rest more → Consumes a c (front ++ more)
gave_on a b c front rest more p q =
    subst (Consumes a c) (append_assoc front rest q.bytes ∙ ap (λ (l : List ℕ). front ++ l) (sym q.are))
    (Consumes-trans a b c (front ++ rest) q.bytes p q.gave)

-- fewer bytes than are enough are all
pub few_are_all : (rest : List ℕ) (now : Option (List ℕ)) → IsEnough rest now → length rest < longest_line → IsAtEnd now
few_are_all rest now enough few = elim enough [ inl many ↦ absurd (omega (arith, many, few)) | inr end ↦ end ]
