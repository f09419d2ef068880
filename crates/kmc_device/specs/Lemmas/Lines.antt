-- A line that is put behind the bytes that stand in a buffer.
use Rattle.std.proofs.Common.{◌≡◌, ℕ, ◌+◌, ◌-◌, ◌<◌, ◌≤◌, List, [], ◌∷◌, ◌++◌, length, take, drop, set, refl, sym, ap, ◌∙◌, arith, append_assoc, add-one, length-drop, length-append}
use Rattle.std.proofs.Math.Seq.{take-suc-set, take-append-add}
use Rattle.std.proofs.lemmas.List.{length-take-le, take-take, length-set}
use Rattle.std.proofs.lemmas.Slice.{take-put_mid}
use borrow.Rule.Slice.PartMut.{put_mid}

-- n bytes are put at a place, and m of them are read back with what stands before
pub put_then_take : (room out : List ℕ) (at k n : ℕ) → at ≤ length room → length out ≡ n → k ≤ n → take (at + k) (put_mid at n room out)
    ≡ take at room ++ take k out
put_then_take room out at k n within long less =
    let before : length (take at room) ≡ at = length-take-le at room within in
    let count : at + length out ≡ at + length out = refl in
    let room_for : at + k ≤ at + length out = omega (arith, long, less) in
    sym (take-take (at + k) (at + length out) (put_mid at n room out) room_for)
    ∙ ap (take (at + k)) (take-put_mid at n room out (at + length out) refl within)
    ∙ ap (λ m. take (m + k) (take at room ++ out)) (sym before)
    ∙ take-append-add (take at room) out k

-- one byte more
put_byte : (s : List ℕ) (t b : ℕ) → t < length s → take (t + 1) (set s t b) ≡ take t s ++ b ∷ []
put_byte s t b inside = rw add-one (take-suc-set s t b inside)

pub length_put_mid : (xs ys : List ℕ) (a k : ℕ) → a + k ≤ length xs → length ys ≡ k → length (put_mid a k xs ys) ≡ length xs
length_put_mid xs ys a k within long =
    let rest = drop k (drop a xs) in
    length-append (take a xs) (ys ++ rest) ∙ omega (
      arith,
      length-append ys rest,
      length-take-le a xs (omega arith),
      length-drop k (drop a xs),
      length-drop a xs,
      long,
      within,
    )

module _ (room out digits : List ℕ) (at k : ℕ) (within : at + k + length digits + 2 ≤ length room) (long : length out ≡ length room - at) where
  abbrev pub lettered : List ℕ
  lettered = put_mid at (length room - at) room out

  abbrev pub tabbed : List ℕ
  tabbed = set lettered (at + k) 9

  abbrev pub end : ℕ
  end = at + k + 1 + length digits

  abbrev pub counted : List ℕ
  counted = put_mid (at + k + 1) (end - (at + k + 1)) tabbed digits

  length_lettered : length lettered ≡ length room
  length_lettered = length_put_mid room out at (length room - at) (omega arith) long

  length_tabbed : length tabbed ≡ length room
  length_tabbed = length-set lettered (at + k) 9 ∙ length_lettered

  length_counted : length counted ≡ length room
  length_counted = length_put_mid tabbed digits (at + k + 1) (end - (at + k + 1)) (omega (arith, length_tabbed)) (omega arith) ∙ length_tabbed

  pub line_made : take (end + 1) (set counted end 10) ≡ take at room ++ (take k out ++ (9 ∷ digits) ++ 10 ∷ [])
  line_made =
      let letters = take k out in
      let first : take (at + k) lettered ≡ take at room ++ letters = put_then_take room out at k (length room - at) (omega arith) long (omega (arith, long)) in
      let second : take (at + k + 1) tabbed ≡ (take at room ++ letters) ++ 9 ∷ [] =
      put_byte lettered (at + k) 9 (omega (arith, length_lettered)) ∙ ap (λ (t : List ℕ). t ++ 9 ∷ []) first in
      let third : take end counted ≡ ((take at room ++ letters) ++ 9 ∷ []) ++ digits =
      take-put_mid (at + k + 1) (end - (at + k + 1)) tabbed digits end refl (omega (arith, length_tabbed)) ∙ ap (λ (t : List ℕ). t ++ digits) second in
      put_byte counted end 10 (omega (arith, length_counted)) ∙ ap (λ (t : List ℕ). t ++ 10 ∷ []) third ∙ joined (take at room) letters digits
    where
      joined : (front letters digits : List ℕ) → (((front ++ letters) ++ 9 ∷ []) ++ digits) ++ 10 ∷ [] ≡ front ++ (letters ++ (9 ∷ digits) ++ 10 ∷ [])
      joined front letters digits =
          append_assoc ((front ++ letters) ++ 9 ∷ []) digits (10 ∷ [])
          ∙ append_assoc (front ++ letters) (9 ∷ []) (digits ++ 10 ∷ [])
          ∙ append_assoc front letters (9 ∷ (digits ++ 10 ∷ []))
          ∙ ap (λ (t : List ℕ). front ++ t) (sym (append_assoc letters (9 ∷ digits) (10 ∷ [])))
