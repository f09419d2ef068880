-- A file whose next bytes are held.
use Rattle.std.proofs.Common.{◌≡◌, ℕ, ◌+◌, ◌-◌, ◌≤◌, List, ◌++◌, length, take, drop, Option, Some, None, refl, sym, ap, subst, ◌∙◌, arith, append_assoc, length-drop}
use Rattle.std.specs.Io.KnownBytes.{Consumes, IsAtEnd, Keeps, prepend_known}
use Rattle.std.proofs.lemmas.List.{append-nil, drop-append-le}
use Rattle.std.proofs.lemmas.List.Edits.{take-paste}
use Rattle.std.specs.List.{copy_within}
use Rattle.kmc_device.specs.Lemmas.Lines.{put_then_take}
use borrow.Rule.Slice.PartMut.{put_mid}
use Rattle.kmc_database.specs.LeftOf.{StaysKnown}

-- the value of an option that is there
pub some_same : {A : Type 0} (x y : A) → Some x ≡ Some y → x ≡ y
some_same x y e = (cc)

-- what is left begins with what is held
pub held_first : (held : List ℕ) (known : Option (List ℕ)) (bytes : List ℕ) → prepend_known held known ≡ Some bytes
    → (rest : List ℕ) × (known ≡ Some rest) × (held ++ rest ≡ bytes)
held_first held None bytes e = absurd (cc)
held_first held (Some rest) bytes e = (rest, refl, some_same (held ++ rest) bytes e)

-- more is held
pub held_more : (held more : List ℕ) (old new : Option (List ℕ)) → Consumes old new more
    → StaysKnown (prepend_known held old) (prepend_known (held ++ more) new)
held_more held more None new gave bytes e = absurd (cc)
held_more held more (Some xs) None gave bytes e = absurd gave
held_more held more (Some xs) (Some ys) gave bytes e =
    ap Some (append_assoc held more ys ∙ ap (λ (t : List ℕ). held ++ t) (sym gave) ∙ some_same (held ++ xs) bytes e)

-- nothing came
pub held_kept : (held : List ℕ) (old new : Option (List ℕ)) → Keeps old new → StaysKnown (prepend_known held old) (prepend_known held new)
held_kept held None new kept bytes e = absurd (cc)
held_kept held (Some xs) None kept bytes e = absurd kept
held_kept held (Some xs) (Some ys) kept bytes e = ap (λ (t : List ℕ). Some (held ++ t)) kept ∙ e

-- nothing is left but what is held
pub held_all : (held : List ℕ) (known : Option (List ℕ)) (bytes : List ℕ) → IsAtEnd known → prepend_known held known ≡ Some bytes → bytes ≡ held
held_all held None bytes end e = absurd (cc)
held_all held (Some rest) bytes end e =
    sym (some_same (held ++ rest) bytes e) ∙ ap (λ (t : List ℕ). held ++ t) end ∙ append-nil held

-- some of it is taken
pub held_less : (held left : List ℕ) (n : ℕ) (known : Option (List ℕ)) (bytes : List ℕ) → n ≤ length held → left ≡ drop n held
    → prepend_known held known ≡ Some bytes → prepend_known left known ≡ Some (drop n bytes)
held_less held left n None bytes few is e = absurd (cc)
held_less held left n (Some rest) bytes few is e =
    ap Some (ap (λ (t : List ℕ). t ++ rest) is ∙ sym (drop-append-le n held rest few) ∙ ap (drop n) (some_same (held ++ rest) bytes e))

-- ---- a room that is read into behind what stands at its front

module _ (room out : List ℕ) (from to size : ℕ) (front : from ≡ 0) (inside : to ≤ length room) (long : length out ≡ size - to) where
  -- what a room holds, with the bytes that came behind it
  abbrev here : ℕ → List ℕ → List ℕ
  here end bytes = take (end - from) (drop from bytes)

  at_front : (end : ℕ) (bytes : List ℕ) → here end bytes ≡ take end bytes
  at_front end bytes =
      let none : end - 0 ≡ end = omega arith in
      subst (λ (f : ℕ). take (end - f) (drop f bytes) ≡ take end bytes) (sym front) (ap (λ m. take m bytes) none)

  -- n bytes came
  pub filled_more : (n : ℕ) (old new : Option (List ℕ)) → n ≤ size - to → Consumes old new (take n out)
      → StaysKnown (prepend_known (take (to - from) (drop from room)) old)
      (prepend_known (take (to + n - from) (drop from (put_mid to (size - to) room out))) new)
  filled_more n old new few gave =
      subst (λ (t : List ℕ). StaysKnown (prepend_known (take (to - from) (drop from room)) old) (prepend_known t new))
      (ap (λ (t : List ℕ). t ++ take n out) (at_front to room) ∙ sym (put_then_take room out to n (size - to) inside long few)
      ∙ sym (at_front (to + n) (put_mid to (size - to) room out)))
      (held_more (take (to - from) (drop from room)) (take n out) old new gave)

  front_same : take (to - from) (drop from (put_mid to (size - to) room out)) ≡ take (to - from) (drop from room)
  front_same =
      let none : to + 0 ≡ to = omega arith in
      at_front to (put_mid to (size - to) room out)
      ∙ ap (λ m. take m (put_mid to (size - to) room out)) (sym none)
      ∙ put_then_take room out to 0 (size - to) inside long (omega arith)
      ∙ append-nil (take to room)
      ∙ sym (at_front to room)

  -- none came
  pub filled_same : (old new : Option (List ℕ)) → Keeps old new
      → StaysKnown (prepend_known (take (to - from) (drop from room)) old)
      (prepend_known (take (to - from) (drop from (put_mid to (size - to) room out))) new)
  filled_same old new kept =
      subst (λ (t : List ℕ). StaysKnown (prepend_known (take (to - from) (drop from room)) old) (prepend_known t new)) (sym front_same)
      (held_kept (take (to - from) (drop from room)) old new kept)

  pub filled_none : (n : ℕ) (old new : Option (List ℕ)) → n ≡ 0 → Consumes old new (take n out)
      → StaysKnown (prepend_known (take (to - from) (drop from room)) old)
      (prepend_known (take (to - from) (drop from (put_mid to (size - to) room out))) new)
  filled_none n old new none gave =
      let same : to + n ≡ to = omega (arith, none) in
      subst (λ (m : ℕ). StaysKnown (prepend_known (take (to - from) (drop from room)) old)
      (prepend_known (take (m - from) (drop from (put_mid to (size - to) room out))) new)) same
      (filled_more n old new (omega (arith, none)) gave)

-- the bytes that are held, moved to the front
pub moved_front : (room : List ℕ) (from to : ℕ) → from ≤ to → to ≤ length room
    → take (to - from - 0) (drop 0 (copy_within room from to 0)) ≡ take (to - from) (drop from room)
moved_front room from to order inside =
    let none : to - from - 0 ≡ 0 + (to - from) = omega arith in
    ap (λ m. take m (copy_within room from to 0)) none
    ∙ take-paste room 0 (drop from room) (to - from) (omega arith) (omega (arith, inside, length-drop from room))
