-- Each part that was got is shared out among the parts that were put: all of it falls to the one part that it is.
-- So what the parts that were got add up to is what the parts that were put add up to.
use Rattle.std.proofs.Common.{◌≡◌, ℕ, zero, suc, ◌+◌, ◌*◌, ◌<◌, ◌≤◌, ◌≢◌, List, [], ◌∷◌, length, refl, sym, ap, ap₂, ◌∙◌, subst, arith, zero-mul}
use mathlib.Core.Option.{some, some-injective, some-ne-none}
use lib.ListN.{get_elem?}
use Rattle.std.specs.Prelude.{Some, slice_get}
use Rattle.kmc_partcore.specs.declared.event.Received.{Received}
use Rattle.kmc_partqueue.specs.Counts.{Each, Among, total_of, same}
use Rattle.kmc_partqueue.specs.Rule.{is_entry, Rises}
use Rattle.kmc_partqueue.specs.Seats.{WriterState, ReaderState}
use Rattle.kmc_partqueue.specs.Gathered.{in_list, IsGathered}
use Rattle.kmc_partqueue.specs.Laws.{GatheredLaw}
use Rattle.kmc_partqueue.specs.Lemmas.Sums.{same_refl, same_ne, total_two, each_map}
use Rattle.kmc_partqueue.proofs.Final.{each_at, total_only}
use Rattle.kmc_partqueue.proofs.DoubleSums.{same_terms, over, over_same, over_zero, over_added, over_scaled, over_exchanged, over_is_sum}

at_place : {A : Type 0} (l : List A) (i : ℕ) (x : A) → slice_get l i ≡ Some x → get_elem? l i ≡ some x
at_place [] i x e = cc
at_place (y ∷ l) zero x e = let e' : Some y ≡ Some x = e in let is : y ≡ x = cc in ap some is
at_place (y ∷ l) (suc i) x e = at_place l i x e

module _ {T : Type 0} (e : Received T) where
  is_part : (w n : ℕ) → e.writer ≡ w → e.number ≡ n → is_entry w n e ≡ 1
  is_part w n writer number = ap₂ (λ (x y : ℕ). x * y) (same_refl e.writer w writer) (same_refl e.number n number)

  of_other_writer : (w n : ℕ) → e.writer ≢ w → is_entry w n e ≡ 0
  of_other_writer w n other = ap (λ (x : ℕ). x * same e.number n) (same_ne e.writer w other) ∙ zero-mul (same e.number n)

  of_other_number : (w n : ℕ) → e.number ≢ n → is_entry w n e ≡ 0
  of_other_number w n other =
      let a : ℕ = same e.writer w in let none : a * 0 ≡ 0 = omega arith in
      ap (λ (x : ℕ). a * x) (same_ne e.number n other) ∙ none

module _ {T : Type 0} (F : T → ℕ) where
  -- what of e falls to the parts l, which writer w put, the first of them as its part i
  abbrev share : Received T → ℕ → ℕ → List T → ℕ
  share e w i [] = 0
  share e w i (x ∷ l) = is_entry w i e * F x + share e w (suc i) l

  no_share : (e : Received T) (w i : ℕ) (l : List T) → ((n : ℕ) → i ≤ n → is_entry w n e ≡ 0) → share e w i l ≡ 0
  no_share e w i [] none = refl
  no_share e w i (x ∷ l) none =
      let first : ℕ = is_entry w i e * F x in
      let first_is : first ≡ 0 = ap (λ (n : ℕ). n * F x) (none i (omega arith)) ∙ zero-mul (F x) in
      let rest = no_share e w (suc i) l (λ n le. none n (omega arith)) in omega arith

  whole_share : (e : Received T) (w i j : ℕ) (l : List T) → e.writer ≡ w → e.number ≡ i + j
      → get_elem? l j ≡ some e.item → share e w i l ≡ F e.item
  whole_share e w i j [] writer number at = absurd (some-ne-none e.item (sym at))
  whole_share e w i zero (x ∷ l) writer number at =
      let first : ℕ = is_entry w i e * F x in
      let first_is : first ≡ 1 * F x = ap (λ (n : ℕ). n * F x) (is_part e w i writer (omega arith)) in
      let item : F x ≡ F e.item = ap F (some-injective x e.item at) in
      let rest = no_share e w (suc i) l (λ n le. of_other_number e w n (λ is. omega arith)) in omega arith
  whole_share e w i (suc j) (x ∷ l) writer number at =
      let first : ℕ = is_entry w i e * F x in
      let first_is : first ≡ 0 = ap (λ (n : ℕ). n * F x) (of_other_number e w i (λ is. omega arith)) ∙ zero-mul (F x) in
      let rest = whole_share e w (suc i) j l writer (omega arith) at in omega arith

  module _ (writers : List (WriterState T)) (readers : List (ReaderState T)) where
    abbrev Apart : WriterState T → Type 0
    Apart s = total_of (λ (t : WriterState T). same t.number s.number) writers ≡ 1

    abbrev GotOnce : WriterState T → Type 0
    GotOnce s = (n : ℕ) → n < length s.sent → total_of (in_list s.number n) readers ≡ 1

    abbrev Stands : Received T → Type 0
    Stands e = (s : WriterState T) × Among s writers × (s.number ≡ e.writer) × (get_elem? s.sent e.number ≡ some e.item)

    abbrev share_of : Received T → WriterState T → ℕ
    share_of e s = share e s.number 0 s.sent

    abbrev over_got : (Received T → ℕ) → ℕ
    over_got = over (λ (r : ReaderState T). r.got) readers

    -- a writer at another place has another number
    other_number : (i j : ℕ) (s t : WriterState T) → Apart s → j ≢ i → get_elem? writers i ≡ some s
        → get_elem? writers j ≡ some t → s.number ≢ t.number
    other_number i j s t apart other at there is =
        let f : WriterState T → ℕ = (λ x. same x.number s.number) in
        let two = total_two f writers j i t s other there at in
        let a : ℕ = f s in let b : ℕ = f t in let a_is : a ≡ 1 = same_refl s.number s.number refl in
        let b_is : b ≡ 1 = same_refl t.number s.number (sym is) in
        let two' : b + a ≤ 1 = subst (λ (n : ℕ). b + a ≤ n) apart two in omega arith

    -- what was got falls to its writer, and to no other
    shared_out : Each Apart writers → (e : Received T) → Stands e → total_of (share_of e) writers ≡ F e.item
    shared_out apart e (s, (i, among), writer, item) =
        total_only (share_of e) writers i s at (λ j t other there. no_share e t.number 0 t.sent
        (λ n le. of_other_writer e t.number n (λ is. other_number i j s t (each_at Apart writers apart i s among) other at there (writer ∙ is))))
        ∙ whole_share e s.number 0 e.number s.sent (sym writer) (omega arith) item
      where
        at : get_elem? writers i ≡ some s
        at = at_place writers i s among

    -- to each part that a writer put falls as much as it counts
    falls_to : (w i : ℕ) (l : List T) → ((n : ℕ) → i ≤ n → n < i + length l → over_got (is_entry w n) ≡ 1)
        → over_got (λ (e : Received T). share e w i l) ≡ total_of F l
    falls_to w i [] once = over_zero (λ (r : ReaderState T). r.got) readers
    falls_to w i (x ∷ l) once =
        over_added (λ (r : ReaderState T). r.got) readers (λ (e : Received T). is_entry w i e * F x) (λ (e : Received T). share e w (suc i) l)
        ∙ ap₂ (λ (m n : ℕ). m + n) (over_scaled (λ (r : ReaderState T). r.got) readers (is_entry w i) (F x) ∙ ap (λ (n : ℕ). n * F x)
        (once i (omega arith) (omega arith)) ∙ single)
        (falls_to w (suc i) l (λ n le lt. once n (omega arith) (omega arith)))
      where
        single : 1 * F x ≡ F x
        single = omega arith

    same_total : IsGathered writers readers → Each Apart writers
        → over_got (λ (e : Received T). F e.item) ≡ over (λ (s : WriterState T). s.sent) writers F
    same_total all apart =
        sym (over_same (λ (r : ReaderState T). r.got) readers (λ (e : Received T). total_of (share_of e) writers) (λ (e : Received T). F e.item) each_got)
        ∙ over_exchanged (λ (r : ReaderState T). r.got) readers share_of writers
        ∙ same_terms (λ (s : WriterState T). over_got (λ (e : Received T). share_of e s)) (λ (s : WriterState T). total_of F s.sent) writers each_sent
      where
        each_got : Each (λ (r : ReaderState T). Each (λ (e : Received T). total_of (share_of e) writers ≡ F e.item) r.got) readers
        each_got =
            each_map (λ (r : ReaderState T). Each Stands r.got × Rises r.got)
            (λ (r : ReaderState T). Each (λ (e : Received T). total_of (share_of e) writers ≡ F e.item) r.got)
            (λ r p. each_map Stands (λ (e : Received T). total_of (share_of e) writers ≡ F e.item) (shared_out apart) r.got p.0) readers all.others

        each_sent : Each (λ (s : WriterState T). over_got (λ (e : Received T). share_of e s) ≡ total_of F s.sent) writers
        each_sent =
            each_map GotOnce (λ (s : WriterState T). over_got (λ (e : Received T). share_of e s) ≡ total_of F s.sent)
            (λ s once. falls_to s.number 0 s.sent (λ n le lt. once n (omega arith))) writers all.once

pub gathered_law : (T : Type 0) → GatheredLaw T
gathered_law T F writers readers all apart =
    sym (over_is_sum (λ (r : ReaderState T). r.got) readers (λ (e : Received T). F e.item)) ∙ same_total F writers readers all apart ∙ over_is_sum
    (λ (s : WriterState T). s.sent) writers F
