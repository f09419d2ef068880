-- In a legal history, what has left of each writer is the first of what was accepted.
use Rattle.std.proofs.Common.{◌≡◌, ℕ, zero, suc, ◌+◌, ◌<◌, ◌≤◌, eqb, cond, true, false, List, [], ◌∷◌, ◌++◌, length, take, drop, map, refl, sym, ap, ◌∙◌, subst, arith, length-append, ⊎_elim}
use Rattle.std.proofs.lemmas.List.{append-nil, take-append-le, map-append}
use Rattle.std.proofs.lemmas.Bool.Decides.{eqb_tells}
use Rattle.std.specs.Prelude.{slice_get, Some, Ok}
use Rattle.kmc_partcore.specs.declared.shape.QueueShape.{QueueShape}
use Rattle.kmc_partcore.specs.declared.event.Event.TheVariants as event
use Rattle.kmc_partcore.specs.declared.event.Reply.TheVariants as reply
use Rattle.kmc_partcore.specs.declared.event.Taken.TheVariants.{Got}
use Rattle.kmc_partcore.specs.History.{Entry, History, Leaving, accepted, left, item_accepted, item_left}
use Rattle.kmc_partcore.specs.State.{LiveQueue, state_of, live_of}
use Rattle.kmc_partcore.specs.Legal.{Fits, IsLegal}
use Rattle.kmc_partcore.specs.Laws.{AreNumberedFrom, LeftBeginsAccepted}

module _ {T : Type 0} where
  abbrev item : Leaving T → T
  item x = x.2

  pub record Begins (l : List (Leaving T)) (a : List T) : Type 0 where
    pub items : map (λ (x : Leaving T). x.2) l ≡ take (length l) a
    pub within : length l ≤ length a
    pub numbers : AreNumberedFrom 0 l

  -- what an entry lets leave: nothing, or the next item of its writer, and then it adds none
  data Effect (live : LiveQueue T) (w : ℕ) (added : List T) (leaving : List (Leaving T)) : Type 0 where
    stays : leaving ≡ [] → Effect live w added leaving
    leaves : (x : Leaving T) → leaving ≡ x ∷ [] → added ≡ [] → x.1 ≡ (live w).left_count → slice_get (live w).outstanding_items 0 ≡ Some x.2
        → Effect live w added leaving

  effect : (q : QueueShape) (live : LiveQueue T) (e : Entry T) (w : ℕ) → Fits q live e → Effect live w (item_accepted w e) (item_left w e)
  effect q live (event.Take r, reply.Take (Ok (Got g))) w fits = ⊎_elim
      (λ (t : (eqb g.writer w ≡ true) × (g.writer ≡ w)). leaves (r, g.number, g.item) (ap (λ b. cond b ((r, g.number, g.item) ∷ []) []) t.0) refl
      (fits.2 ∙ ap (λ v. (live v).left_count) t.1) (ap (λ v. slice_get (live v).outstanding_items 0) (sym t.1) ∙ fits.3))
      (λ (f : (eqb g.writer w ≡ false) × _). stays (ap (λ b. cond b ((r, g.number, g.item) ∷ []) []) f.0))
      (eqb_tells g.writer w)
  effect q live e w fits = stays refl

  numbered_push : (n : ℕ) (l : List (Leaving T)) (x : Leaving T) → AreNumberedFrom n l → x.1 ≡ n + length l → AreNumberedFrom n (l ++ x ∷ [])
  numbered_push n [] x ok is = ((let g : x.1 ≡ n = omega arith in g), tt)
  numbered_push n (y ∷ l) x ok is = (ok.0, numbered_push (n + 1) l x ok.1 (omega arith))

  -- the item after the first n, and the first n with it
  take_next : (n : ℕ) (a : List T) (x : T) → slice_get (drop n a) 0 ≡ Some x → (take (n + 1) a ≡ take n a ++ x ∷ []) × (n < length a)
  take_next zero [] x is = cc
  take_next (suc n) [] x is = cc
  take_next zero (y ∷ a) x is = let e : y ≡ x = cc in (ap (λ z. z ∷ []) e, omega arith)
  take_next (suc n) (y ∷ a) x is = let t = take_next n a x is in (
    subst (λ k. take k (y ∷ a) ≡ y ∷ (take n a ++ x ∷ []))
        (let e : suc (n + 1) ≡ suc n + 1 = omega arith in e) (ap (λ z. y ∷ z) t.0),
    (let lt = t.1 in omega arith),
  )

  grows : (l : List (Leaving T)) (a added : List T) → Begins l a → Begins l (a ++ added)
  grows l a added b = record {
    items = b.items ∙ sym (take-append-le (length l) a added b.within);
    within = (let e = length-append a added in let w = b.within in omega arith);
    numbers = b.numbers;
  }

  next : (l : List (Leaving T)) (a : List T) (x : Leaving T) → Begins l a → x.1 ≡ length l → slice_get (drop (length l) a) 0 ≡ Some x.2 → Begins (l ++ x ∷ []) a
  next l a x b number is = let t = take_next (length l) a x.2 is in let e = length-append l (x ∷ []) in record {
    items = map-append (λ (y : Leaving T). y.2) l (x ∷ []) ∙ ap (λ z. z ++ x.2 ∷ []) b.items ∙ sym t.0 ∙ ap (λ n. take n a) (sym e);
    within = (let lt = t.1 in omega arith);
    numbers = numbered_push 0 l x b.numbers (omega arith);
  }

  after : (live : LiveQueue T) (w : ℕ) (l : List (Leaving T)) (a added : List T) (leaving : List (Leaving T)) → Begins l a → (live w).left_count
      ≡ length l → (live w).outstanding_items ≡ drop (length l) a → Effect live w added leaving → Begins (l ++ leaving) (a ++ added)
  after live w l a added leaving b count items (stays none) = subst (λ z. Begins z (a ++ added)) (sym (append-nil l) ∙ ap (λ z. l ++ z) (sym none))
      (grows l a added b)
  after live w l a added leaving b count items (leaves x one none number is) = subst (λ z. Begins (l ++ z) (a ++ added)) (sym one)
      (subst (λ z. Begins (l ++ x ∷ []) z) (sym (append-nil a) ∙ ap (λ z. a ++ z) (sym none))
      (next l a x b (number ∙ count) (ap (λ z. slice_get z 0) (sym items) ∙ is)))

  pub begins : (q : QueueShape) (h : History T) → IsLegal q h → (w : ℕ) → Begins (left w h) (accepted w h)
  begins q [] legal w = record { items = refl; within = omega arith; numbers = tt }
  begins q (e ∷ h) legal w = after (live_of (state_of h)) w (left w h) (accepted w h) (item_accepted w e) (item_left w e)
      (begins q h legal.1 w) refl refl (effect q (live_of (state_of h)) e w legal.0)

pub left_begins : (T : Type 0) → LeftBeginsAccepted T
left_begins T q h legal w = let b = begins q h legal w in (b.items, b.numbers)
