-- A call and its answer are the newest entry of the history of the calls and answers with them.
use Rattle.std.proofs.Common.{◌≡◌, List, [], ◌∷◌, ◌++◌, length, reverse, refl, sym, ap, subst, ◌∙◌, arith}
use Rattle.std.proofs.lemmas.List.{reverse-append}
use Rattle.std.specs.Prelude.{zip}
use Rattle.kmc_partcore.specs.declared.event.Event.{Event}
use Rattle.kmc_partcore.specs.declared.event.Reply.{Reply}
use Rattle.kmc_partcore.specs.declared.shape.QueueShape.{QueueShape}
use Rattle.kmc_partcore.specs.History.{Entry, History}
use Rattle.kmc_partcore.specs.Legal.{IsLegal, history_of}
use Rattle.kmc_partcore.specs.CoreState.{CoreState, Holds, MovesOn}

zip_push : {A B : Type 0} (xs : List A) (ys : List B) (x : A) (y : B) → length ys ≡ length xs → zip (xs ++ x ∷ []) (ys ++ y ∷ []) ≡ zip xs ys ++ (x, y) ∷ []
zip_push [] [] x y same = refl
zip_push [] (z ∷ ys) x y same = absurd (omega arith)
zip_push (u ∷ xs) [] x y same = absurd (omega arith)
zip_push (u ∷ xs) (z ∷ ys) x y same = ap (λ t. (u, z) ∷ t) (zip_push xs ys x y (omega arith))

pub history_push : {T : Type 0} (events : List (Event T)) (replies : List (Reply T)) (e : Event T) (r : Reply T) → length replies ≡ length events
    → history_of (events ++ e ∷ []) (replies ++ r ∷ []) ≡ (e, r) ∷ history_of events replies
history_push {T} events replies e r same = let entry : Entry T = (e, r) in ap reverse (zip_push events replies e r same) ∙ reverse-append
    (zip events replies) (entry ∷ [])

pub none_left : {A : Type 0} (xs : List A) → length xs ≡ 0 → xs ≡ []
none_left [] is = refl
none_left (x ∷ xs) is = absurd (omega arith)

-- a call after a legal history that the queue holds
pub answered : {T : Type 0} (q : QueueShape) (s t : CoreState T) (events : List (Event T)) (replies more : List (Reply T)) (e : Event T)
    (r : Reply T) → s.shape ≡ q → length replies ≡ length events → more ≡ replies ++ r ∷ [] → IsLegal q (history_of events replies) → Holds s
    (history_of events replies) → MovesOn s (e, r) t
    → IsLegal q (history_of (events ++ e ∷ []) more) × Holds t (history_of (events ++ e ∷ []) more)
answered {T} q s t events replies more e r shape same pushed legal holds moves = let h : History T = history_of events replies in
    let entry : Entry T = (e, r) in
    let grown : history_of (events ++ e ∷ []) more ≡ entry ∷ h = ap (history_of (events ++ e ∷ [])) pushed ∙ history_push events replies e r same in
    let moved = moves h (subst (λ (z : QueueShape). IsLegal z h) (sym shape) legal) holds in
    (subst (IsLegal q) (sym grown) (subst (λ (z : QueueShape). IsLegal z (entry ∷ h)) shape moved.0), subst (Holds t) (sym grown) moved.1)
