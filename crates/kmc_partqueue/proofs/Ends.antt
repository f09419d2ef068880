-- Whether each lane was seen at its end.
use Rattle.std.proofs.Common.{◌≡◌, ℕ, zero, suc, ◌<◌, ◌≢◌, List, [], ◌∷◌, ◌++◌, length, refl, sym, ap, ◌∙◌, arith, length-append}
use mathlib.Core.Logic.{dite}
use native.Mathlib.Decide.{ℕ_discrete}
use Rattle.std.specs.Prelude.{Some, slice_get}
use Rattle.kmc_partqueue.specs.declared.views.Ending.{Ending}
use Rattle.kmc_partqueue.proofs.Members.{nobody}
use Rattle.kmc_partqueue.specs.Ends.{SawEnd, SawAllEnds, AreSeenTotals}

-- the totals that were seen are those of all lanes
pub seen_all : (n : ℕ) (ends : List Ending) (totals : List ℕ) → AreSeenTotals n ends totals → SawAllEnds n ends
seen_all n ends totals are w near = let t = are.1 w near in (t.0, t.1)

not_first : (e : Ending) (ends : List Ending) (w t : ℕ) → e.writer ≢ w → SawEnd (e ∷ ends) w t → SawEnd ends w t
not_first e ends w t other (zero, at) =
    let o : Ending = record { writer = w; total = t } in let at' : Some e ≡ Some o = at in let is : e ≡ o = cc in
    absurd (other (ap (λ (z : Ending). z.writer) is))
not_first e ends w t other (suc i, at) = (i, at)

one_end : {A : Type 0} (ends : List Ending) (w : ℕ) → ((t : ℕ) → SawEnd ends w t → A) → (((t : ℕ) → ¬ SawEnd ends w t) → A) → A
one_end [] w seen unseen = unseen (λ t p. nobody _ p)
one_end (e ∷ ends) w seen unseen =
    dite (ℕ_discrete e.writer w) (λ is. seen e.total (0, λ j. Some record { writer = is j; total = e.total }))
    (λ other. one_end ends w (λ t p. seen t (suc p.0, p.1)) (λ none. unseen (λ t p. none t (not_first e ends w t other p))))

get_left : (ts : List ℕ) (x w : ℕ) → w < length ts → slice_get (ts ++ x ∷ []) w ≡ slice_get ts w
get_left [] x w lt = absurd (omega arith)
get_left (t ∷ ts) x zero lt = refl
get_left (t ∷ ts) x (suc w) lt = get_left ts x w (omega arith)

get_last : (ts : List ℕ) (x w : ℕ) → w ≡ length ts → slice_get (ts ++ x ∷ []) w ≡ Some x
get_last [] x zero e = refl
get_last [] x (suc w) e = absurd (omega arith)
get_last (t ∷ ts) x zero e = absurd (omega arith)
get_last (t ∷ ts) x (suc w) e = get_last ts x w (omega arith)

-- the totals of one lane more
one_more : (n : ℕ) (ends : List Ending) (totals : List ℕ) (t : ℕ) → AreSeenTotals n ends totals → SawEnd ends n t
    → AreSeenTotals (suc n) ends (totals ++ t ∷ [])
one_more n ends totals t are seen = let long : length totals ≡ n = are.0 in let long' = length-append totals (t ∷ []) in (
  omega arith,
  λ w near. dite (ℕ_discrete w n)
      (λ (is : w ≡ n). (t, (seen.0, seen.1 ∙ (λ j. Some record { writer = sym is j; total = t })), get_last totals t w (omega arith)))
      (λ other. let a = are.1 w (omega arith) in (a.0, a.1, get_left totals t w (omega arith) ∙ a.2)),
)

-- all lanes were seen, with these totals, or they were not
pub all_ends : {A : Type 0} (n : ℕ) (ends : List Ending) → ((totals : List ℕ) → AreSeenTotals n ends totals → A)
    → (¬ SawAllEnds n ends → A) → A
all_ends zero ends seen unseen = seen [] (refl, λ w near. absurd (omega arith))
all_ends (suc n) ends seen unseen = one_end ends n
    (λ t p. all_ends n ends (λ totals are. seen (totals ++ t ∷ []) (one_more n ends totals t are p))
    (λ few. unseen (λ all. few (λ w near. all w (omega arith)))))
    (λ none. unseen (λ all. let a = all n (omega arith) in none a.0 a.1))
