-- Where a slot begins in a list whose words do not fall.
use Rattle.std.proofs.Common.{◌≡◌, ℕ, zero, suc, ◌+◌, ◌/◌, ◌<◌, ◌≤◌, true, false, nat_lt, List, [], ◌∷◌, length, get_or, take, map, sym, ap, subst, ◌∙◌, arith, length-drop}
use Rattle.std.specs.List.{zip}
use Rattle.std.specs.List.Sorted.{IsNonDecreasingBy, IsPartitionPoint}
use Rattle.std.proofs.lemmas.Bool.Decides.{nat_tests}
use Rattle.std.proofs.lemmas.List.{length-map, get_or-map, get_or-drop, get_or-take, length-take-le}
use Rattle.std.proofs.lemmas.List.Elements.{All-from_recursion}
use Rattle.std.proofs.lemmas.Slice.Zip.{get_or-zip}
use Rattle.kmc_lists.specs.Ordered.{Climbs, IsCutOfList}
use Rattle.kmc_lists.specs.Lemmas.Order.{slot_up}
use Rattle.kmc_lists.proofs.Beside.{long_beside}

climbs_at : (ps : List (ℕ × ℕ)) → Climbs ps → (i j : ℕ) (d : ℕ × ℕ) → i ≤ j → j < length ps → (get_or ps i d).0 ≤ (get_or ps j d).0
climbs_at [] h i j d up inside = absurd (omega (arith, inside))
climbs_at (p ∷ ps) h zero zero d up inside = omega arith
climbs_at (p ∷ ps) h zero (suc j) d up inside = All-from_recursion (λ q. p.0 ≤ q.0) ps h.0 j d (omega (arith, inside))
climbs_at (p ∷ ps) h (suc i) zero d up inside = absurd (omega (arith, up))
climbs_at (p ∷ ps) h (suc i) (suc j) d up inside = climbs_at ps h.1 i j d (omega (arith, up)) (omega (arith, inside))

module _ {A : Type 0} (num : A → ℕ) (w : ℕ) (pos : 0 < w) (ws : List A) (cs : List ℕ) (long : length cs ≡ length (map num ws)) where
  abbrev ps : List (ℕ × ℕ)
  ps = zip (map num ws) cs

  long_ps : length ps ≡ length ws
  long_ps = long_beside (map num ws) cs long ∙ length-map ws num

  first_at : (k : ℕ) (d : ℕ × ℕ) (e : A) → k < length ws → (get_or ps k d).0 ≡ num (get_or ws k e)
  first_at k d e inside =
      let here : k < length (map num ws) = omega (arith, inside, length-map ws num) in
      ap (λ (p : ℕ × ℕ). p.0) (get_or-zip (map num ws) cs k d here (omega (arith, here, long))) ∙ get_or-map num ws k e d.0 inside

  pub slots_climb : Climbs ps → IsNonDecreasingBy (λ x. num x / w) ws
  slots_climb h = λ i j e up inside.
      let first : i < length ws = omega (arith, up, inside) in
      let less : (get_or ps i (0, 0)).0 ≤ (get_or ps j (0, 0)).0 = climbs_at ps h i j (0, 0) up (omega (arith, inside, long_ps)) in
      slot_up w pos _ _ (rw (first_at i (0, 0) e first, first_at j (0, 0) e inside) at less)

  some_of : (xs : List A) (k : ℕ) → k < length xs → A
  some_of [] k h = absurd (omega (arith, h))
  some_of (x ∷ xs) k h = x

  pub cut : (slot n : ℕ) → n ≤ length ws → IsPartitionPoint (λ y. nat_lt (num y / w) slot ≡ true) (λ y. nat_lt (num y / w) slot ≡ false) ws n
      → IsCutOfList w slot n ps
  cut slot n inside point = record {
    inside = omega (arith, inside, long_ps);
    before = λ k d low.
        let less : k < n = omega (arith, low, length-take-le n ps (omega (arith, inside, long_ps))) in
        let here : k < length ws = omega (arith, less, inside) in
        let e = some_of ws k here in
        let is = first_at k d e here in
        let yes : nat_lt (num (get_or ws k e) / w) slot ≡ true = point.0 k e (omega arith) less in
        let at : get_or (take n ps) k d ≡ get_or ps k d = get_or-take n ps k d less in
        subst (λ (p : ℕ × ℕ). p.0 / w < slot) (sym at) (rw is (grind (arith, nat_tests)));
    behind = λ k d low.
        let here : n + k < length ws = omega (arith, low, length-drop n ps, long_ps) in
        let e = some_of ws (n + k) here in
        let is = first_at (n + k) d e here in
        let no : nat_lt (num (get_or ws (n + k) e) / w) slot ≡ false = point.1 (n + k) e (omega arith) here in
        subst (λ (p : ℕ × ℕ). slot ≤ p.0 / w) (sym (get_or-drop n ps k d)) (rw is (grind (arith, nat_tests)));
  }
