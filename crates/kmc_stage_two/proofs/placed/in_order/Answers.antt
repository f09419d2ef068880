use Rattle.std.proofs.Common.{Option, ◌≡◌, ℕ, ◌+◌, ◌<◌, List, [], ◌∷◌, ◌++◌, All, Some, length, take, true, refl, sym, ap, subst, ◌∙◌, arith}
use Rattle.std.proofs.Math.Seq.{take-length}
use Rattle.std.proofs.lemmas.List.Elements.{All-nil, All-rest}
use Rattle.std.proofs.lemmas.List.Quantifiers.{position-Some}
use Rattle.std.proofs.lemmas.List.Sorted.{All-permutation}
use Rattle.std.proofs.Permutation.{taken_at}
use Rattle.std.specs.Prelude.{get_or, nat_eq}
use Rattle.std.specs.List.{position, swap_remove}
use Rattle.kmc_base.specs.declared.strands.Strands.{Strands}
use Rattle.kmc_count.specs.declared.judging.AskedBin.{AskedBin}
use Rattle.kmc_count.specs.declared.limits.Limits.{Limits}
use Rattle.kmc_lists.specs.Listed.{Listed, IsListOf}
use Rattle.kmc_stage_two.specs.Bodies.{AreListsOfBodies, IsListAt}
use Rattle.kmc_count.specs.Asked.{AreOfBins}
use Rattle.kmc_stage_two.specs.Lemmas.PlacedLists.{next_placed, ArePlaced}
use Rattle.kmc_stage_two.proofs.placed.in_order.Goals as goal

-- what was found at a place stands in the row, and is of that place
found : {X : Type 0} (place : X → ℕ) (xs : List X) (n at : ℕ) (x : X) → position (λ y. nat_eq (place y) n) xs ≡ Some at → x ≡ get_or xs at x
    → (at < length xs) × (place x ≡ n)
found place xs n at x is here =
    let told = position-Some (λ y. nat_eq (place y) n) xs at x is in
    let same : nat_eq (place x) n ≡ true = subst (λ y. nat_eq (place y) n ≡ true) (sym here) told.1 in
    (told.0, grind (arith))

module _ (strands : Strands) (k : ℕ) (l : Limits) (asked : Option AskedBin) (bodies : List (List ℕ)) where
  abbrev AreOfFirst : ℕ → List Listed → Type 0
  AreOfFirst n lists = ArePlaced strands k l asked bodies n lists

  none_yet : (lists : List Listed) → lists ≡ [] → AreOfFirst 0 lists
  none_yet lists empty = subst (AreOfFirst 0) (sym empty) record {
    are = record { each = All-nil (IsListOf k); dumps = tt };
    judged = λ i less. absurd (omega (arith, less));
  }

  -- the x that is taken out has a list, and the place behind those of the lists so far
  one_more : {X : Type 0} (place : X → ℕ) (list : X → Listed) (x : X) (rest xs : List X) (n at : ℕ) (lists more : List Listed)
      → at < length xs → x ≡ get_or xs at x → rest ≡ swap_remove xs at x → place x ≡ n → more ≡ lists ++ list x ∷ []
      → All (λ y. IsListAt strands k l asked bodies (place y) (list y)) xs → AreOfFirst n lists
      → All (λ y. IsListAt strands k l asked bodies (place y) (list y)) rest × AreOfFirst (n + 1) more
  one_more {X} place list x rest xs n at lists more inside here left is pushed all are =
      let IsAt = λ (y : X). IsListAt strands k l asked bodies (place y) (list y) in
      let both : All IsAt (x ∷ rest) = subst (λ r. All IsAt (x ∷ r)) (sym left) (All-permutation IsAt xs (x ∷ swap_remove xs at x) (taken_at xs at x inside here) all) in
      let first : IsListAt strands k l asked bodies (place x) (list x) = both 0 x (omega arith) in (
        All-rest IsAt x rest (x ∷ rest) refl both,
        subst (AreOfFirst (n + 1)) (sym pushed) (subst (λ (i : ℕ). AreOfFirst (i + 1) (lists ++ list x ∷ [])) is
            (next_placed strands k l asked bodies lists (place x) (list x) first (subst (λ (i : ℕ). AreOfFirst i lists) (sym is) are))),
      )

  all_there : (n : ℕ) (lists : List Listed) → n ≡ length bodies → AreOfFirst n lists → AreListsOfBodies strands k l bodies lists × AreOfBins asked bodies
  all_there n lists full are = (
    subst (λ (t : List (List ℕ)). AreListsOfBodies strands k l t lists) (ap (λ (m : ℕ). take m bodies) full ∙ take-length bodies) are.are,
    λ i inside. are.judged i (omega (arith, inside, full)),
  )

pub loop-place-init : goal.loop-place-init
loop-place-init g c =
    let made = c.in-Ok.ensures in
    (made.len, made.capacity, λ strands k m asked bodies are. (are, none_yet strands k m asked bodies c.in-Ok.lists.items made.items))

pub push_reserved-requires : goal.push_reserved-requires
push_reserved-requires g c = omega (arith, c.loop-place.invariant.0, c.loop-place.invariant.1, c.loop-place-test.true)

pub loop-place-preserved : goal.loop-place-preserved
loop-place-preserved g c =
    let room = c.loop-place.invariant in
    let pushed = c.push_reserved.ensures in (
      pushed.len ∙ ap (λ n. n + 1) room.0,
      omega (arith, pushed.capacity, room.1),
      λ strands k m asked bodies are.
          let h = room.2 strands k m asked bodies are in
          let xs = c.loop-place.left.items in
          let n = c.loop-place.place in
          let at = c.in_ok-at.at in
          let one = c.swap_remove-one.result in
          let here = c.swap_remove-one.ensures.value in
          let is_at = found (λ p. p.place) xs n at one
          (subst (λ ys. position (λ p. nat_eq p.place n) ys ≡ Some at) c.deref.ensures.value (sym c.list_at.ensures ∙ c.in_ok-at.was)) here in
          one_more strands k m asked bodies (λ p. p.place) (λ p. p.list) one c.swap_remove-one.new.self.items xs n at c.loop-place.lists.items
          c.push_reserved.new.self.items is_at.0 here c.swap_remove-one.ensures.items is_at.1 pushed.items h.0 h.1,
    )

pub returns : goal.returns
returns g c = λ strands k l asked bodies many are.
    all_there strands k l asked bodies c.loop-place.place c.loop-place.lists.items (omega (arith, c.loop-place-test.false, c.loop-place.auto.place-end, many))
    (c.loop-place.invariant.2 strands k l asked bodies are).1
