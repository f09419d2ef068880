use Rattle.std.proofs.Common.{◌≡◌, List, ◌∷◌, ◌++◌, All, IfOk, sym, subst, arith, Vec, Global}
use Rattle.std.specs.Prelude.{Result, Ok}
use Rattle.std.proofs.lemmas.List.Elements.{All-nil, All-append, All-rest}
use Rattle.std.specs.Vec.Iter.{into_iter_items}
use Rattle.kmc_stage_two.specs.Bodies.{IsListAt}
use Rattle.kmc_stage_two.proofs.placed.all_made.Goals as goal

-- what the next row found is put behind the lists of the rows before it
one_more : {X E : Type 0} (P : X → Type 0) (row : Result (Vec X Global) E) (rest rows : List (Result (Vec X Global) E)) (found : Vec X Global)
    (lists more : List X) → rows ≡ row ∷ rest → row ≡ Ok found → more ≡ lists ++ found.items → All (λ r. IfOk r (λ v. All P v.items)) rows → All P lists
    → All (λ r. IfOk r (λ v. All P v.items)) rest × All P more
one_more {X} {E} P row rest rows found lists more first is pushed all listed =
    let IsRow = λ (r : Result (Vec X Global) E). IfOk r (λ v. All P v.items) in
    let here : IsRow row = (subst (All IsRow) first all) 0 row (omega arith) in (
      All-rest IsRow row rest rows first all,
      subst (All P) (sym pushed) (All-append P lists found.items listed (subst IsRow is here)),
    )

pub loop-row-init : goal.loop-row-init
loop-row-init g c = λ strands k m asked bodies are. (
  subst (All (λ r. IfOk r (λ lists. All (λ p. IsListAt strands k m asked bodies p.place p.list) lists.items))) (sym c.into_iter-row-iterator.ensures.into_iter_gives.0)
      are,
  subst (All (λ p. IsListAt strands k m asked bodies p.place p.list)) (sym c.new-lists.ensures.items) (All-nil (λ p. IsListAt strands k m asked bodies p.place p.list)),
)

pub loop-row-preserved : goal.loop-row-preserved
loop-row-preserved g c = λ strands k m asked bodies are.
    let h = c.loop-row.invariant strands k m asked bodies are in
    one_more (λ p. IsListAt strands k m asked bodies p.place p.list) c.in-Some.row (into_iter_items c.next.new.self) (into_iter_items c.loop-row.row-iterator)
    c.in_ok-row.field-0 c.loop-row.lists.items c.append.new.self.items c.in-Some.ensures.steps.0 c.in_ok-row.was c.in_ok-append.ensures.items h.0 h.1

pub returns : goal.returns
returns g c = λ strands k l asked bodies are. (c.loop-row.invariant strands k l asked bodies are).1
