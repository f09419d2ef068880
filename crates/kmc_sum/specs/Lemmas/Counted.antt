-- How many lines were taken from the sources.
use Rattle.std.proofs.Common.{◌≡◌, ℕ, ◌+◌, ◌-◌, ◌^◌, ◌<◌, ◌≤◌, true, cond, List, [], ◌∷◌, ◌++◌, length, Option, ap, ◌∙◌, arith, length-append}
use Rattle.std.specs.List.{sum_by}
use Rattle.std.proofs.lemmas.List.Sums.{sum_by-set}
use Rattle.kmc_base.specs.Packed.{unpack}
use Rattle.kmc_sum.specs.Heads.{head_at, pending}
use Rattle.kmc_sum.specs.Refusals.{HaveTooMany}
use Rattle.kmc_sum.specs.Sources.{AreSources, list_at, with_first}
use Rattle.kmc_sum.specs.declared.heads.Head.{Head}
use Rattle.kmc_sum.specs.declared.source.Room.{Room}
use Rattle.kmc_sum.specs.Lemmas.Taken.{fronts_of}

-- at least so many lines were taken
pub record HaveTaken (k : ℕ) (starts nows : List (Option (List ℕ))) (rooms : List Room) (heads : List Head) (steps : ℕ) : Type 0 where
  pub lists : List (List (List ℕ × ℕ))
  pub sources : AreSources k starts nows rooms heads lists
  pub many : steps ≤ sum_by length lists

-- one more
pub taken_more : (k : ℕ) (starts nows nows' : List (Option (List ℕ))) (rooms rooms' : List Room) (heads heads' : List Head) (steps : ℕ)
    (taken : HaveTaken k starts nows rooms heads steps)
    → (head_at heads 1).source < length starts → (head_at heads 1).live ≡ true → AreSources k starts nows' rooms' heads'
    (with_first k heads taken.lists) → HaveTaken k starts nows' rooms' heads' (steps + 1)
taken_more k starts nows nows' rooms rooms' heads heads' steps taken inside live are =
    let top = head_at heads 1 in
    let i = top.source in
    let p : List ℕ × ℕ = (unpack k top.packed, top.count) in
    let is : list_at taken.lists i ++ pending k top ≡ list_at taken.lists i ++ p ∷ [] = ap (λ b. list_at taken.lists i ++ cond b (p ∷ []) []) live in
    let one : length (list_at taken.lists i ++ pending k top) ≡ length (list_at taken.lists i) + 1 = ap length is ∙ length-append
    (list_at taken.lists i) (p ∷ []) in
    record {
      lists = with_first k heads taken.lists;
      sources = are;
      many = omega (
        arith,
        taken.many,
        one,
        sum_by-set length taken.lists i (list_at taken.lists i ++ pending k top) []
            (omega (arith, inside, taken.sources.lists_long)),
      );
    }

-- as many as are counted
pub too_many : (k : ℕ) (starts nows : List (Option (List ℕ))) (rooms : List Room) (heads : List Head) (steps : ℕ) → length rooms ≡ length starts
    → 2 ^ 64 - 2 ≤ steps → HaveTaken k starts nows rooms heads steps
    → HaveTooMany k starts nows
too_many k starts nows rooms heads steps long most taken = record {
  lists = taken.lists;
  gave = fronts_of k starts nows rooms heads taken.lists long taken.sources;
  many = omega (arith, most, taken.many);
}
