-- Lists of bodies, each with its body's place.
use Rattle.std.proofs.Common.{◌≡◌, ℕ, ◌+◌, ◌<◌, Option, List, [], ◌∷◌, ◌++◌, length, get_or, take, sym, ap, subst, ◌∙◌, arith, Vec, Global}
use Rattle.std.proofs.lemmas.List.{length-map, get_or-map, take_more}
use Rattle.std.proofs.lemmas.List.Elements.{All-nil, All-cons}
use Rattle.kmc_base.specs.declared.strands.Strands.{Strands}
use Rattle.kmc_count.specs.declared.limits.Limits.{Limits}
use Rattle.kmc_count.specs.Asked.{asked_behind, IsOfBin}
use Rattle.kmc_count.specs.Bodies.{IsDumpOfBody}
use Rattle.kmc_count.specs.declared.judging.AskedBin.{AskedBin}
use Rattle.kmc_lists.specs.Listed.{Listed, pairs_of, IsListOf}
use Rattle.kmc_stage_two.specs.Bodies.{AreListsOfBodies, IsListAt}
use Rattle.kmc_stage_two.specs.Lemmas.Judged.{AreOfBinsTo, next_of_bin}
use Rattle.kmc_stage_two.specs.Lemmas.ListedBodies.{both_listed}
use Rattle.kmc_stage_two.specs.Lemmas.ManyBodies.{texts}

module _ (strands : Strands) (k : ℕ) (l : Limits) (asked : Option AskedBin) (bodies : List (List ℕ)) where
  -- the lists of the bodies before a place, each of which is of its bin
  pub record ArePlaced (place : ℕ) (lists : List Listed) : Type 0 where
    pub are : AreListsOfBodies strands k l (take place bodies) lists
    pub judged : AreOfBinsTo place asked bodies

  -- the list of the next body is put behind those of the bodies before it
  pub next_placed : (lists : List Listed) (place : ℕ) (list : Listed) → IsListAt strands k l asked bodies place list → ArePlaced place lists
      → ArePlaced (place + 1) (lists ++ list ∷ [])
  next_placed lists place list at placed = record {
    are = subst (λ (t : List (List ℕ)). AreListsOfBodies strands k l t (lists ++ list ∷ [])) (sym (take_more bodies place [] at.inside))
        (both_listed strands k l (take place bodies) (get_or bodies place [] ∷ []) lists (list ∷ []) placed.are
        record {
          each = All-cons (IsListOf k) list [] at.is (All-nil (IsListOf k));
          dumps = (at.dump, tt);
        });
    judged = next_of_bin place asked bodies placed.judged at.judged;
  }

-- the list of the body at a place
pub listed_at : (strands : Strands) (k : ℕ) (l : Limits) (asked : Option AskedBin) (bodies : List (Vec ℕ Global)) (place : ℕ) (b : Vec ℕ Global)
    (body : List ℕ) (list : Listed)
    → place < length bodies → b ≡ get_or bodies place b → body ≡ b.items → IsListOf k list → IsDumpOfBody strands k l body (pairs_of list)
    → IsOfBin (asked_behind place asked) body → IsListAt strands k l asked (texts bodies) place list
listed_at strands k l asked bodies place b body list inside at bytes is dump judged =
    let same : body ≡ get_or (texts bodies) place [] =
    bytes ∙ ap (λ (v : Vec ℕ Global). v.items) at ∙ sym (get_or-map (λ (v : Vec ℕ Global). v.items) bodies place b [] inside) in
    record {
      inside = omega (arith, inside, length-map bodies (λ (v : Vec ℕ Global). v.items));
      is = is;
      dump = subst (λ t. IsDumpOfBody strands k l t (pairs_of list)) same dump;
      judged = subst (IsOfBin (asked_behind place asked)) same judged;
    }
