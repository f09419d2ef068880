-- The packed lists of rows of bodies.
use Rattle.std.proofs.Common.{◌≡◌, ℕ, List, [], ◌∷◌, ◌++◌, map, sym, subst, arith, Vec, Global}
use Rattle.std.proofs.lemmas.List.{map-append}
use Rattle.std.proofs.lemmas.List.Elements.{All-nil, All-cons, All-append}
use Rattle.kmc_base.specs.declared.strands.Strands.{Strands}
use Rattle.kmc_record.specs.declared.fault.RecordFault.{RecordFault}
use Rattle.kmc_record.specs.Faults.{IsFirstFault}
use Rattle.kmc_count.specs.declared.limits.Limits.{Limits}
use Rattle.kmc_count.specs.Bodies.{IsDumpOfBody, AreDumpsOfBodies, IsWhole, IsFirstDamaged, WantsMemory}
use Rattle.kmc_stage_two.specs.Lemmas.ManyBodies.{texts, second_damaged, second_wants}
use Rattle.kmc_count.specs.Lemmas.Zips.{zip_append}
use Rattle.kmc_lists.specs.Listed.{Listed, pairs_of, IsListOf}
use Rattle.kmc_stage_two.specs.Bodies.{AreListsOfBodies, BodiesWantMemory}

module _ (strands : Strands) (k : ℕ) (l : Limits) where
  pub both_listed : (us vs : List (List ℕ)) (lists more : List Listed) → AreListsOfBodies strands k l us lists → AreListsOfBodies strands k l vs more
      → AreListsOfBodies strands k l (us ++ vs) (lists ++ more)
  both_listed us vs lists more h g = record {
    each = All-append (IsListOf k) lists more h.each g.each;
    dumps = subst (AreDumpsOfBodies strands k l (us ++ vs)) (sym (map-append pairs_of lists more))
        (zip_append (IsDumpOfBody strands k l) us vs (map pairs_of lists) (map pairs_of more) h.dumps g.dumps);
  }

  -- one body more is counted
  pub one_listed : (bodies : List (Vec ℕ Global)) (b : Vec ℕ Global) (body : List ℕ) (lists : List Listed) (c : Listed)
      → AreListsOfBodies strands k l (texts bodies) lists → body ≡ b.items → IsListOf k c → IsDumpOfBody strands k l body (pairs_of c)
      → AreListsOfBodies strands k l (texts (bodies ++ b ∷ [])) (lists ++ c ∷ [])
  one_listed bodies b body lists c h same list dump =
      subst (λ (t : List (List ℕ)). AreListsOfBodies strands k l t (lists ++ c ∷ [])) (sym (map-append (λ (v : Vec ℕ Global). v.items) bodies (b ∷ [])))
      (both_listed (texts bodies) (b.items ∷ []) lists (c ∷ []) h
      record {
        each = All-cons (IsListOf k) c [] list (All-nil (IsListOf k));
        dumps = (subst (λ (t : List ℕ). IsDumpOfBody strands k l t (pairs_of c)) same dump, tt);
      })

  -- the bodies so far are whole, and the next one is damaged
  pub next_damaged : (all done rest : List (Vec ℕ Global)) (b : Vec ℕ Global) (body : List ℕ) (lists : List Listed) (fault : RecordFault)
      (offset : ℕ) → all ≡ done ++ b ∷ rest → body ≡ b.items
      → AreListsOfBodies strands k l (texts done) lists → IsFirstFault k fault offset body → IsFirstDamaged k fault offset (texts all)
  next_damaged all done rest b body lists fault offset is same h first =
      subst (λ (v : List (Vec ℕ Global)). IsFirstDamaged k fault offset (texts v)) (sym is)
      (subst (IsFirstDamaged k fault offset) (sym (map-append (λ (v : Vec ℕ Global). v.items) done (b ∷ rest)))
      (second_damaged strands k l (texts done) (texts (b ∷ rest)) (map pairs_of lists) fault offset h.dumps
      record { number = 0; inside = omega arith; before = All-nil (IsWhole k); first = subst (IsFirstFault k fault offset) same first }))

  -- the bodies so far are whole, and the count of the next one wants memory
  pub next_wants : (all done rest : List (Vec ℕ Global)) (b : Vec ℕ Global) (body : List ℕ) (lists : List Listed) → all ≡ done ++ b ∷ rest
      → body ≡ b.items → AreListsOfBodies strands k l (texts done) lists → WantsMemory k body → BodiesWantMemory k (texts all)
  next_wants all done rest b body lists is same h wants =
      subst (λ (v : List (Vec ℕ Global)). BodiesWantMemory k (texts v)) (sym is)
      (subst (BodiesWantMemory k) (sym (map-append (λ (v : Vec ℕ Global). v.items) done (b ∷ rest)))
      (second_wants strands k l (texts done) (texts (b ∷ rest)) (map pairs_of lists) h.dumps
      record { number = 0; inside = omega arith; before = All-nil (IsWhole k); here = subst (WantsMemory k) same wants }))
