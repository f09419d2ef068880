-- The first damaged body of two rows.
use Rattle.std.proofs.Common.{◌≡◌, ℕ, ◌+◌, ◌-◌, ◌≤◌, List, [], ◌∷◌, ◌++◌, length, get_or, take, map, sym, ap, subst, ◌∙◌, arith, Vec, Global, inr}
use Rattle.std.specs.List.{All}
use Rattle.std.proofs.lemmas.List.{take-append-le, length-append, get_or_append_left, get_or-append_right}
use Rattle.std.proofs.lemmas.List.Elements.{All-nil, All-cons, All-append}
use Rattle.std.proofs.Math.Seq.{take-append-add}
use Rattle.kmc_base.specs.declared.strands.Strands.{Strands}
use Rattle.kmc_record.specs.declared.fault.RecordFault.{RecordFault}
use Rattle.kmc_record.specs.Faults.{IsFirstFault}
use Rattle.kmc_count.specs.declared.limits.Limits.{Limits}
use Rattle.kmc_count.specs.Bodies.{AreDumpsOfBodies, IsWhole, IsFirstDamaged, WantsMemory}
use Rattle.kmc_stage_two.specs.Bodies.{BodiesWantMemory}

-- the bytes of each body
abbrev pub texts : List (Vec ℕ Global) → List (List ℕ)
texts bodies = map (λ b. b.items) bodies

module _ (strands : Strands) (k : ℕ) (l : Limits) where
  -- bodies that were counted are whole
  pub counted_whole : (bodies : List (List ℕ)) (lists : List (List (List ℕ × ℕ))) → AreDumpsOfBodies strands k l bodies lists → All (IsWhole k) bodies
  counted_whole [] lists h = All-nil (IsWhole k)
  counted_whole (b ∷ bodies) [] h = absurd h
  counted_whole (b ∷ bodies) (ps ∷ lists) h = All-cons (IsWhole k) b bodies (h.0.super_kmers, h.0.records) (counted_whole bodies lists h.1)

  -- bodies that were counted may want memory where there is one
  pub counted_want : (bodies : List (List ℕ)) (lists : List (List (List ℕ × ℕ))) → AreDumpsOfBodies strands k l bodies lists → 1 ≤ length bodies
      → BodiesWantMemory k bodies
  counted_want [] lists h some = absurd (omega (arith, some))
  counted_want (b ∷ bodies) [] h some = absurd h
  counted_want (b ∷ bodies) (ps ∷ lists) h some =
      record { number = 0; inside = omega (arith, some); before = All-nil (IsWhole k); here = inr (h.0.super_kmers, h.0.records) }

  -- two rows of bodies, the second behind the first
  module _ (us vs : List (List ℕ)) where
    pub first_damaged : (fault : RecordFault) (offset : ℕ) → IsFirstDamaged k fault offset us → IsFirstDamaged k fault offset (us ++ vs)
    first_damaged fault offset d = record {
      number = d.number;
      inside = omega (arith, d.inside, length-append us vs);
      before = subst (All (IsWhole k)) (sym (take-append-le d.number us vs (omega (arith, d.inside)))) d.before;
      first = subst (IsFirstFault k fault offset) (sym (get_or_append_left us vs [] d.number d.inside)) d.first;
    }

    pub second_damaged : (lists : List (List (List ℕ × ℕ))) (fault : RecordFault) (offset : ℕ) → AreDumpsOfBodies strands k l us lists
        → IsFirstDamaged k fault offset vs → IsFirstDamaged k fault offset (us ++ vs)
    second_damaged lists fault offset done d =
        let at = length us + d.number in
        let behind : at - length us ≡ d.number = omega arith in
        record {
          number = at;
          inside = omega (arith, d.inside, length-append us vs);
          before = subst (All (IsWhole k)) (sym (take-append-add us vs d.number))
              (All-append (IsWhole k) us (take d.number vs) (counted_whole us lists done) d.before);
          first = subst (IsFirstFault k fault offset) (sym (get_or-append_right us vs (length us) at [] (λ _. length us) (omega arith) ∙ ap
              (λ i. get_or vs i []) behind)) d.first;
        }

    pub first_wants : BodiesWantMemory k us → BodiesWantMemory k (us ++ vs)
    first_wants d = record {
      number = d.number;
      inside = omega (arith, d.inside, length-append us vs);
      before = subst (All (IsWhole k)) (sym (take-append-le d.number us vs (omega (arith, d.inside)))) d.before;
      here = subst (WantsMemory k) (sym (get_or_append_left us vs [] d.number d.inside)) d.here;
    }

    pub second_wants : (lists : List (List (List ℕ × ℕ))) → AreDumpsOfBodies strands k l us lists → BodiesWantMemory k vs
        → BodiesWantMemory k (us ++ vs)
    second_wants lists done d =
        let at = length us + d.number in
        let behind : at - length us ≡ d.number = omega arith in
        record {
          number = at;
          inside = omega (arith, d.inside, length-append us vs);
          before = subst (All (IsWhole k)) (sym (take-append-add us vs d.number))
              (All-append (IsWhole k) us (take d.number vs) (counted_whole us lists done) d.before);
          here = subst (WantsMemory k) (sym (get_or-append_right us vs (length us) at [] (λ _. length us) (omega arith) ∙ ap (λ i. get_or vs i [])
              behind)) d.here;
        }
