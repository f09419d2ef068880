-- From the dumps of bins to one.
use Rattle.std.proofs.Common.{◌≡◌, ℕ, List, [], ◌∷◌, map, subst, arith}
use Rattle.std.specs.Prelude.{slice_index}
use Rattle.std.specs.List.{AllZip}
use Rattle.kmc_base.specs.declared.strands.Strands.{Strands}
use Rattle.kmc_record.specs.declared.fault.RecordFault.{RecordFault}
use Rattle.kmc_record.specs.Shapes.{Sizes, IsShape}
use Rattle.kmc_base.specs.Record.{IsBodyOf}
use Rattle.kmc_record.specs.RecordWords.{record_keys}
use Rattle.kmc_record.specs.Parts.{IsPart}
use Rattle.kmc_record.specs.Laws.{WholeBodyHasNoFault}
use Rattle.kmc_store.specs.Bins.{AreBins, body_at}
use Rattle.kmc_count.specs.declared.limits.Limits.{Limits}
use Rattle.kmc_count.specs.Bodies.{AreDumpsOfBodies, IsFirstDamaged}
use Rattle.kmc_count.specs.Laws.{DumpsOfBodiesAreOfKeys}
use Rattle.kmc_count.specs.Merge.{AreApart, AreDumps}
use Rattle.kmc_stage_two.specs.Bodies.{AreListsOfBodies}
use Rattle.kmc_stage_two.specs.Laws.{PackedDumpsAreOne, BinsShareNoKey}
use Rattle.kmc_lists.specs.Listed.{Listed, spelled, pairs_of}
use Rattle.kmc_lists.specs.Ordered.{CanBeMerged, whole}
use Rattle.kmc_stage_two.specs.Stages.{IsDumpOfBins}

-- the super-k-mers of bodies that have dumps
pub whole_lists : (strands : Strands) (k : ℕ) (l : Limits) (bodies : List (List ℕ)) (lists : List (List (List ℕ × ℕ)))
    → AreDumpsOfBodies strands k l bodies lists
    → (sss : List (List (List ℕ))) × AllZip (IsBodyOf k) sss bodies
whole_lists strands k l [] [] h = ([], tt)
whole_lists strands k l [] (p ∷ ps) h = absurd h
whole_lists strands k l (b ∷ bs) [] h = absurd h
whole_lists strands k l (b ∷ bs) (p ∷ ps) h =
    let rest = whole_lists strands k l bs ps h.1 in
    (h.0.super_kmers ∷ rest.0, (h.0.records, rest.1))

-- no bin is damaged
pub no_damage : WholeBodyHasNoFault → (shape : Sizes) (k : ℕ) (given bodies : List (List ℕ)) (words : List ℕ) (fault : RecordFault) (offset : ℕ)
    → shape.k ≡ k → AreBins shape bodies words → given ≡ bodies → IsFirstDamaged k fault offset given → ⊥
no_damage whole shape k given bodies words fault offset one are same found = whole k part.super_kmers (body_at bodies damaged.number) fault offset
    (subst (λ (n : ℕ). IsBodyOf n part.super_kmers (body_at bodies damaged.number)) one part.records) damaged.first
  where
    damaged : IsFirstDamaged k fault offset bodies
    damaged = subst (IsFirstDamaged k fault offset) same found

    part : IsPart damaged.number shape (body_at bodies damaged.number) (slice_index words damaged.number)
    part = are.each damaged.number (omega (arith, damaged.inside, are.wide))

-- the super-k-mers of each bin, whose dumps are the lists, and which share no key
pub record AreCounted (strands : Strands) (k : ℕ) (l : Limits) (bodies : List (List ℕ)) (lists : List (List (List ℕ × ℕ))) : Type 0 where
  pub super_kmers : List (List (List ℕ))
  pub records : AllZip (IsBodyOf k) super_kmers bodies
  pub dumps : AreDumps l (map (record_keys strands k) super_kmers) lists
  pub apart : AreApart (map (record_keys strands k) super_kmers)

module _ (share : BinsShareNoKey) (keyed : DumpsOfBodiesAreOfKeys) (strands : Strands) (l : Limits) (shape : Sizes)
    (bounds : IsShape shape.k shape.m shape.n) where
  counted : (given bodies : List (List ℕ)) (words : List ℕ) (lists : List (List (List ℕ × ℕ))) → AreBins shape bodies words → given ≡ bodies
      → AreDumpsOfBodies strands shape.k l given lists → AreCounted strands shape.k l bodies lists
  counted given bodies words lists are same dumped =
      let dumps = subst (λ (b : List (List ℕ)). AreDumpsOfBodies strands shape.k l b lists) same dumped in
      let all = whole_lists strands shape.k l bodies lists dumps in
      record {
        super_kmers = all.0;
        records = all.1;
        dumps = keyed strands shape.k l bodies all.0 lists dumps all.1;
        apart = share strands shape bodies words all.0 bounds.within are all.1;
      }

  -- the lists of bins can be merged, and their whole is the dump of all bins
  pub listed : PackedDumpsAreOne → (k : ℕ) (given bodies : List (List ℕ)) (words : List ℕ) (lists : List Listed) → k ≡ shape.k
      → AreBins shape bodies words → given ≡ bodies → AreListsOfBodies strands k l given lists
      → CanBeMerged shape.k lists × IsDumpOfBins strands shape.k l bodies (spelled shape.k (whole lists))
  listed packed k given bodies words lists one are same lists_are =
      let h = subst (λ n. AreListsOfBodies strands n l given lists) one lists_are in
      let done = counted given bodies words (map pairs_of lists) are same h.dumps in
      let made = packed l shape.k (map (record_keys strands shape.k) done.super_kmers) lists h.each done.dumps done.apart in
      (made.0, record { super_kmers = done.super_kmers; records = done.records; dump = made.1 })
