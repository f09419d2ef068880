-- Readers that were opened by their numbers.
use Rattle.std.proofs.Common.{◌≡◌, ℕ, ◌-◌, ◌<◌, ◌≤◌, ◌⊎◌, List, [], ◌∷◌, ◌++◌, length, get_or, Option, Some, None, inl, inr, refl, sym, subst, arith, length-append}
use Rattle.std.proofs.lemmas.List.{get_or_append_left, get_or-append_right}
use Rattle.kmc_device.specs.Device.{Watched}
use Rattle.kmc_options.specs.declared.run_params.Params.{Params}
use Rattle.kmc_slices.specs.ListProgram.{AreOpened, IsBehind, IsListed, IsListFault, IsOfFiles, IsOfFirst, IsOfNext, Openings, of_files}
use Rattle.kmc_slices.specs.Gathered.{Records}
use Rattle.kmc_slices.specs.declared.programs.list_fault.ListFault.{ListFault}

in_front_or_behind : (i n : ℕ) → (i < n) ⊎ (n ≤ i)
in_front_or_behind i n = grind arith

-- one more reader
pub opened_more : (openings : Openings) (readings : List (Option (List ℕ) × Option (List ℕ))) (old new : Option (List ℕ)) (i : ℕ) → length readings ≡ i
    → AreOpened openings readings → openings i (Some old) → AreOpened openings (readings ++ (old, new) ∷ [])
opened_more openings readings old new i many opened more = record {
  each = λ j inside.
      let last : Option (List ℕ) × Option (List ℕ) = (old, new) in
      let none : Option (List ℕ) × Option (List ℕ) = (None, None) in
      let Has : (Option (List ℕ) × Option (List ℕ)) → Type 0 = λ reading. openings j (Some reading.0) in
      elim (in_front_or_behind j (length readings)) [
        | inl front ↦ subst Has (sym (get_or_append_left readings (last ∷ []) none j front)) (opened.each j front)
        | inr behind ↦
            let at : j ≡ i = omega (arith, inside, length-append readings (last ∷ []), many, behind) in
            let first : 0 ≡ j - length readings = omega (arith, at, many) in
            subst Has (sym (get_or-append_right readings (last ∷ []) (length readings) j none refl behind))
            (subst (λ n. Has (get_or (last ∷ []) n none)) first (subst (λ n. openings n (Some old)) (sym at) more))
      ];
}

-- the first reader
pub opened_first : (openings : Openings) (old new : Option (List ℕ)) → openings 0 (Some old) → AreOpened openings ((old, new) ∷ [])
opened_first openings old new first = opened_more openings [] old new 0 refl (record { each = λ i less. absurd (omega (arith, less)) }) first

-- what is said of readers that were opened holds of files, of which less is known
module _ (openings : Openings) where
  of_first : (fault : ListFault) → IsOfFirst openings fault → IsOfFirst of_files fault
  of_first fault (inl h) = inl (h.0, h.1, h.2, tt, h.4)
  of_first fault (inr (inl h)) = inr (inl (h.0, tt))
  of_first fault (inr (inr h)) = inr (inr (h.0, h.1, h.2, h.3, tt, h.5))

  of_next : (i : ℕ) (r : Records) (fault : ListFault) → IsOfNext openings i r fault → IsOfNext of_files i r fault
  of_next i r fault (inl h) = inl (h.0, tt)
  of_next i r fault (inr h) = inr (h.0, h.1, h.2, h.3, tt, h.5)

  behind : (i : ℕ) (fault : ListFault) → IsBehind openings i fault → IsBehind of_files i fault
  behind i fault h = record {
    readings = h.readings;
    many = h.many;
    opened = record { each = λ j less. tt };
    records = h.records;
    gathered = h.gathered;
    next = of_next i h.records fault h.next;
  }

  of_readers : (n : ℕ) (fault : ListFault) → IsOfFiles openings n fault → IsOfFiles of_files n fault
  of_readers n fault (inl h) = inl (of_first fault h)
  of_readers n fault (inr h) = inr (h.0, h.1, behind h.0 fault h.2)

  pub listed_of_files : (n : ℕ) (params : Params) (old new : Option (List ℕ)) → IsListed openings n params old new → IsListed of_files n params old new
  listed_of_files n params old new h = record {
    pairs = h.pairs;
    are = record {
      readings = h.are.readings;
      many = h.are.many;
      opened = record { each = λ i less. tt };
      records = h.are.records;
      gathered = h.are.gathered;
      dump = h.are.dump;
    };
    out = h.out;
  }

  pub fault_of_files : {W : Type 0} (n : ℕ) (params : Params) (contents : W → Option (List ℕ)) (writer written : Watched W) (fault : ListFault)
      → IsListFault openings n params contents writer written fault → IsListFault of_files n params contents writer written fault
  fault_of_files n params contents writer written fault (inl h) = inl (of_readers n fault h.0, h.1)
  fault_of_files n params contents writer written fault (inr h) = inr (
    h.0,
    h.1,
    record {
      readings = h.2.readings;
      many = h.2.many;
      opened = record { each = λ i less. tt };
      records = h.2.records;
      gathered = h.2.gathered;
      why = h.2.why;
    },
  )
