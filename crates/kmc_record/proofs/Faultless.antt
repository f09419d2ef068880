-- A record has no fault, and a body of whole records has none.
use Rattle.std.proofs.Common.{◌≡◌, ℕ, ◌*◌, ◌-◌, ◌<◌, ◌≤◌, List, [], ◌∷◌, ◌++◌, length, get_or, drop, refl, sym, ap, subst, ◌∙◌, arith, append_assoc, length-append, length-drop}
use Rattle.std.proofs.lemmas.List.{take-append-drop, get_or_append_left, get_or-append_right}
use Rattle.std.specs.List.{flat_map, AllByRecursion}
use Rattle.kmc_base.specs.Record.{packed_codes, spelling, IsSpelled, IsBodyOf, codes_in, size_of}
use Rattle.kmc_base.specs.Lemmas.Codes.{codes_join, length_codes}
use Rattle.kmc_base.specs.Lemmas.Spelled.{codes_packed, length_packed, zeros_to_byte, zero_behind}
use Rattle.kmc_base.specs.Lemmas.Unique.{one_spelling}
use Rattle.kmc_record.specs.Faults.{HasFault, IsFirstFault}
use Rattle.kmc_record.specs.declared.fault.RecordFault.{RecordFault}
use Rattle.kmc_record.specs.declared.fault.RecordFault.TheVariants.{Short, Padding}

pub no_fault : (k : ℕ) (s rest : List ℕ) (fault : RecordFault) → IsSpelled k s → HasFault k fault (spelling k s ++ rest) → ⊥
no_fault k s rest Short h f = omega (arith, f, h.least, length_packed s, length-append (packed_codes s) rest)
no_fault k s rest Padding h f =
    let i = f.1.0 in
    let up : length s ≤ i = omega (arith, f.1.1, h.least) in
    let small : i < 4 * size_of (length s) = omega (arith, f.1.2, h.least) in
    let inside : i < length (codes_in (packed_codes s)) = omega (arith, length_codes (packed_codes s), length_packed s, small) in
    f.1.3 (ap (λ (t : List ℕ). get_or t i 0) (codes_join (packed_codes s) rest) ∙ get_or_append_left (codes_in (packed_codes s)) (codes_in rest) 0 i inside
    ∙ ap (λ (t : List ℕ). get_or t i 0) (codes_packed s h.codes) ∙ get_or-append_right s (zeros_to_byte s) (length s) i 0 refl up ∙ zero_behind s
    (i - length s))

-- behind records that begin a body of whole records stands a record, where anything does
whole_rest : (k : ℕ) (ss bs : List (List ℕ)) (rest : List ℕ) (fault : RecordFault) → AllByRecursion (IsSpelled k) ss → AllByRecursion (IsSpelled k) bs
    → flat_map (spelling k) ss ≡ flat_map (spelling k) bs ++ rest → 0 < length rest → HasFault k fault rest → ⊥
whole_rest k [] [] rest fault h g e some f = omega (arith, ap length e)
whole_rest k [] (b ∷ bs) rest fault h g e some f = omega (arith, ap length e)
whole_rest k (s ∷ ss) [] rest fault h g e some f = no_fault k s (flat_map (spelling k) ss) fault h.0 (subst (HasFault k fault) (sym e) f)
whole_rest k (s ∷ ss) (b ∷ bs) rest fault h g e some f =
    let one = one_spelling k s b (flat_map (spelling k) ss) (flat_map (spelling k) bs ++ rest) h.0 g.0
    (e ∙ append_assoc (spelling k b) (flat_map (spelling k) bs) rest) in
    whole_rest k ss bs rest fault h.1 g.1 one.1 some f

pub no_first_fault : (k : ℕ) (ss : List (List ℕ)) (body : List ℕ) (fault : RecordFault) (offset : ℕ) → IsBodyOf k ss body → IsFirstFault k fault offset body → ⊥
no_first_fault k ss body fault offset h f =
    whole_rest k ss f.before (drop offset body) fault h.each f.whole.each
    (sym h.is ∙ sym (take-append-drop offset body) ∙ ap (λ (t : List ℕ). t ++ drop offset body) f.whole.is)
    (omega (arith, f.inside, length-drop offset body)) f.here
