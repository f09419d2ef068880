-- Bodies of one bin, record by record.
use Rattle.std.proofs.Common.{◌≡◌, ℕ, ◌+◌, ◌-◌, ◌<◌, ◌≤◌, All, List, ◌++◌, get_or, length, take, drop, refl, sym, ap, subst, ◌∙◌, arith, length-append, append_assoc}
use Rattle.std.proofs.lemmas.List.{take_at, take-append-drop}
use Rattle.kmc_base.specs.Words.{windows}
use Rattle.kmc_base.specs.Record.{spelling, IsSpelled, codes_in, size_of}
use Rattle.kmc_record.specs.Shapes.{Sizes}
use Rattle.kmc_record.specs.Parts.{Parcel, IsPart, capped}
use Rattle.kmc_record.specs.Bodies.{BeginsWithOtherBin, Belong}
use Rattle.kmc_base.specs.Lemmas.Whole.{begins_there, first_codes, rest_at, spelled_there}
use Rattle.kmc_record.specs.Lemmas.Grown.{part_grown}

-- a record was found there, a word of which belongs to another bin
pub other_there : (bin : ℕ) (shape : Sizes) (k n offset : ℕ) (body : List ℕ) → ((i : ℕ) → get_or body i 0 < 256)
    → n ≡ get_or (rest_at offset body) 0 0 + k → 1 + size_of n ≤ length (rest_at offset body)
    → All (λ c. c ≡ 0) (drop n (codes_in (take (size_of n) (drop 1 (rest_at offset body))))) → k ≡ shape.k
    → (Belong bin shape (windows shape.k (first_codes n (rest_at offset body))) → ⊥) → BeginsWithOtherBin bin shape (drop offset body)
other_there bin shape k n offset body each count inside clean same other = record {
  codes = first_codes n (rest_at offset body);
  rest = drop (1 + size_of n) (rest_at offset body);
  spelled = subst (λ j. IsSpelled j (first_codes n (rest_at offset body))) same (spelled_there k n offset body each count inside clean);
  is = subst (λ j. drop offset body ≡ spelling j (first_codes n (rest_at offset body)) ++ drop (1 + size_of n) (rest_at offset body)) same
      (begins_there k n offset body each count inside clean);
  other = other;
}

front_joined : (body w rest : List ℕ) (offset next : ℕ) → offset ≤ length body → drop offset body ≡ w ++ rest → next ≡ length body - length rest
    → take next body ≡ take offset body ++ w
front_joined body w rest offset next inside is at =
    let front = take offset body in
    let whole : body ≡ (front ++ w) ++ rest = sym (take-append-drop offset body) ∙ ap (λ (t : List ℕ). front ++ t) is ∙ sym (append_assoc front w rest) in
    let long : length (front ++ w) ≡ next = omega (arith, ap length whole, length-append (front ++ w) rest, at) in
    ap (take next) whole ∙ take_at (front ++ w) rest next long

pub part_more : (bin : ℕ) (shape : Sizes) (body rest codes : List ℕ) (k offset next words n more : ℕ) → k ≡ shape.k → IsPart bin shape
    (take offset body) words → offset ≤ length body
    → IsSpelled k codes → drop offset body ≡ spelling k codes ++ rest → next ≡ length body - length rest → Belong bin shape (windows shape.k codes)
    → n ≡ length (windows shape.k codes)
    → more ≡ capped (words + n) → IsPart bin shape (take next body) more
part_more bin shape body rest codes k offset next words n more same h inside spelled is at belong count total =
    let v : Parcel = record { chunk = 0; bin = bin; shape = shape; body = take offset body; words = words } in
    part_grown v v refl codes (take next body) k n more h (subst (λ j. IsSpelled j codes) same spelled) belong count same
    (front_joined body (spelling k codes) rest offset next inside is at) total
