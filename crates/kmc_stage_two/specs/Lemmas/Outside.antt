-- Bodies from outside that are of their bins.
use Rattle.std.proofs.Common.{◌≡◌, ℕ, zero, suc, ◌+◌, ◌-◌, ◌<◌, ◌⊎◌, inl, inr, Result, Ok, Err, IfOk, Some, List, [], ◌∷◌, ◌++◌, length, get_or, refl, sym, ap, subst, ◌∙◌, arith, zero-add}
use Rattle.std.proofs.lemmas.List.{length-append, get_or_append_left, get_or-append_right}
use Rattle.std.specs.Prelude.{slice_index}
use Rattle.kmc_record.specs.Bodies.{AreRecordsOfBin}
use Rattle.kmc_record.specs.Parts.{IsPart, all_windows, capped}
use Rattle.kmc_record.specs.Shapes.{Sizes}
use Rattle.kmc_record.specs.Lemmas.PartRecords.{records_of_part}
use Rattle.kmc_store.specs.Bins.{AreBins, body_at}
use Rattle.kmc_count.specs.Asked.{AreOfBins}

-- a number for each place, as a list
chosen : (R : ℕ → ℕ → Type 0) (n : ℕ) → ((i : ℕ) → i < n → (w : ℕ) × R i w)
    → (ws : List ℕ) × (length ws ≡ n) × ((i : ℕ) → i < n → R i (slice_index ws i))
chosen R zero f = ([], refl, λ i less. absurd (omega (arith, less)))
chosen R (suc n) f =
    let before = chosen R n (λ i less. f i (omega (arith, less))) in
    let last = f n (omega arith) in
    let ws = before.0 ++ last.0 ∷ [] in (
      ws,
      omega (arith, length-append before.0 (last.0 ∷ []), before.1),
      λ i less.
          elim (let two : (i < n) ⊎ (i ≡ n) = grind (arith, less) in two) [
            | inl front ↦
                let is : get_or ws i 0 ≡ get_or before.0 i 0 = get_or_append_left before.0 (last.0 ∷ []) 0 i (omega (arith, front, before.1)) in
                subst (R i) (sym is) (before.2 i front)
            | inr same ↦
                let is : get_or ws i 0 ≡ last.0 =
                get_or-append_right before.0 (last.0 ∷ []) n i 0 before.1 (omega (arith, same))
                ∙ ap (λ j. get_or (last.0 ∷ []) j 0) (let none : i - n ≡ 0 = omega (arith, same) in none) in
                subst (R i) (sym is) (subst (λ j. R j last.0) (sym same) last.1)
          ],
    )

-- bodies that were asked to be of bins from the first on are bins
pub bins_of_asked : (shape : Sizes) (bodies : List (List ℕ)) → length bodies ≡ shape.n → AreOfBins (Some (record { shape = shape; bin = 0 })) bodies
    → (words : List ℕ) × AreBins shape bodies words
bins_of_asked shape bodies wide of =
    let one : (i : ℕ) → i < shape.n → (w : ℕ) × IsPart i shape (body_at bodies i) w = λ i less.
    let is = of i (omega (arith, less, wide)) in
    let here : 0 + i ≡ i = zero-add i in
    let records : AreRecordsOfBin i shape (body_at bodies i) = subst (λ j. AreRecordsOfBin j shape (body_at bodies i)) here is.1 in (
      capped (length (all_windows shape.k records.super_kmers)),
      record {
        within = less;
        super_kmers = records.super_kmers;
        records = records.records;
        belong = records.belong;
        count = refl;
      },
    ) in
    let all = chosen (λ i w. IsPart i shape (body_at bodies i) w) shape.n one in
    (all.0, record { wide = wide; counted = all.1; each = all.2 })

-- and bins are bodies of their bins
pub asked_of_bins : (shape : Sizes) (bodies : List (List ℕ)) (words : List ℕ) → AreBins shape bodies words
    → AreOfBins (Some (record { shape = shape; bin = 0 })) bodies
asked_of_bins shape bodies words are i inside =
    let less : i < shape.n = omega (arith, inside, are.wide) in
    let here : i ≡ 0 + i = sym (zero-add i) in (
      omega (arith, less),
      subst (λ j. AreRecordsOfBin j shape (body_at bodies i)) here (records_of_part i shape (body_at bodies i) _ (are.each i less)),
    )

-- two facts about one value make a third
pub both_ok : {T E : Type 0} (r : Result T E) (P Q R : T → Type 0) → ((x : T) → P x → Q x → R x) → IfOk r P → IfOk r Q → IfOk r R
both_ok (Ok x) P Q R f h g = f x h g
both_ok (Err e) P Q R f h g = tt
