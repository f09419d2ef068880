-- The bins of all parts of reads, part after part.
use Rattle.std.proofs.Common.{◌≡◌, ℕ, zero, suc, ◌+◌, ◌<◌, ◌≤◌, List, [], ◌∷◌, ◌++◌, length, map, refl, sym, ap, subst, ◌∙◌, arith, replicate}
use Rattle.std.specs.List.{AllByRecursion, AllZip, range_with_len}
use Rattle.std.specs.Prelude.{slice_index}
use Rattle.std.proofs.lemmas.List.{get_or-replicate}
use Rattle.std.proofs.lemmas.List.FromFn.{get_or-map-range_with_len, length-map-range_with_len}
use Rattle.kmc_base.specs.Record.{IsBodyOf}
use Rattle.kmc_record.specs.Shapes.{Sizes}
use Rattle.kmc_record.specs.Parts.{IsPart, capped}
use Rattle.kmc_store.specs.Bins.{BinList, body_at, AreBins}
use Rattle.kmc_store.specs.Holds.{HoldsReads}
use Rattle.kmc_store.specs.Laws.{MergedBinsHoldBoth, EmptyBinsHoldNoReads}
use Rattle.kmc_store.specs.Lemmas.Filling.{part_joined}
use Rattle.kmc_slices.specs.Slices.{Part, IsCutTo, all_reads, whole_body, whole_bodies}

-- lists made place by place agree place by place
pub zip_range : {A B : Type 0} (R : A → B → Type 0) (f : ℕ → A) (g : ℕ → B) (a m : ℕ) → ((b : ℕ) → a ≤ b → b < a + m → R (f b) (g b))
    → AllZip R (map f (range_with_len a m)) (map g (range_with_len a m))
zip_range R f g a zero h = tt
zip_range R f g a (suc m) h = (h a (omega arith) (omega arith), zip_range R f g (a + 1) m (λ b low high. h b (omega arith) (omega arith)))

-- bins with the same bodies hold the same reads
pub holds_like : (shape : Sizes) (reads bodies others : List (List ℕ)) → length others ≡ shape.n
    → ((i : ℕ) → i < shape.n → body_at bodies i ≡ body_at others i) → HoldsReads shape reads bodies → HoldsReads shape reads others
holds_like shape reads bodies others wide same holds = record {
  wide = wide;
  cuts = holds.cuts;
  cut = holds.cut;
  records = holds.records;
  each = λ i inside. subst (IsBodyOf shape.k (holds.records i)) (same i inside) (holds.each i inside);
  same = holds.same;
}

module _ (shape : Sizes) where
  pub whole_wide : (parts : List Part) → length (whole_bodies shape parts) ≡ shape.n
  whole_wide parts = length-map-range_with_len (whole_body parts) 0 shape.n

  pub whole_at : (parts : List Part) (b : ℕ) → b < shape.n → body_at (whole_bodies shape parts) b ≡ whole_body parts b
  whole_at parts b inside = get_or-map-range_with_len (whole_body parts) 0 shape.n b b [] inside (omega arith)

  abbrev as_bins : List (List ℕ) → BinList
  as_bins bodies = record { shape = shape; bodies = bodies; words = [] }

  pub whole_holds : MergedBinsHoldBoth → EmptyBinsHoldNoReads → (parts : List Part) → AllByRecursion (IsCutTo shape) parts
      → HoldsReads shape (all_reads parts) (whole_bodies shape parts)
  whole_holds merged none [] are =
      holds_like shape [] (replicate shape.n []) (whole_bodies shape []) (whole_wide [])
      (λ i inside. get_or-replicate shape.n i [] [] inside ∙ sym (whole_at [] i inside)) (none shape)
  whole_holds merged none (p ∷ ps) are =
      merged shape p.reads (all_reads ps) (as_bins p.bodies) (as_bins (whole_bodies shape ps)) (as_bins (whole_bodies shape (p ∷ ps))) are.0.holds
      (whole_holds merged none ps are.1) (record {
        shape = refl;
        wide = whole_wide (p ∷ ps) ∙ sym are.0.bins.wide;
        counted = refl;
        bodies = λ i inside.
            let below : i < shape.n = omega (arith, are.0.bins.wide, inside) in
            whole_at (p ∷ ps) i below ∙ ap (λ (l : List ℕ). body_at p.bodies i ++ l) (sym (whole_at ps i below));
        words = λ i inside. absurd (omega (arith, inside));
      })

  abbrev words_of_bin : List Part → ℕ → ℕ
  words_of_bin [] b = 0
  words_of_bin (p ∷ ps) b = capped (slice_index p.words b + words_of_bin ps b)

  whole_part : (parts : List Part) → AllByRecursion (IsCutTo shape) parts → (b : ℕ) → b < shape.n → IsPart b shape (whole_body parts b)
      (words_of_bin parts b)
  whole_part [] are b inside = record {
    within = inside;
    super_kmers = [];
    records = record { each = tt; is = refl };
    belong = λ i d at. absurd
        (omega (arith, at));
    count = omega arith;
  }
  whole_part (p ∷ ps) are b inside =
      part_joined b shape (body_at p.bodies b) (whole_body ps b) (slice_index p.words b) (words_of_bin ps b) (are.0.bins.each b inside)
      (whole_part ps are.1 b inside)

  pub whole_words : List Part → List ℕ
  whole_words parts = map (words_of_bin parts) (range_with_len 0 shape.n)

  pub whole_bins : (parts : List Part) → AllByRecursion (IsCutTo shape) parts → AreBins shape (whole_bodies shape parts) (whole_words parts)
  unfolding whole_words
  whole_bins parts are = record {
    wide = whole_wide parts;
    counted = length-map-range_with_len (words_of_bin parts) 0 shape.n;
    each = λ i inside.
        subst (λ (l : List ℕ). IsPart i shape l (slice_index (map (words_of_bin parts) (range_with_len 0 shape.n)) i)) (sym (whole_at parts i inside))
        (subst (IsPart i shape (whole_body parts i)) (sym (get_or-map-range_with_len (words_of_bin parts) 0 shape.n i i 0 inside (omega arith)))
        (whole_part parts are i inside));
  }
