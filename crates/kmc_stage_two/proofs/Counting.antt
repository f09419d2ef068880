-- The words of the records of bins that hold reads are those of the reads.
use Rattle.std.proofs.Common.{◌≡◌, ℕ, ◌+◌, ◌-◌, ◌<◌, ◌≤◌, cond, nat_eq, All, List, [], ◌∷◌, ◌++◌, length, map, get_or, refl, sym, ap, ap₂, ◌∙◌, arith, mod-lt}
use Rattle.std.specs.List.{AllZip, flat_map, filter, sum_by, range_with_len}
use Rattle.std.proofs.lemmas.List.Sums.{sum_by-cons, sum_by-append}
use Rattle.std.proofs.lemmas.List.{map-append}
use Rattle.std.proofs.lemmas.Slice.Zip.{AllZip-long}
use Rattle.std.proofs.lemmas.List.Elements.{All-head, All-tail, All-append}
use Rattle.kmc_base.specs.declared.strands.Strands.{Strands}
use Rattle.kmc_base.specs.Words.{windows, window}
use Rattle.kmc_base.specs.Strands.{key, keys, placed_key}
use Rattle.kmc_base.specs.Stretches.{Stretch, segments_of}
use Rattle.kmc_base.specs.Places.{IsSegment, counted_words}
use Rattle.kmc_split.specs.declared.runs.Run.{Run}
use Rattle.kmc_split.specs.Cut.{run_codes, run_words}
use Rattle.kmc_split.specs.Laws.{CutKeepsWords}
use Rattle.kmc_record.specs.Shapes.{Sizes}
use Rattle.kmc_base.specs.Record.{IsBodyOf}
use Rattle.kmc_record.specs.RecordWords.{record_keys}
use Rattle.kmc_record.specs.Parts.{AreCuts, bin_runs, bin_super_kmers, all_segments}
use Rattle.kmc_base.specs.SpellingLaws.{BodyHasOneList}
use Rattle.kmc_store.specs.Bins.{body_at}
use Rattle.kmc_store.specs.Holds.{HoldsReads}
use Rattle.kmc_record.specs.Lemmas.Sums.{sum_same, sum_none, sum_add, sum_map, sum_flat_map, sum_filter}
use Rattle.kmc_count.specs.Occurrences.{occurrences}
use Rattle.kmc_count.specs.Merge.{joined}
use Rattle.kmc_count.specs.Lemmas.Zips.{zip_at}
use Rattle.kmc_record.specs.Lemmas.SumPlaces.{sum_places}
use Rattle.kmc_stage_two.proofs.Summed.{sum_range, sum_once, sum_swap, occurs_flat}
use Rattle.kmc_split.specs.Signature.{bin_of_signature}

fuse : {A B C : Type 0} (f : B → C) (g : A → B) (xs : List A) → map (λ a. f (g a)) xs ≡ map f (map g xs)
fuse f g [] = refl
fuse {A} {B} {C} f g (x ∷ xs) = ap (λ (t : List C). f (g x) ∷ t) (fuse f g xs)

module _ (strands : Strands) (k : ℕ) (x : List ℕ) where
  -- in how many places of a list of codes the word x stands
  abbrev places : List ℕ → ℕ
  places s = occurrences (keys strands k s) x

  pub keys_windows : (s : List ℕ) → keys strands k s ≡ map (key strands) (windows k s)
  keys_windows s = fuse (key strands) (window k s) (range_with_len 0 (length s + 1 - k))

  keys_of_runs : (f : Run → List ℕ) (runs : List Run) → flat_map (λ r. keys strands k (f r)) runs ≡ map (key strands) (flat_map (λ r. windows k (f r)) runs)
  keys_of_runs f [] = refl
  keys_of_runs f (r ∷ runs) =
      ap₂ (λ (s t : List (List ℕ)). s ++ t) (keys_windows (f r)) (keys_of_runs f runs)
      ∙ sym (map-append (key strands) (windows k (f r)) (flat_map (λ r. windows k (f r)) runs))

  -- the words of the runs of a cut are those of the segment
  of_cut : (codes : List ℕ) (runs : List Run) → run_words k codes runs ≡ windows k codes → sum_by (λ r. places (run_codes k codes r)) runs ≡ places codes
  of_cut codes runs same =
      sym (occurs_flat (λ (r : Run). keys strands k (run_codes k codes r)) runs x)
      ∙ ap (λ (ws : List (List ℕ)). occurrences ws x) (keys_of_runs (run_codes k codes) runs ∙ ap (map (key strands)) same ∙ sym (keys_windows codes))

  -- a run is in one of the bins
  in_one_bin : (n : ℕ) (codes : List ℕ) (runs : List Run) → 1 ≤ n
      → sum_by (λ i. sum_by places (bin_runs k n i codes runs)) (range_with_len 0 n) ≡ sum_by (λ r. places (run_codes k codes r)) runs
  in_one_bin n codes runs some =
      sum_same (λ i. sum_by places (bin_runs k n i codes runs)) (λ i. sum_by (cell i) runs)
      (λ i. sum_map places (run_codes k codes) (filter (λ r. nat_eq (bin_of_signature n r.signature) i) runs) ∙ sum_filter (λ r. places (run_codes k codes r))
      (λ r. nat_eq (bin_of_signature n r.signature) i) runs)
      (range_with_len 0 n)
      ∙ sum_swap cell (range_with_len 0 n) runs
      ∙ sum_same (λ r. sum_by (λ i. cell i r) (range_with_len 0 n)) (λ r. places (run_codes k codes r))
      (λ r. sum_once (bin_of_signature n r.signature) (places (run_codes k codes r)) 0 n (omega arith) (let lt : bin_of_signature n r.signature < n = mod-lt r.signature some in omega arith))
      runs
    where
      cell : ℕ → Run → ℕ
      cell i r = cond (nat_eq (bin_of_signature n r.signature) i) (places (run_codes k codes r)) 0

  module _ (m n : ℕ) (keeps : CutKeepsWords) (some_k : 1 ≤ k) (some : 1 ≤ n) where
    abbrev IsLong : Stretch → Type 0
    IsLong s = k ≤ length s.codes

    of_segments : (ss : List Stretch) (cuts : List (List Run)) → AreCuts k m ss cuts → All IsLong ss
        → sum_by (λ i. sum_by places (bin_super_kmers k n i ss cuts)) (range_with_len 0 n) ≡ sum_by (λ s. places s.codes) ss
    of_segments [] [] cut long = sum_none (range_with_len 0 n)
    of_segments [] (runs ∷ cuts) cut long = absurd cut
    of_segments (s ∷ ss) [] cut long = absurd cut
    of_segments (s ∷ ss) (runs ∷ cuts) cut long =
        sum_same (λ i. sum_by places (bin_runs k n i s.codes runs ++ bin_super_kmers k n i ss cuts))
        (λ i. sum_by places (bin_runs k n i s.codes runs) + sum_by places (bin_super_kmers k n i ss cuts))
        (λ i. sum_by-append places (bin_runs k n i s.codes runs) (bin_super_kmers k n i ss cuts))
        (range_with_len 0 n)
        ∙ sum_add (λ i. sum_by places (bin_runs k n i s.codes runs)) (λ i. sum_by places (bin_super_kmers k n i ss cuts)) (range_with_len 0 n)
        ∙ ap₂ (λ (a b : ℕ). a + b)
        (in_one_bin n s.codes runs some ∙ of_cut s.codes runs (keeps k m s.codes runs some_k (All-head IsLong s ss long) cut.0))
        (of_segments ss cuts cut.1 (All-tail IsLong s ss long))
        ∙ sym (sum_by-cons (λ (s : Stretch). places s.codes) s ss)

  -- all segments of reads have a word
  all_long : ((read : List ℕ) → All (IsSegment k read) (segments_of k read)) → (reads : List (List ℕ)) → All (λ (s : Stretch). k ≤ length s.codes)
      (all_segments k reads)
  all_long are [] = λ i d lt. absurd (let no : ⊥ = omega arith in no)
  all_long are (read ∷ reads) = All-append (λ (s : Stretch). k ≤ length s.codes) (segments_of k read) (all_segments k reads)
      (λ i d lt. (are read i d lt).long) (all_long are reads)

  -- the words of the segments are those at the counted places
  of_reads : ((read : List ℕ) → flat_map (λ s. keys strands k s.codes) (segments_of k read) ≡ map (placed_key strands) (counted_words k read))
      → (reads : List (List ℕ))
      → sum_by (λ s. places s.codes) (all_segments k reads) ≡ occurrences (flat_map (λ read. map (placed_key strands) (counted_words k read)) reads) x
  of_reads same reads =
      sum_flat_map (λ (s : Stretch). places s.codes) (segments_of k) reads
      ∙ sum_same (λ read. sum_by (λ s. places s.codes) (segments_of k read)) (λ read. occurrences (map (placed_key strands) (counted_words k read)) x)
      (λ read. sym (occurs_flat (λ (s : Stretch). keys strands k s.codes) (segments_of k read) x) ∙ ap (λ (ws : List (List ℕ)). occurrences ws x) (same read))
      reads
      ∙ sym (occurs_flat (λ read. map (placed_key strands) (counted_words k read)) reads x)

  -- the words of all bins, bin by bin
  of_bins : (sss : List (List (List ℕ))) → occurrences (joined (map (record_keys strands k) sss)) x ≡ sum_by (λ i. sum_by places (get_or sss i []))
      (range_with_len 0 (length sss))
  of_bins sss =
      occurs_flat (λ (ws : List (List ℕ)). ws) (map (record_keys strands k) sss) x
      ∙ sum_map (λ (ws : List (List ℕ)). occurrences ws x) (record_keys strands k) sss
      ∙ sum_same (λ (ss : List (List ℕ)). occurrences (record_keys strands k ss) x) (sum_by places) (λ ss. occurs_flat (keys strands k) ss x) sss
      ∙ sum_places (sum_by places) [] sss

pub held_counted : BodyHasOneList → CutKeepsWords → ((k : ℕ) (read : List ℕ) → All (IsSegment k read) (segments_of k read))
    → ((strands : Strands) (k : ℕ) (read : List ℕ) → 1 ≤ k → flat_map (λ s. keys strands k s.codes) (segments_of k read) ≡ map (placed_key strands)
    (counted_words k read))
    → (strands : Strands) (shape : Sizes) (reads bodies : List (List ℕ)) (sss : List (List (List ℕ)))
    → 1 ≤ shape.k → 1 ≤ shape.n → HoldsReads shape reads bodies → AllZip (IsBodyOf shape.k) sss bodies
    → (x : List ℕ) → occurrences (joined (map (record_keys strands shape.k) sss)) x ≡ occurrences
    (flat_map (λ read. map (placed_key strands) (counted_words shape.k read)) reads) x
held_counted one keeps segments keyed strands shape reads bodies sss some_k some h zip x =
    of_bins strands k x sss
    ∙ ap (λ n. sum_by (λ i. sum_by (places strands k x) (get_or sss i [])) (range_with_len 0 n)) wide
    ∙ sum_range (λ i. sum_by (places strands k x) (get_or sss i [])) (λ i. sum_by (places strands k x)
    (bin_super_kmers k shape.n i (all_segments k reads) h.cuts)) 0 shape.n same
    ∙ of_segments strands k x shape.m shape.n keeps some_k some (all_segments k reads) h.cuts h.cut (all_long strands k x (segments k) reads)
    ∙ of_reads strands k x (λ read. keyed strands k read some_k) reads
  where
    k : ℕ
    k = shape.k

    wide : length sss ≡ shape.n
    wide = sym (AllZip-long (IsBodyOf k) sss bodies zip) ∙ h.wide

    same : (i : ℕ) → 0 ≤ i → i < 0 + shape.n → sum_by (places strands k x) (get_or sss i []) ≡ sum_by (places strands k x)
        (bin_super_kmers k shape.n i (all_segments k reads) h.cuts)
    same i from to =
        let lt : i < shape.n = omega arith in
        ap (sum_by (places strands k x)) (one k (get_or sss i []) (h.records i) (body_at bodies i)
        (zip_at (IsBodyOf k) sss bodies i [] [] zip (omega (arith, wide))) (h.each i lt))
        ∙ h.same i lt (places strands k x)
