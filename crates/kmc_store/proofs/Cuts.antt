-- The super-k-mers of reads, by one choice of cuts.
use Rattle.std.proofs.Common.{◌≡◌, ℕ, List, [], ◌∷◌, ◌++◌, map, refl, ap, ◌∙◌}
use Rattle.std.specs.List.{sum_by, flat_map}
use Rattle.kmc_base.specs.Stretches.{Stretch, segments_of}
use Rattle.kmc_split.specs.declared.runs.Run.{Run}
use Rattle.kmc_split.specs.Laws.{CutExists, CutIsUnique}
use Rattle.kmc_record.specs.Parts.{bin_runs, AreCuts, bin_super_kmers, all_segments}
use Rattle.kmc_record.specs.Lemmas.Sums.{sum_flat_map}

pub one_cuts : CutIsUnique → (k m : ℕ) (ss : List Stretch) (cs ds : List (List Run)) → AreCuts k m ss cs → AreCuts k m ss ds → cs ≡ ds
one_cuts unique k m [] [] [] h g = refl
one_cuts unique k m [] [] (d ∷ ds) h g = absurd g
one_cuts unique k m [] (c ∷ cs) ds h g = absurd h
one_cuts unique k m (s ∷ ss) [] ds h g = absurd h
one_cuts unique k m (s ∷ ss) (c ∷ cs) [] h g = absurd g
one_cuts unique k m (s ∷ ss) (c ∷ cs) (d ∷ ds) h g =
    let first = unique k m s.codes c d h.0 g.0 in
    let rest = one_cuts unique k m ss cs ds h.1 g.1 in
    λ i. first i ∷ rest i

module _ (exists : CutExists) (k m n : ℕ) where
  abbrev pub cut_of : Stretch → List Run
  cut_of s = (exists k m s.codes).0

  pub are_cuts : (ss : List Stretch) → AreCuts k m ss (map cut_of ss)
  are_cuts [] = tt
  are_cuts (s ∷ ss) = ((exists k m s.codes).1, are_cuts ss)

  -- the super-k-mers of a bin in a segment, and in reads
  abbrev pub runs_of : ℕ → Stretch → List (List ℕ)
  runs_of i s = bin_runs k n i s.codes (cut_of s)

  abbrev pub read_records : ℕ → List (List ℕ) → List (List ℕ)
  read_records i reads = flat_map (runs_of i) (all_segments k reads)

  segment_records : (i : ℕ) (ss : List Stretch) → bin_super_kmers k n i ss (map cut_of ss) ≡ flat_map (runs_of i) ss
  segment_records i [] = refl
  segment_records i (s ∷ ss) = ap (λ t. runs_of i s ++ t) (segment_records i ss)

  pub read_records_are : CutIsUnique → (i : ℕ) (reads : List (List ℕ)) (cuts : List (List Run)) → AreCuts k m (all_segments k reads) cuts
      → bin_super_kmers k n i (all_segments k reads) cuts ≡ read_records i reads
  read_records_are unique i reads cuts h =
      ap (bin_super_kmers k n i (all_segments k reads)) (one_cuts unique k m (all_segments k reads) cuts (map cut_of (all_segments k reads)) h
      (are_cuts (all_segments k reads))) ∙ segment_records i (all_segments k reads)

  -- a sum over the super-k-mers of reads, read by read
  abbrev pub read_sum : (List ℕ → ℕ) → ℕ → List ℕ → ℕ
  read_sum G i read = sum_by (λ s. sum_by G (runs_of i s)) (segments_of k read)

  pub reads_sum : (G : List ℕ → ℕ) (i : ℕ) (reads : List (List ℕ)) → sum_by G (read_records i reads) ≡ sum_by (read_sum G i) reads
  reads_sum G i reads = sum_flat_map G (runs_of i) (all_segments k reads) ∙ sum_flat_map (λ s. sum_by G (runs_of i s)) (segments_of k) reads
