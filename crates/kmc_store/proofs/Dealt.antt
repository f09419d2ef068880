-- Cutting reads into chunks and dealing these loses nothing.
use Rattle.std.proofs.Common.{◌≡◌, ℕ, zero, suc, ◌+◌, ◌*◌, ◌%◌, ◌<◌, ◌≤◌, nat_eq, nat_lt, Bool, true, false, cond, List, length, map, drop, refl, sym, ap, ◌∙◌, arith, zero-mul}
use Rattle.std.proofs.Math.Nat.{mod-lt, suc-mul}
use Rattle.std.proofs.lemmas.List.{drop_all}
use Rattle.std.proofs.lemmas.List.Folds.{drop_split}
use Rattle.std.proofs.lemmas.List.Sums.{sum_by-append}
use Rattle.std.specs.List.{sum_by, filter, range_with_len}
use Rattle.kmc_base.specs.Stretches.{Stretch}
use Rattle.kmc_split.specs.declared.runs.Run.{Run}
use Rattle.kmc_split.specs.Laws.{CutExists, CutIsUnique}
use Rattle.kmc_record.specs.Shapes.{Sizes}
use Rattle.kmc_record.specs.Parts.{Parcel, grown, empty_part, bin_super_kmers, all_segments, ArePartsOf}
use Rattle.kmc_store.specs.Deals.{chunk_at, AreSent, AreDealt, AreGathered}
use Rattle.kmc_record.specs.Lemmas.Sums.{sum_none, sum_add}
use Rattle.kmc_store.proofs.Ranges.{ne_of, eq_of, range_same, only, range_one, sum_below}
use Rattle.kmc_store.proofs.Cuts.{one_cuts, cut_of, are_cuts}

-- sums over the chunks are sums over the reads
module _ (batch : ℕ) (reads : List (List ℕ)) (g : List ℕ → ℕ) where
  so_far : (n : ℕ) → sum_below (λ c. sum_by g (chunk_at batch reads c)) n + sum_by g (drop (n * batch) reads) ≡ sum_by g reads
  so_far zero = let none : 0 * batch ≡ 0 = zero-mul batch in omega (arith, ap (λ m. sum_by g (drop m reads)) none)
  so_far (suc n) =
      let m = n * batch in
      let next : m + batch ≡ suc n * batch = sym (suc-mul n batch) in
      omega (
        arith,
        so_far n,
        ap (sum_by g) (drop_split reads m (m + batch) (omega arith)),
        sum_by-append g (chunk_at batch reads n)
            (drop (m + batch) reads),
        ap (λ j. sum_by g (drop j reads)) next,
      )

  pub chunks_sum : (n : ℕ) → length reads ≤ n * batch → sum_below (λ c. sum_by g (chunk_at batch reads c)) n ≡ sum_by g reads
  chunks_sum n all = omega (arith, so_far n, ap (sum_by g) (drop_all (n * batch) reads all))

module _ (exists : CutExists) (unique : CutIsUnique) (shape : Sizes) (batch : ℕ) (reads : List (List ℕ)) where
  -- the records of a bin in a chunk, and the parts of a chunk
  abbrev pub chunk_segments : ℕ → List Stretch
  chunk_segments c = all_segments shape.k (chunk_at batch reads c)

  abbrev pub chunk_part : ℕ → ℕ → Parcel
  chunk_part c bin = grown shape.k (bin_super_kmers shape.k shape.n bin (chunk_segments c)
      (map (cut_of exists shape.k shape.m shape.n) (chunk_segments c))) (empty_part c shape bin)

  abbrev pub chunk_parts : ℕ → List Parcel
  chunk_parts c = filter (λ p. nat_lt 0 (length p.body)) (map (chunk_part c) (range_with_len 0 shape.n))

  parts_are : (c : ℕ) (parts : List Parcel) → ArePartsOf c (chunk_at batch reads c) shape parts → parts ≡ chunk_parts c
  parts_are c parts h =
      let cuts = map (cut_of exists shape.k shape.m shape.n) (chunk_segments c) in
      let same : h.cuts ≡ cuts = one_cuts unique shape.k shape.m (chunk_segments c) h.cuts cuts h.cut
      (are_cuts exists shape.k shape.m shape.n (chunk_segments c)) in
      h.are ∙ ap (λ (cs : List (List Run)). filter (λ p. nat_lt 0 (length p.body))
      (map (λ bin. grown shape.k (bin_super_kmers shape.k shape.n bin (chunk_segments c) cs) (empty_part c shape bin)) (range_with_len 0 shape.n))) same

  module _ (F : Parcel → ℕ) (sp : ℕ) (some : 0 < sp) where
    abbrev total : ℕ → ℕ
    total c = sum_by F (chunk_parts c)

    -- what writer w sends for chunk c
    abbrev turn : ℕ → ℕ → ℕ
    turn c w = only (c % sp) (λ v. total c) w

    one_turn : (c w : ℕ) (parts : List Parcel) → AreSent shape (chunk_at batch reads c) sp w c parts → sum_by F parts ≡ turn c w
    one_turn c w parts h = go (nat_eq w (c % sp)) refl
      where
        go : (t : Bool) → nat_eq w (c % sp) ≡ t → sum_by F parts ≡ turn c w
        go true e = ap (sum_by F) (parts_are c parts (h.own (sym (eq_of w (c % sp) e)))) ∙ ap (λ t. cond t (total c) 0) (sym e)
        go false e = ap (sum_by F) (h.other (λ s. ne_of w (c % sp) e (sym s))) ∙ ap (λ t. cond t (total c) 0) (sym e)

    writer_sum : (c w : ℕ) (parts : List Parcel) → AreDealt shape batch reads sp w c parts → sum_by F parts ≡ sum_below (λ j. turn j w) c
    writer_sum zero w parts h = ap (sum_by F) h
    writer_sum (suc c) w parts h = omega (arith, ap (sum_by F) h.1.1, sum_by-append F h.0 h.1.0, writer_sum c w h.0 h.1.2, one_turn c w h.1.0 h.1.3)

    writers_sum : (c : ℕ) → sum_by (λ w. sum_below (λ j. turn j w) c) (range_with_len 0 sp) ≡ sum_below total c
    writers_sum zero = sum_none (range_with_len 0 sp)
    writers_sum (suc c) = omega (
      arith,
      sum_add (λ w. sum_below (λ j. turn j w) c) (turn c) (range_with_len 0 sp),
      writers_sum c,
      range_one (c % sp)
          (λ v. total c) sp (mod-lt c some),
    )

    -- the sum over what was got is the sum over the parts of all chunks
    pub gathered_sum : (chunks : ℕ) (sent : ℕ → List Parcel) (got : List Parcel)
        → ((w : ℕ) → w < sp → AreDealt shape batch reads sp w chunks (sent w)) → AreGathered sp sent got
        → sum_by F got ≡ sum_below total chunks
    gathered_sum chunks sent got dealt all =
        all F ∙ range_same (λ w. sum_by F (sent w)) (λ w. sum_below (λ j. turn j w) chunks) 0 sp
        (λ w l h. writer_sum chunks w (sent w) (dealt w (omega arith))) ∙ writers_sum chunks
