-- Bins hold reads where any sum over the records of a bin is that over the reads' runs of it.
use Rattle.std.proofs.Common.{◌≡◌, ℕ, ◌<◌, cond, List, [], ◌++◌, length, map, refl, sym, ap, subst, ◌∙◌, arith}
use Rattle.std.proofs.lemmas.List.{length-replicate, get_or-replicate}
use Rattle.std.proofs.lemmas.List.Sums.{sum_by-append}
use Rattle.std.specs.Prelude.{bytes_eq}
use Rattle.std.specs.List.{sum_by, count_by}
use Rattle.kmc_split.specs.declared.runs.Run.{Run}
use Rattle.kmc_split.specs.Laws.{CutExists, CutIsUnique}
use Rattle.kmc_base.specs.Record.{spelling, IsBodyOf}
use Rattle.kmc_record.specs.Shapes.{Sizes}
use Rattle.kmc_record.specs.Parts.{AreCuts, bin_super_kmers, all_segments}
use Rattle.kmc_base.specs.SpellingLaws.{BodyHasOneList}
use Rattle.kmc_store.specs.Bins.{BinList, body_at, empty_bins, Merged}
use Rattle.kmc_store.specs.Holds.{HoldsReads}
use Rattle.kmc_record.specs.Lemmas.Sums.{sum_map}
use Rattle.kmc_store.specs.Lemmas.Filling.{body_joined}
use Rattle.kmc_store.proofs.Cuts.{one_cuts, cut_of, are_cuts, read_records_are, read_sum, reads_sum}

module _ (exists : CutExists) (unique : CutIsUnique) (shape : Sizes) where
  -- the records of each bin, and sums over them
  pub record HoldsSums (reads bodies : List (List ℕ)) : Type 0 where
    pub wide : length bodies ≡ shape.n
    pub records : ℕ → List (List ℕ)
    pub each : (i : ℕ) → i < shape.n → IsBodyOf shape.k (records i) (body_at bodies i)
    pub same : (i : ℕ) (G : List ℕ → ℕ) → i < shape.n → sum_by G (records i) ≡ sum_by (read_sum exists shape.k shape.m shape.n G i) reads

  pub sums_held : (reads bodies : List (List ℕ)) → HoldsReads shape reads bodies → HoldsSums reads bodies
  sums_held reads bodies h = record {
    wide = h.wide;
    records = h.records;
    each = h.each;
    same = λ i G l. h.same i l G ∙ ap (sum_by G) (read_records_are exists shape.k shape.m shape.n unique i reads h.cuts h.cut)
        ∙ reads_sum exists shape.k shape.m shape.n G i reads;
  }

  pub held_by_sums : (reads bodies : List (List ℕ)) → HoldsSums reads bodies → HoldsReads shape reads bodies
  held_by_sums reads bodies h =
      let cuts = map (cut_of exists shape.k shape.m shape.n) (all_segments shape.k reads) in
      let cut = are_cuts exists shape.k shape.m shape.n (all_segments shape.k reads) in
      record {
        wide = h.wide;
        cuts = cuts;
        cut = cut;
        records = h.records;
        each = h.each;
        same = λ i l G. h.same i G l ∙ sym (ap (sum_by G) (read_records_are exists shape.k shape.m shape.n unique i reads cuts cut)
            ∙ reads_sum exists shape.k shape.m shape.n G i reads);
      }

  pub both_held : (reads more : List (List ℕ)) (old other new : BinList) → HoldsReads shape reads old.bodies → HoldsReads shape more other.bodies
      → Merged old other new → HoldsReads shape (reads ++ more) new.bodies
  both_held reads more old other new h g m =
      let a = sums_held reads old.bodies h in
      let b = sums_held more other.bodies g in
      held_by_sums (reads ++ more) new.bodies (record {
        wide = m.wide ∙ a.wide;
        records = λ i. a.records i ++ b.records i;
        each = λ i l. subst (IsBodyOf shape.k (a.records i ++ b.records i)) (sym (m.bodies i (omega (arith, a.wide))))
            (body_joined shape.k (a.records i) (b.records i) (body_at old.bodies i) (body_at other.bodies i) (a.each i l) (b.each i l));
        same = λ i G l.
            let g = read_sum exists shape.k shape.m shape.n G i in
            omega (arith, sum_by-append G (a.records i) (b.records i), sum_by-append g reads more, a.same i G l, b.same i G l);
      })

pub none_held : (shape : Sizes) → HoldsReads shape [] (empty_bins shape).bodies
none_held shape = record {
  wide = length-replicate shape.n [];
  cuts = [];
  cut = tt;
  records = λ i. [];
  each = λ i l. record { each = tt; is = get_or-replicate shape.n i [] [] l };
  same = λ i l G. refl;
}

-- a byte list stands among the records of a bin as often as among those of its runs
pub as_often : BodyHasOneList → CutIsUnique → (shape : Sizes) (reads bodies super_kmers : List (List ℕ)) (cuts : List (List Run)) (i : ℕ) (bytes : List ℕ)
    → HoldsReads shape reads bodies → i < shape.n → IsBodyOf shape.k super_kmers (body_at bodies i) → AreCuts shape.k shape.m (all_segments shape.k reads) cuts
    → count_by (bytes_eq bytes) (map (spelling shape.k) super_kmers)
    ≡ count_by (bytes_eq bytes) (map (spelling shape.k) (bin_super_kmers shape.k shape.n i (all_segments shape.k reads) cuts))
as_often one unique shape reads bodies super_kmers cuts i bytes h l body cut =
    let F : List ℕ → ℕ = λ b. cond (bytes_eq bytes b) 1 0 in
    let G : List ℕ → ℕ = λ s. F (spelling shape.k s) in
    let segments = all_segments shape.k reads in
    let records : super_kmers ≡ h.records i = one shape.k super_kmers (h.records i) (body_at bodies i) body (h.each i l) in
    let runs : h.cuts ≡ cuts = one_cuts unique shape.k shape.m segments h.cuts cuts h.cut cut in
    sum_map F (spelling shape.k) super_kmers ∙ ap (sum_by G) records ∙ h.same i l G
    ∙ ap (λ (cs : List (List Run)). sum_by G (bin_super_kmers shape.k shape.n i segments cs)) runs
    ∙ sym (sum_map F (spelling shape.k) (bin_super_kmers shape.k shape.n i segments cuts))
