-- Files of slices, read back: the bins of all parts.
use Rattle.std.proofs.Common.{◌≡◌, ℕ, ◌+◌, ◌%◌, ◌<◌, ◌≤◌, ◌⊎◌, inl, inr, Bool, cond, eqb, List, [], ◌∷◌, ◌++◌, length, get_or, Option, Some, refl, sym, ap, subst, ◌∙◌, arith, append_assoc, append-nil, length-append}
use Rattle.std.specs.Io.KnownBytes.{Appends}
use Rattle.std.specs.List.{AllByRecursion, AllZip, filter, flat_map}
use Rattle.std.proofs.lemmas.Bool.{cases_eq, eq-eqb, ne_eqb}
use Rattle.kmc_base.specs.declared.strands.Strands.{Strands}
use Rattle.kmc_base.specs.Pieces.{pieces}
use Rattle.kmc_base.specs.SpellingLaws.{BodyHasOneList}
use Rattle.kmc_record.specs.Parts.{capped}
use Rattle.kmc_record.specs.Shapes.{Sizes}
use Rattle.kmc_store.specs.Bins.{body_at}
use Rattle.kmc_store.specs.Laws.{MergedBinsHoldBoth, EmptyBinsHoldNoReads}
use Rattle.kmc_count.specs.Laws.{PiecesAreCountedAsReads}
use Rattle.kmc_count.specs.Occurrences.{count_of}
use Rattle.kmc_count.specs.Dump.{IsDump}
use Rattle.kmc_count.specs.Merge.{joined}
use Rattle.kmc_sum.specs.Laws.{CountsAdd}
use Rattle.kmc_stage_two.specs.Laws.{HeldReadsAreCounted, CutReadsAreCounted, BinsShareNoKey}
use Rattle.kmc_slice_files.specs.Files.{IsSlicing, IsSliceFile, file_bytes, header_bytes}
use Rattle.kmc_slice_files.specs.Frames.{Frame, AreFrames, body_of, end_bytes, frames_bytes}
use Rattle.kmc_slice_files.specs.Lemmas.Heads.{length_spare}
use Rattle.kmc_slice_files.specs.Laws.{FilesAreOne}
use Rattle.kmc_slice_files.specs.Writes.{held_at}
use Rattle.kmc_slices.specs.Files.{AreCutTo, AreRead, IsFileOf, files_of}
use Rattle.kmc_slices.specs.Laws.{FilesAreWhole, FileTellsSlice, UnendedIsNoFile, WrittenSlicesAreCut}
use Rattle.kmc_slices.specs.Slices.{Part, AreOfSlice, IsCutTo, all_reads, whole_body}
use Rattle.kmc_slices.proofs.Whole.{slices_whole}

-- frames of a slice have nothing of a bin of another
no_body : (n S s b : ℕ) (fs : List Frame) → (b % S ≡ s → ⊥) → AreFrames n S s fs → body_of b fs ≡ []
no_body n S s b [] differ are = refl
no_body n S s b (f ∷ fs) differ are =
    ap (λ (t : Bool). flat_map (λ (g : Frame). g.body) (cond t (f ∷ filter (λ (g : Frame). eqb g.bin b) fs) (filter (λ (g : Frame). eqb g.bin b) fs)))
    (ne_eqb f.bin b (λ e. differ (ap (λ x. x % S) (sym e) ∙ are.0.own)))
    ∙ no_body n S s b fs differ are.1

module _ (one : FilesAreOne) (shape : Sizes) (S s : ℕ) (slicing : IsSlicing shape S s) (b : ℕ) (inside : b < shape.n) where
  -- a file has one body for each of its bins
  file_body : (bodies : List (List ℕ)) (file : List ℕ) (fs : List Frame) → b % S ≡ s → IsSliceFile shape S s bodies file → IsFileOf shape S s file fs
      → body_of b fs ≡ body_at bodies b
  file_body bodies file fs own is read =
      let same = one shape shape S s S s fs is.fs [] [] slicing is.slicing read.frames is.has.frames
      (ap (λ (l : List ℕ). l ++ []) (sym read.is ∙ is.is)) in
      ap (body_of b) same.3 ∙ is.has.each b inside own

  own_bodies : (ps : List Part) (files : List (List ℕ)) (fss : List (List Frame)) → b % S ≡ s → AllZip
      (λ (p : Part) (file : List ℕ). IsSliceFile shape S s p.bodies file) ps files
      → AllZip (IsFileOf shape S s) files fss → flat_map (body_of b) fss ≡ whole_body ps b
  own_bodies [] [] [] own are read = refl
  own_bodies [] [] (fs ∷ fss) own are read = absurd read
  own_bodies [] (file ∷ files) fss own are read = absurd are
  own_bodies (p ∷ ps) [] fss own are read = absurd are
  own_bodies (p ∷ ps) (file ∷ files) [] own are read = absurd read
  own_bodies (p ∷ ps) (file ∷ files) (fs ∷ fss) own are read =
      (λ i. file_body p.bodies file fs own are.0 read.0 i ++ own_bodies ps files fss own are.1 read.1 i)

  other_bodies : (files : List (List ℕ)) (fss : List (List Frame)) → (b % S ≡ s → ⊥) → AllZip (IsFileOf shape S s) files fss
      → flat_map (body_of b) fss ≡ []
  other_bodies [] [] differ read = refl
  other_bodies [] (fs ∷ fss) differ read = absurd read
  other_bodies (file ∷ files) [] differ read = absurd read
  other_bodies (file ∷ files) (fs ∷ fss) differ read =
      (λ i. no_body shape.n S s b fs differ read.0.frames i ++ other_bodies files fss differ read.1 i)

  pub bin_read : (ps : List Part) (files : List (List ℕ)) (fss : List (List Frame)) → AllZip
      (λ (p : Part) (file : List ℕ). IsSliceFile shape S s p.bodies file) ps files
      → AllZip (IsFileOf shape S s) files fss → flat_map (body_of b) fss ≡ cond (eqb (b % S) s) (whole_body ps b) []
  bin_read ps files fss are read = go (cases_eq (b % S) s)
    where
      go : (b % S ≡ s) ⊎ (b % S ≡ s → ⊥) → flat_map (body_of b) fss ≡ cond (eqb (b % S) s) (whole_body ps b) []
      go (inl own) = own_bodies ps files fss own are read ∙ sym (ap (λ t. cond t (whole_body ps b) []) (eq-eqb (b % S) s own))
      go (inr differ) = other_bodies files fss differ read ∙ sym (ap (λ t. cond t (whole_body ps b) []) (ne_eqb (b % S) s differ))

-- what is read of the files of a slice is the slice of all parts
pub read_is_slice : FilesAreOne → (shape : Sizes) (S s : ℕ) (ps : List Part) (files bodies : List (List ℕ))
    → AllZip (λ (p : Part) (file : List ℕ). IsSliceFile shape S s p.bodies file) ps files → AreRead shape S s files bodies
    → AreOfSlice shape S s ps bodies
read_is_slice one shape S s ps files bodies are read = record {
  wide = read.wide;
  each = λ b inside. read.joined b inside ∙ bin_read one shape S s read.slicing b inside ps files read.fss are read.each;
}

module _ (shape : Sizes) (limit S : ℕ) where
  abbrev part_of : (reads files : List (List ℕ)) → AreCutTo shape limit S reads files → Part
  part_of reads files a = record { reads = flat_map (pieces shape.k limit) a.cuts; bodies = a.bodies; words = a.words }

  abbrev parts_of : (readss filess : List (List (List ℕ))) → AllZip (AreCutTo shape limit S) readss filess → List Part
  parts_of [] [] are = []
  parts_of [] (files ∷ filess) are = []
  parts_of (reads ∷ readss) [] are = []
  parts_of (reads ∷ readss) (files ∷ filess) are = part_of reads files are.0 ∷ parts_of readss filess are.1

  parts_cut : (readss filess : List (List (List ℕ))) (are : AllZip (AreCutTo shape limit S) readss filess) → AllByRecursion (IsCutTo shape)
      (parts_of readss filess are)
  parts_cut [] [] are = tt
  parts_cut [] (files ∷ filess) are = absurd are
  parts_cut (reads ∷ readss) [] are = absurd are
  parts_cut (reads ∷ readss) (files ∷ filess) are = (record { bins = are.0.bins; holds = are.0.holds }, parts_cut readss filess are.1)

  parts_files : (s : ℕ) → s < S → (readss filess : List (List (List ℕ))) (are : AllZip (AreCutTo shape limit S) readss filess)
      → AllZip (λ (p : Part) (file : List ℕ). IsSliceFile shape S s p.bodies file) (parts_of readss filess are) (files_of s filess)
  parts_files s inside [] [] are = tt
  parts_files s inside [] (files ∷ filess) are = absurd are
  parts_files s inside (reads ∷ readss) [] are = absurd are
  parts_files s inside (reads ∷ readss) (files ∷ filess) are = (are.0.each s inside, parts_files s inside readss filess are.1)

  -- the pieces of cut reads are counted as the reads
  parts_count : CutReadsAreCounted → PiecesAreCountedAsReads → CountsAdd → (strands : Strands) → 1 ≤ shape.k → shape.k ≤ limit
      → (readss filess : List (List (List ℕ)))
      (are : AllZip (AreCutTo shape limit S) readss filess) (x : List ℕ) → count_of strands shape.k
      (all_reads (parts_of readss filess are)) x ≡ count_of strands shape.k (joined readss) x
  parts_count cut cuts add strands some room [] [] are x = refl
  parts_count cut cuts add strands some room [] (files ∷ filess) are x = absurd are
  parts_count cut cuts add strands some room (reads ∷ readss) [] are x = absurd are
  parts_count cut cuts add strands some room (reads ∷ readss) (files ∷ filess) are x =
      add strands shape.k (flat_map (pieces shape.k limit) are.0.cuts) (all_reads (parts_of readss filess are.1)) x
      ∙ (λ i. (cuts strands shape.k limit are.0.cuts x some room ∙ cut strands shape.k reads are.0.cuts some are.0.cut x) i
      + parts_count cut cuts add strands some room readss filess are.1 x i)
      ∙ sym (add strands shape.k reads (joined readss) x)

pub files_whole : BodyHasOneList → MergedBinsHoldBoth → EmptyBinsHoldNoReads → HeldReadsAreCounted → BinsShareNoKey → CutReadsAreCounted
    → PiecesAreCountedAsReads → CountsAdd
    → FilesAreOne → FilesAreWhole
files_whole list merged none held apart cut cuts add one strands shape limit every l S parts files lists pairs is room some each least most are many
    dumps dump =
    let ps = parts_of shape limit S parts files are in
    let whole = slices_whole list merged none held apart strands shape every l S ps lists pairs is some each least most
    (parts_cut shape limit S parts files are) many
    (λ s inside.
    let d = dumps s inside in
    record {
      bodies = d.bodies;
      are = read_is_slice one shape S s ps (files_of s files) d.bodies
          (parts_files shape limit S s inside parts files are) d.read;
      dump = d.dump;
    }) dump in
    subst (λ (c : List ℕ → ℕ). IsDump c l pairs) (λ i x. parts_count shape limit S cut cuts add strands is.some_k room parts files are x i) whole

pub file_tells : FilesAreOne → FileTellsSlice
file_tells one shape other S s T t bodies others file is read = go read.fss read.each
  where
    go : (fss : List (List Frame)) → AllZip (IsFileOf other T t) (file ∷ []) fss → (other ≡ shape) × (T ≡ S) × (t ≡ s)
    go [] h = absurd h
    go (fs ∷ fss) h =
        let same = one other shape T t S s fs is.fs [] [] read.slicing is.slicing h.0.frames is.has.frames
        (ap (λ (l : List ℕ). l ++ []) (sym h.0.is ∙ is.is)) in
        (same.0, same.1, same.2)

-- the end has bytes
pub unended : FilesAreOne → UnendedIsNoFile
unended one shape other S s T t fs bodies text slicing frames front is =
    let ends = end_bytes (length fs) in
    let all : file_bytes shape S s fs ++ [] ≡ file_bytes other T t is.fs ++ (front.0 ++ ends) =
    append-nil (file_bytes shape S s fs) ∙ sym (append_assoc (header_bytes shape S s) (frames_bytes fs) ends) ∙ ap (λ (l : List ℕ). l ++ ends)
    (sym front.1)
    ∙ append_assoc text front.0 ends ∙ ap (λ (l : List ℕ). l ++ (front.0 ++ ends)) is.is in
    let same = one shape other S s T t fs is.fs [] (front.0 ++ ends) slicing is.slicing frames is.has.frames all in
    absurd (omega (arith, ap length same.4, length-append front.0 ends, length_spare 65535 0 0 (capped (length fs))))

-- what stands in a file that was empty
appended : (a b : Option (List ℕ)) (file bytes : List ℕ) → a ≡ Some [] → b ≡ Some file → Appends a b bytes → file ≡ bytes
appended a b file bytes before after h = subst (λ (x : Option (List ℕ)). Appends x (Some file) bytes) before
    (subst (λ (y : Option (List ℕ)). Appends a y bytes) after h)

pub written : WrittenSlicesAreCut
written format shape limit S old new olds news files wrote empty full =
    let h = wrote.holds in (
      h.bytes,
      h.reads,
      h.given,
      h.are_reads,
      record {
        cuts = h.cuts;
        cut = h.cut;
        bodies = wrote.bodies;
        words = h.words;
        bins = h.bins;
        holds = h.holds;
        each = λ s inside.
            let f = wrote.files s inside in
            subst (IsSliceFile shape S s wrote.bodies)
            (sym (appended (held_at olds s) (held_at news s) (get_or files s []) f.0 (empty s inside) (full s inside) f.2)) f.1;
      },
    )
