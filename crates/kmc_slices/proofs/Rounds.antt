-- Rounds behind rounds, on the writers of all slices.
use Rattle.std.proofs.Common.{◌≡◌, inl, ℕ, ◌<◌, ◌^◌, List, [], ◌∷◌, ◌++◌, get_or, Option, Result, Err, IfErr, OnErr, refl, sym, ap, subst, ◌∙◌, append_assoc, append-nil}
use Rattle.std.specs.List.{AllByRecursion, flat_map}
use Rattle.std.proofs.lemmas.List.Concat.{flat_map-append}
use Rattle.std.proofs.KnownBytes.{Appends-nil}
use Rattle.kmc_base.specs.Pieces.{pieces}
use Rattle.kmc_device.specs.Device.{AppendsFront}
use Rattle.kmc_device.specs.Lemmas.Devices.{front_after, front_of, front_all}
use Rattle.kmc_reads.specs.declared.format.Format.{Format}
use Rattle.kmc_record.specs.Shapes.{Sizes, IsShape}
use Rattle.kmc_store.specs.Bins.{AreBins, body_at}
use Rattle.kmc_store.specs.Holds.{HoldsReads}
use Rattle.kmc_store.specs.Laws.{MergedBinsHoldBoth, EmptyBinsHoldNoReads}
use Rattle.kmc_stage_one.specs.Rounds.{HoldsPieces}
use Rattle.kmc_base.specs.Lemmas.PassedOn.{passed_on}
use Rattle.std.specs.Prelude.{IsErrAnd}
use Rattle.kmc_slice_files.specs.Files.{header_bytes}
use Rattle.kmc_slice_files.specs.Frames.{frames_bytes, frame_bytes, end_bytes}
use Rattle.kmc_slice_files.specs.Writes.{EachGot, EachBegan, AreFramed, AreBegun, held_at}
use Rattle.kmc_slice_files.specs.Lemmas.Rounds.{ended, ended_by, ended_is, files_ended, frames_more, opened, round_joined}
use Rattle.kmc_slices.specs.Slices.{Part, IsCutTo, whole_bodies}
use Rattle.kmc_slices.specs.Rounds.{AreAllRounds, AreRounds, AreUnended}
use Rattle.kmc_slices.specs.Cut.{BeganSlices, HoldAllInput, IsLeft, WroteSlices}
use Rattle.kmc_slices.specs.declared.error.CutError.{CutError}
use Rattle.kmc_slices.specs.declared.error.CutError.TheVariants.{Memory, Read, Write, Input, TooLong}
use Rattle.kmc_slices.proofs.Bins.{whole_at, whole_bins, whole_holds, whole_words}

cuts_more : (shape : Sizes) (ps qs : List Part) → AllByRecursion (IsCutTo shape) ps → AllByRecursion (IsCutTo shape) qs → AllByRecursion
    (IsCutTo shape) (ps ++ qs)
cuts_more shape [] qs are more = more
cuts_more shape (p ∷ ps) qs are more = (are.0, cuts_more shape ps qs are.1 more)

module _ (shape : Sizes) (limit S : ℕ) (olds : List (Option (List ℕ))) where
  -- no round was written
  pub rounds_none : (news : List (Option (List ℕ))) (counts : List ℕ) → EachGot (header_bytes shape S) S olds news
      → ((s : ℕ) → s < S → get_or counts s 0 ≡ 0)
      → AreRounds shape limit S [] olds news counts
  rounds_none news counts got none = record {
    rounds = [];
    are = tt;
    reads = refl;
    begun = opened shape S (whole_bodies shape []) olds news counts got none (λ b inside. whole_at shape [] b inside);
  }

  -- one more was
  pub rounds_more : (taken round bodies : List (List ℕ)) (words : List ℕ) (mids news : List (Option (List ℕ))) (counts counted : List ℕ)
      → AreRounds shape limit S taken olds mids counts → AreBins shape bodies words → HoldsPieces shape limit round bodies
      → AreFramed shape.n S shape.n bodies mids news counts counted → AreRounds shape limit S (taken ++ round) olds news counted
  rounds_more taken round bodies words mids news counts counted before bins holds framed =
      let p : Part = record { reads = flat_map (pieces shape.k limit) round; bodies = bodies; words = words } in
      let read : Part → List (List ℕ) = λ q. q.reads in
      record {
        rounds = before.rounds ++ p ∷ [];
        are = cuts_more shape before.rounds (p ∷ []) before.are (record { bins = bins; holds = holds }, tt);
        reads = flat_map-append read before.rounds (p ∷ []) ∙ (λ i. before.reads i ++ append-nil p.reads i) ∙ sym
            (flat_map-append (pieces shape.k limit) taken round);
        begun = round_joined shape S (whole_bodies shape before.rounds) bodies
            (whole_bodies shape (before.rounds ++ p ∷ [])) olds mids news counts counted before.begun framed
            (λ b inside.
            whole_at shape (before.rounds ++ p ∷ []) b inside ∙ flat_map-append (λ (q : Part). body_at q.bodies b) before.rounds (p ∷ [])
            ∙ (λ i. sym (whole_at shape before.rounds b inside) i ++ append-nil (body_at bodies b) i));
      }

  -- what was written has no end
  pub none_unended : AreUnended shape S olds olds
  none_unended = record {
    fs = λ s. [];
    frames = λ s inside. tt;
    written = λ s inside.
        ([], (header_bytes shape S s ++ [], refl), Appends-nil (held_at olds s));
  }

  pub header_unended : (news : List (Option (List ℕ))) → EachBegan (header_bytes shape S) S olds news → AreUnended shape S olds news
  header_unended news began = record {
    fs = λ s. [];
    frames = λ s inside. tt;
    written = λ s inside. front_of (held_at olds s) (held_at news s) (header_bytes shape S s) [] (began s inside);
  }

  pub rounds_unended : (taken : List (List ℕ)) (news : List (Option (List ℕ))) (counts : List ℕ) → AreRounds shape limit S taken olds news counts
      → AreUnended shape S olds news
  rounds_unended taken news counts before = record {
    fs = before.begun.fs;
    frames = λ s inside. (before.begun.has s inside).frames;
    written = λ s inside. front_all (held_at olds s) (held_at news s) (header_bytes shape S s ++ frames_bytes (before.begun.fs s))
        (before.begun.written s inside);
  }

  pub round_unended : (taken : List (List ℕ)) (mids news : List (Option (List ℕ))) (counts : List ℕ) → AreRounds shape limit S taken olds mids counts
      → AreBegun shape.n S mids news → AreUnended shape S olds news
  round_unended taken mids news counts before begun = record {
    fs = λ s. before.begun.fs s ++ begun.fs s;
    frames = λ s inside. frames_more shape.n S s (before.begun.fs s) (begun.fs s) ((before.begun.has s inside).frames) (begun.frames s inside);
    written = λ s inside.
        subst (AppendsFront (held_at olds s) (held_at news s))
        (append_assoc (header_bytes shape S s) (frames_bytes (before.begun.fs s)) (frames_bytes (begun.fs s))
        ∙ ap (λ (l : List ℕ). header_bytes shape S s ++ l) (sym (flat_map-append frame_bytes (before.begun.fs s) (begun.fs s))))
        (front_after (held_at olds s) (held_at mids s) (held_at news s) (header_bytes shape S s ++ frames_bytes (before.begun.fs s))
        (frames_bytes (begun.fs s))
        (before.begun.written s inside) (begun.written s inside));
  }

-- the bins of all rounds hold all reads
rounds_hold : MergedBinsHoldBoth → EmptyBinsHoldNoReads → (format : Format) (shape : Sizes) (limit S : ℕ) (old new : Option (List ℕ))
    (olds news : List (Option (List ℕ))) (counts : List ℕ) (all : AreAllRounds format shape limit S old new olds news counts)
    → HoldAllInput format shape limit old new (whole_bodies shape all.rounds.rounds.rounds)
rounds_hold merged none format shape limit S old new olds news counts all =
    let last = all.rounds in let rounds = last.rounds in
    record {
      bytes = all.bytes;
      given = all.given;
      reads = last.reads;
      are_reads = last.are_reads;
      cuts = last.cuts;
      cut = last.cut;
      words = whole_words shape rounds.rounds;
      bins = whole_bins shape rounds.rounds rounds.are;
      holds = subst (λ (reads : List (List ℕ)). HoldsReads shape reads (whole_bodies shape rounds.rounds)) rounds.reads
          (whole_holds shape merged none rounds.rounds rounds.are);
    }

-- the headers, the rounds and the ends
files_whole : MergedBinsHoldBoth → EmptyBinsHoldNoReads → (format : Format) (shape : Sizes) (limit S : ℕ) (old new : Option (List ℕ))
    (olds mids news : List (Option (List ℕ))) (counts : List ℕ) → IsShape shape.k shape.m shape.n → S < 2 ^ 16
    → AreAllRounds format shape limit S old new olds mids counts → EachGot (λ s. end_bytes (get_or counts s 0)) S mids news
    → WroteSlices format shape limit S old new olds news
files_whole merged none format shape limit S old new olds mids news counts sizes few all got = record {
  bodies = whole_bodies shape all.rounds.rounds.rounds;
  holds = rounds_hold merged none format shape limit S old new olds mids counts all;
  files = files_ended shape S (whole_bodies shape all.rounds.rounds.rounds) olds mids news counts sizes few all.rounds.rounds.begun got;
}

files_begun : MergedBinsHoldBoth → EmptyBinsHoldNoReads → (format : Format) (shape : Sizes) (limit S : ℕ) (old new : Option (List ℕ))
    (olds mids news : List (Option (List ℕ))) (counts : List ℕ) → IsShape shape.k shape.m shape.n → S < 2 ^ 16
    → AreAllRounds format shape limit S old new olds mids counts → EachBegan (λ s. end_bytes (get_or counts s 0)) S mids news
    → BeganSlices format shape limit S old new olds news
files_begun merged none format shape limit S old new olds mids news counts sizes few all began =
    let begun = all.rounds.rounds.begun in
    let bodies = whole_bodies shape all.rounds.rounds.rounds in
    record {
      bodies = bodies;
      holds = rounds_hold merged none format shape limit S old new olds mids counts all;
      fronts = λ s inside. (
        ended shape S bodies olds mids counts sizes few begun s inside,
        ended_is shape S bodies olds mids counts sizes few begun s inside,
        subst (AppendsFront (held_at olds s) (held_at news s)) (ended_by shape S bodies olds mids counts sizes few begun s inside)
            (front_after (held_at olds s) (held_at mids s) (held_at news s) (header_bytes shape S s ++ frames_bytes (begun.fs s))
            (end_bytes (get_or counts s 0)) (begun.written s inside) (began s inside)),
      );
    }

-- the same, of writers that are as many behind each step
module _ (merged : MergedBinsHoldBoth) (none : EmptyBinsHoldNoReads) (format : Format) (shape told : Sizes) (limit S n m : ℕ)
    (old new : Option (List ℕ)) (olds begins mids : List (Option (List ℕ))) (counts counted : List ℕ)
    (rounds : (os : List (Option (List ℕ))) → AreRounds shape limit n [] os begins counts → AreAllRounds format shape limit n old new os mids counted)
    (sizes : IsShape shape.k shape.m shape.n) (few : S < 2 ^ 16) (is : told ≡ shape) (wide : n ≡ S) (same : m ≡ n)
    (got : EachGot (header_bytes told S) S olds begins) (noughts : (s : ℕ) → s < S → get_or counts s 0 ≡ 0) where
  all : AreAllRounds format shape limit S old new olds mids counted
  all =
      let headed = subst (λ (t : Sizes). EachGot (header_bytes t S) S olds begins) is got in
      let begun = subst (λ x. AreRounds shape limit x [] olds begins counts) (sym wide) (rounds_none shape limit S olds begins counts headed noughts) in
      subst (λ x. AreAllRounds format shape limit x old new olds mids counted) wide (rounds olds begun)

  pub wrote_all : (news : List (Option (List ℕ))) → EachGot (λ s. end_bytes (get_or counted s 0)) m mids news
      → WroteSlices format shape limit S old new olds news
  wrote_all news ends = files_whole merged none format shape limit S old new olds mids news counted sizes few all
      (subst (λ x. EachGot (λ s. end_bytes (get_or counted s 0)) x mids news) (same ∙ wide) ends)

  pub began_all : (news : List (Option (List ℕ))) → EachBegan (λ s. end_bytes (get_or counted s 0)) m mids news
      → BeganSlices format shape limit S old new olds news
  began_all news ends = files_begun merged none format shape limit S old new olds mids news counted sizes few all
      (subst (λ x. EachBegan (λ s. end_bytes (get_or counted s 0)) x mids news) (same ∙ wide) ends)

-- what has no end is left so
pub is_left : (format : Format) (shape : Sizes) (limit S : ℕ) (old new : Option (List ℕ)) (olds news : List (Option (List ℕ))) (e : CutError)
    → AreUnended shape S olds news → IsLeft format shape limit S old new olds news e
is_left format shape limit S old new olds news Memory h = h
is_left format shape limit S old new olds news Read h = h
is_left format shape limit S old new olds news (Write s) h = inl h
is_left format shape limit S old new olds news (Input e) h = h
is_left format shape limit S old new olds news TooLong h = h

-- and passed on so
pub left_so : {A B : Type 0} (format : Format) (shape : Sizes) (limit S : ℕ) (old new : Option (List ℕ)) (olds news : List (Option (List ℕ)))
    (r : Result A CutError) (e : CutError)
    (q : Result B CutError) → r ≡ Err e → IsErrAnd q (λ x. x ≡ e) → OnErr r (AreUnended shape S olds news) → IfErr q
    (IsLeft format shape limit S old new olds news)
left_so format shape limit S old new olds news r e q is passed h =
    passed_on (IsLeft format shape limit S old new olds news) q e passed
    (is_left format shape limit S old new olds news e (subst (λ x. OnErr x (AreUnended shape S olds news)) is h))
