-- Frames of bins on the writers of their slices.
use Rattle.std.proofs.Common.{◌≡◌, ◌≢◌, ℕ, ◌+◌, ◌-◌, ◌%◌, ◌<◌, ◌≤◌, ◌^◌, ◌⊎◌, inl, inr, Bool, cond, eqb, ltb, min, List, [], ◌∷◌, ◌++◌, length, take, drop, map, get_or, set, Option, None, refl, sym, ap, subst, ◌∙◌, arith, length-append, length-drop}
use Rattle.std.specs.List.{filter, flat_map}
use Rattle.std.specs.Io.KnownBytes.{Appends}
use Rattle.std.proofs.KnownBytes.{Appends-trans, Appends-nil}
use Rattle.std.proofs.lemmas.Bool.{cases_eq, cases_lt, eq-eqb, ne_eqb, lt-ltb, le-ltb}
use Rattle.std.proofs.lemmas.Grind.{flat_map-append}
use Rattle.std.proofs.lemmas.List.{append-nil, length-take-le, get_or-set_same, get_or-set_other, length-map, get_or-map, map-set}
use Rattle.std.proofs.Math.Seq.{take-add, map-set_same}
use Rattle.kmc_device.specs.Device.{Watched, AppendsFront, RisesByOne, HasFailed}
use Rattle.kmc_device.specs.Lemmas.Devices.{front_after, front_of}
use Rattle.kmc_record.specs.Parts.{capped}
use Rattle.kmc_store.specs.Bins.{body_at}
use Rattle.kmc_slice_files.specs.Frames.{Frame, frame, AreFrames, frame_bytes, frames_bytes, body_of}
use Rattle.kmc_slice_files.specs.Lemmas.Rounds.{frames_more, body_more}
use Rattle.kmc_slice_files.specs.Writes.{AreOfBin, joined_bodies, IsBinWritten, IsBinBegun, held_at, AreFramed, AreBegun}

pub of_bin_more : (b : ℕ) (fs gs : List Frame) → AreOfBin b fs → AreOfBin b gs → AreOfBin b (fs ++ gs)
of_bin_more b [] gs of more = more
of_bin_more b (f ∷ fs) gs of more = (of.0, of_bin_more b fs gs of.1 more)

-- a bin of the slice
pub own_frames : (n S s b : ℕ) (fs : List Frame) → b < n → b % S ≡ s → AreOfBin b fs → AreFrames n S s fs
own_frames n S s b [] inside own of = tt
own_frames n S s b (f ∷ fs) inside own of = (
  record { within = subst (λ x. x < n) (sym of.0.bin) inside; own = ap (λ x. x % S) of.0.bin ∙ own; some = of.0.some; most = of.0.most },
  own_frames n S s b fs inside own of.1,
)

pub own_body : (b : ℕ) (fs : List Frame) → AreOfBin b fs → body_of b fs ≡ joined_bodies fs
own_body b [] of = refl
own_body b (f ∷ fs) of =
    ap (λ (t : Bool). flat_map (λ (g : Frame). g.body) (cond t (f ∷ filter (λ (g : Frame). eqb g.bin b) fs)
    (filter (λ (g : Frame). eqb g.bin b) fs))) (eq-eqb f.bin b of.0.bin)
    ∙ ap (λ (l : List ℕ). f.body ++ l) (own_body b fs of.1)

pub no_body : (b i : ℕ) (fs : List Frame) → (b ≡ i → ⊥) → AreOfBin b fs → body_of i fs ≡ []
no_body b i [] differ of = refl
no_body b i (f ∷ fs) differ of =
    ap (λ (t : Bool). flat_map (λ (g : Frame). g.body) (cond t (f ∷ filter (λ (g : Frame). eqb g.bin i) fs)
    (filter (λ (g : Frame). eqb g.bin i) fs))) (ne_eqb f.bin i (λ e. differ (sym of.0.bin ∙ e)))
    ∙ no_body b i fs differ of.1

-- the next bytes of a body
abbrev pub block_at : List ℕ → ℕ → ℕ → List ℕ
block_at body done more = take (done + more - done) (drop done body)

pub block_is : (body : List ℕ) (done more : ℕ) → block_at body done more ≡ take more (drop done body)
block_is body done more = let size : done + more - done ≡ more = omega arith in ap (λ n. take n (drop done body)) size

pub block_long : (body : List ℕ) (done more : ℕ) → more ≤ length body - done → length (block_at body done more) ≡ more
block_long body done more few =
    ap length (block_is body done more) ∙ length-take-le more (drop done body) (omega (arith, few, length-drop done body))

-- one more frame of a bin is out
pub bin_more : (b : ℕ) (body block : List ℕ) (done more n : ℕ) (a c d : Option (List ℕ)) → 1 ≤ more → more ≤ 2 ^ 20 → done + more ≤ length body
    → IsBinWritten b (take done body) n a c → Appends c d (frame_bytes (frame b block))
    → block ≡ take more (drop done body) → length block ≡ more
    → IsBinWritten b (take (done + more) body) (n + 1) a d
bin_more b body block done more n a c d some most within before now is long =
    let f = frame b block in
    record {
      fs = before.fs ++ f ∷ [];
      of_bin = of_bin_more b before.fs (f ∷ []) before.of_bin (record { bin = refl; some = omega (arith, long); most = omega (arith, long) }, tt);
      bytes = flat_map-append (λ (g : Frame). g.body) before.fs (f ∷ []) ∙ (λ i. before.bytes i ++ (append-nil f.body ∙ is) i)
          ∙ sym (take-add done more body);
      many = omega (arith, before.many, length-append before.fs (f ∷ []));
      written = subst (Appends a d) (sym (flat_map-append frame_bytes before.fs (f ∷ []) ∙ ap (λ (l : List ℕ). frames_bytes before.fs ++ l)
          (append-nil (frame_bytes f))))
          (Appends-trans a c d (frames_bytes before.fs) (frame_bytes f) before.written now);
    }

-- a frame of a bin failed
pub bin_begun : (b : ℕ) (body block : List ℕ) (n : ℕ) (a c d : Option (List ℕ)) → 1 ≤ length block → length block ≤ 2 ^ 20
    → IsBinWritten b body n a c → AppendsFront c d (frame_bytes (frame b block)) → IsBinBegun b a d
bin_begun b body block n a c d some most before now =
    let f = frame b block in
    record {
      fs = before.fs ++ f ∷ [];
      of_bin = of_bin_more b before.fs (f ∷ []) before.of_bin (record { bin = refl; some = some; most = most }, tt);
      written = subst (AppendsFront a d) (sym (flat_map-append frame_bytes before.fs (f ∷ [])
          ∙ ap (λ (l : List ℕ). frames_bytes before.fs ++ l) (append-nil (frame_bytes f))))
          (front_after a c d (frames_bytes before.fs) (frame_bytes f) before.written now);
    }

pub none_framed : (n S : ℕ) (bodies : List (List ℕ)) (held : List (Option (List ℕ))) (counts : List ℕ)
    → ((s : ℕ) → s < S → get_or counts s 0 < 2 ^ 64)
    → AreFramed n S 0 bodies held held counts counts
none_framed n S bodies held counts fit = record {
  fs = λ s. [];
  frames = λ s inside. tt;
  each = λ s i inside within. sym (ap (λ b. cond b (cond (eqb (i % S) s) (body_at bodies i) []) []) (le-ltb i 0 (omega arith)));
  many = λ s inside. omega (arith, fit s inside);
  written = λ s inside. Appends-nil (held_at held s);
}

-- the frames of slice t are more
abbrev pub with_more : (ℕ → List Frame) → ℕ → List Frame → ℕ → List Frame
with_more fs t gs s = cond (eqb s t) (fs s ++ gs) (fs s)

more_here : (fs : ℕ → List Frame) (t : ℕ) (gs : List Frame) (s : ℕ) → s ≡ t → with_more fs t gs s ≡ fs s ++ gs
more_here fs t gs s e = ap (λ b. cond b (fs s ++ gs) (fs s)) (eq-eqb s t e)

more_other : (fs : ℕ → List Frame) (t : ℕ) (gs : List Frame) (s : ℕ) → (s ≡ t → ⊥) → with_more fs t gs s ≡ fs s
more_other fs t gs s differ = ap (λ b. cond b (fs s ++ gs) (fs s)) (ne_eqb s t differ)

-- a place below another, or not, is so of the next one too
still_below : (b i : ℕ) → (b ≡ i → ⊥) → ltb i b ≡ ltb i (b + 1)
still_below b i differ = go (cases_lt i b)
  where
    go : (i < b) ⊎ (b ≤ i) → ltb i b ≡ ltb i (b + 1)
    go (inl lt) = lt-ltb i b lt ∙ sym (lt-ltb i (b + 1) (omega arith))
    go (inr ge) = let ne : i ≢ b = λ e. differ (sym e) in le-ltb i b ge ∙ sym (le-ltb i (b + 1) (omega arith))

module _ (n S b : ℕ) (bodies : List (List ℕ)) (olds mids : List (Option (List ℕ))) (counts counted : List ℕ)
    (before : AreFramed n S b bodies olds mids counts counted)
    (inside : b < n) (slice : b % S < S) (wide : S ≤ length mids) (long : S ≤ length counted) (now : Option (List ℕ)) where
  abbrev pub here : ℕ
  here = b % S

  framed_frames : (gs : List Frame) → AreOfBin b gs → (s : ℕ) → s < S → AreFrames n S s (with_more before.fs here gs s)
  framed_frames gs of s in_s = go (cases_eq s here)
    where
      go : (s ≡ here) ⊎ (s ≡ here → ⊥) → AreFrames n S s (with_more before.fs here gs s)
      go (inl e) = subst (AreFrames n S s) (sym (more_here before.fs here gs s e)) (frames_more n S s (before.fs s) gs (before.frames s in_s)
          (own_frames n S s b gs inside (sym e) of))
      go (inr differ) = subst (AreFrames n S s) (sym (more_other before.fs here gs s differ)) (before.frames s in_s)

  -- what a writer holds
  held_here : (s : ℕ) → s ≡ here → held_at (set mids here now) s ≡ now
  held_here s e = ap (held_at (set mids here now)) e ∙ get_or-set_same mids here now None (omega (arith, slice, wide))

  held_other : (s : ℕ) → (s ≡ here → ⊥) → held_at (set mids here now) s ≡ held_at mids s
  held_other s differ = get_or-set_other mids here s now None differ

  pub framed_begun : IsBinBegun b (held_at mids here) now → AreBegun n S olds (set mids here now)
  framed_begun begun = record {
    fs = with_more before.fs here begun.fs;
    frames = framed_frames begun.fs begun.of_bin;
    written = λ s in_s. written s in_s (cases_eq s here);
  }
    where
      written : (s : ℕ) → s < S → (s ≡ here) ⊎ (s ≡ here → ⊥) → AppendsFront (held_at olds s) (held_at (set mids here now) s)
          (frames_bytes (with_more before.fs here begun.fs s))
      written s in_s (inl e) =
          subst (λ (x : Option (List ℕ)). AppendsFront (held_at olds s) x (frames_bytes (with_more before.fs here begun.fs s))) (sym (held_here s e))
          (subst (AppendsFront (held_at olds s) now)
          (sym (ap frames_bytes (more_here before.fs here begun.fs s e) ∙ flat_map-append frame_bytes (before.fs s) begun.fs))
          (front_after (held_at olds s) (held_at mids s) now (frames_bytes (before.fs s)) (frames_bytes begun.fs) (before.written s in_s)
          (subst (λ x. AppendsFront (held_at mids x) now (frames_bytes begun.fs)) (sym e) begun.written)))
      written s in_s (inr differ) =
          subst (λ (x : Option (List ℕ)). AppendsFront (held_at olds s) x (frames_bytes (with_more before.fs here begun.fs s)))
          (sym (held_other s differ))
          (subst (λ (l : List Frame). AppendsFront (held_at olds s) (held_at mids s) (frames_bytes l))
          (sym (more_other before.fs here begun.fs s differ))
          (frames_bytes (before.fs s), ([], append-nil (frames_bytes (before.fs s))), before.written s in_s))

  pub framed_more : (m : ℕ) → IsBinWritten b (body_at bodies b) m (held_at mids here) now
      → AreFramed n S (b + 1) bodies olds (set mids here now) counts (set counted here (min (get_or counted here 0 + m) (2 ^ 64 - 1)))
  framed_more m more = record {
    fs = with_more before.fs here more.fs;
    frames = framed_frames more.fs more.of_bin;
    each = λ s i in_s within. each s i in_s within (cases_eq s here) (cases_eq b i);
    many = λ s in_s. many s in_s (cases_eq s here);
    written = λ s in_s. written s in_s (cases_eq s here);
  }
    where
      written : (s : ℕ) → s < S → (s ≡ here) ⊎ (s ≡ here → ⊥) → Appends (held_at olds s) (held_at (set mids here now) s)
          (frames_bytes (with_more before.fs here more.fs s))
      written s in_s (inl e) =
          subst (λ (x : Option (List ℕ)). Appends (held_at olds s) x (frames_bytes (with_more before.fs here more.fs s))) (sym (held_here s e))
          (subst (Appends (held_at olds s) now) (sym (ap frames_bytes (more_here before.fs here more.fs s e)
          ∙ flat_map-append frame_bytes (before.fs s) more.fs))
          (Appends-trans (held_at olds s) (held_at mids s) now (frames_bytes (before.fs s)) (frames_bytes more.fs) (before.written s in_s)
          (subst (λ x. Appends (held_at mids x) now (frames_bytes more.fs)) (sym e) more.written)))
      written s in_s (inr differ) =
          subst (λ (x : Option (List ℕ)). Appends (held_at olds s) x (frames_bytes (with_more before.fs here more.fs s))) (sym (held_other s differ))
          (subst (λ (l : List Frame). Appends (held_at olds s) (held_at mids s) (frames_bytes l)) (sym (more_other before.fs here more.fs s differ))
          (before.written s in_s))

      many : (s : ℕ) → s < S → (s ≡ here) ⊎ (s ≡ here → ⊥)
          → get_or (set counted here (min (get_or counted here 0 + m) (2 ^ 64 - 1))) s 0 ≡ capped
          (get_or counts s 0 + length (with_more before.fs here more.fs s))
      many s in_s (inl e) =
          let was = before.many s in_s in
          let one : get_or (set counted here (min (get_or counted here 0 + m) (2 ^ 64 - 1))) s 0 ≡ min (get_or counted s 0 + m) (2 ^ 64 - 1) =
          ap (λ x. get_or (set counted here (min (get_or counted here 0 + m) (2 ^ 64 - 1))) x 0) e
          ∙ get_or-set_same counted here _ 0 (omega (arith, slice, long)) ∙ ap (λ x. min (get_or counted x 0 + m) (2 ^ 64 - 1)) (sym e) in
          let two : length (with_more before.fs here more.fs s) ≡ length (before.fs s) + m = ap length (more_here before.fs here more.fs s e)
          ∙ length-append (before.fs s) more.fs ∙ ap (λ x. length (before.fs s) + x) (sym more.many) in
          one ∙ omega (arith, was, two)
      many s in_s (inr differ) =
          get_or-set_other counted here s _ 0 differ ∙ before.many s in_s ∙ ap (λ (l : List Frame). capped (get_or counts s 0 + length l))
          (sym (more_other before.fs here more.fs s differ))

      each : (s i : ℕ) → s < S → i < n → (s ≡ here) ⊎ (s ≡ here → ⊥) → (b ≡ i) ⊎ (b ≡ i → ⊥)
          → body_of i (with_more before.fs here more.fs s) ≡ cond (ltb i (b + 1)) (cond (eqb (i % S) s) (body_at bodies i) []) []
      each s i in_s within (inl e) (inl is) =
          ap (body_of i) (more_here before.fs here more.fs s e) ∙ body_more i (before.fs s) more.fs
          ∙ ap (λ (l : List ℕ). l ++ body_of i more.fs)
          (before.each s i in_s within ∙ ap (λ x. cond x (cond (eqb (i % S) s) (body_at bodies i) []) []) (le-ltb i b (omega (arith, is))))
          ∙ ap (λ x. body_of x more.fs) (sym is) ∙ own_body b more.fs more.of_bin ∙ more.bytes ∙ ap (body_at bodies) is
          ∙ sym (ap (λ x. cond x (cond (eqb (i % S) s) (body_at bodies i) []) []) (lt-ltb i (b + 1) (omega (arith, is)))
          ∙ ap (λ x. cond x (body_at bodies i) []) (eq-eqb (i % S) s (ap (λ x. x % S) (sym is) ∙ sym e)))
      each s i in_s within (inl e) (inr differ) =
          ap (body_of i) (more_here before.fs here more.fs s e) ∙ body_more i (before.fs s) more.fs
          ∙ (λ p. before.each s i in_s within p ++ no_body b i more.fs differ more.of_bin p) ∙ append-nil _
          ∙ ap (λ x. cond x (cond (eqb (i % S) s) (body_at bodies i) []) []) (still_below b i differ)
      each s i in_s within (inr other) (inl is) =
          ap (body_of i) (more_other before.fs here more.fs s other) ∙ before.each s i in_s within
          ∙ ap (λ x. cond x (cond (eqb (i % S) s) (body_at bodies i) []) []) (le-ltb i b (omega (arith, is)))
          ∙ sym (ap (λ x. cond x (cond (eqb (i % S) s) (body_at bodies i) []) []) (lt-ltb i (b + 1) (omega (arith, is)))
          ∙ ap (λ x. cond x (body_at bodies i) []) (ne_eqb (i % S) s (λ q. other (sym q ∙ ap (λ x. x % S) (sym is)))))
      each s i in_s within (inr other) (inr differ) =
          ap (body_of i) (more_other before.fs here more.fs s other) ∙ before.each s i in_s within
          ∙ ap (λ x. cond x (cond (eqb (i % S) s) (body_at bodies i) []) []) (still_below b i differ)

-- the head of a frame failed
pub head_front : (a b : Option (List ℕ)) (h head body : List ℕ) → h ≡ head → AppendsFront a b h → AppendsFront a b (head ++ body)
head_front a b h head body e front = front_of a b head body (subst (AppendsFront a b) e front)

module _ {T : Type 0} (hold : Watched T → Option (List ℕ)) (writers : List (Watched T)) (was new : Watched T) (s : ℕ) (inside : s < length writers)
  where
    abbrev was_here : Watched T
    was_here = get_or writers s was

    held_was : held_at (map hold writers) s ≡ hold was_here
    held_was = get_or-map hold writers s was None inside

    failures_was : get_or (map (λ (w : Watched T). w.failures) writers) s 0 ≡ was_here.failures
    failures_was = get_or-map (λ (w : Watched T). w.failures) writers s was 0 inside

    pub same_failures : new.failures ≡ was_here.failures → map (λ (w : Watched T). w.failures) (set writers s new) ≡ map
        (λ (w : Watched T). w.failures) writers
    same_failures e = map-set_same (λ (w : Watched T). w.failures) writers s new was e

    pub writer_failed : (olds : List ℕ) → map (λ (w : Watched T). w.failures) writers ≡ olds → RisesByOne was_here.failures new.failures
        → HasFailed s olds (map (λ (w : Watched T). w.failures) (set writers s new))
    writer_failed olds e rises =
        let size = length-map writers (λ (w : Watched T). w.failures) in
        let old : get_or olds s 0 ≡ was_here.failures = ap (λ (l : List ℕ). get_or l s 0) (sym e) ∙ failures_was in
        let now : get_or (map (λ (w : Watched T). w.failures) (set writers s new)) s 0 ≡ new.failures =
        ap (λ (l : List ℕ). get_or l s 0) (map-set (λ (w : Watched T). w.failures) writers s new)
        ∙ get_or-set_same (map (λ (w : Watched T). w.failures) writers) s new.failures 0 (omega (arith, size, inside)) in
        record {
          inside = omega (arith, size, inside, ap length e);
          rises = subst (λ m. RisesByOne m (get_or (map (λ (w : Watched T). w.failures) (set writers s new)) s 0)) (sym old)
              (subst (RisesByOne was_here.failures) (sym now) rises);
          others = λ other apart. ap (λ (l : List ℕ). get_or l other 0) (map-set (λ (w : Watched T). w.failures) writers s new)
              ∙ get_or-set_other (map (λ (w : Watched T). w.failures) writers) s other new.failures 0 apart
              ∙ ap (λ (l : List ℕ). get_or l other 0) e;
        }

    module _ (n S b : ℕ) (bodies : List (List ℕ)) (olds : List (Option (List ℕ))) (counts counted : List ℕ)
        (before : AreFramed n S b bodies olds (map hold writers) counts counted)
        (below : b < n) (slice : s ≡ b % S) (wide : length writers ≡ S) (long : length counted ≡ S) where
      at_slice : b % S < S
      at_slice = omega (arith, inside, slice, wide)

      size : length (map hold writers) ≡ S
      size = length-map writers hold ∙ wide

      moved : set (map hold writers) (b % S) (hold new) ≡ map hold (set writers s new)
      moved = ap (λ x. set (map hold writers) x (hold new)) (sym slice) ∙ sym (map-set hold writers s new)

      held_slice : hold was_here ≡ held_at (map hold writers) (b % S)
      held_slice = sym held_was ∙ ap (held_at (map hold writers)) slice

      pub writers_framed : (m : ℕ) → IsBinWritten b (body_at bodies b) m (hold was_here) (hold new)
          → AreFramed n S (b + 1) bodies olds (map hold (set writers s new)) counts (set counted s (min (get_or counted s 0 + m) (2 ^ 64 - 1)))
      writers_framed m more =
          subst (λ (l : List (Option (List ℕ))). AreFramed n S (b + 1) bodies olds l counts (set counted s
          (min (get_or counted s 0 + m) (2 ^ 64 - 1)))) moved
          (subst (λ x. AreFramed n S (b + 1) bodies olds (set (map hold writers) (b % S) (hold new)) counts
          (set counted x (min (get_or counted x 0 + m) (2 ^ 64 - 1)))) (sym slice)
          (framed_more n S b bodies olds (map hold writers) counts counted before below at_slice (omega (arith, size)) (omega (arith, long))
          (hold new)
          m
          (subst (λ (o : Option (List ℕ)). IsBinWritten b (body_at bodies b) m o (hold new)) held_slice more)))

      pub writers_begun : IsBinBegun b (hold was_here) (hold new) → AreBegun n S olds (map hold (set writers s new))
      writers_begun begun =
          subst (AreBegun n S olds) moved
          (framed_begun n S b bodies olds (map hold writers) counts counted before below at_slice (omega (arith, size)) (omega (arith, long))
          (hold new)
          (subst (λ (o : Option (List ℕ)). IsBinBegun b o (hold new)) held_slice begun))
