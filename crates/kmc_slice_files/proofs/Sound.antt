-- A file that was written is read as it is.
use Rattle.std.proofs.Common.{◌≡◌, ℕ, ◌+◌, ◌%◌, ◌<◌, ◌^◌, ◌⊎◌, inl, inr, Bool, cond, eqb, List, [], ◌∷◌, ◌++◌, length, Option, Some, None, refl, sym, ap, subst, ◌∙◌, arith, append_assoc, length-append}
use Rattle.std.specs.Int.{w16, w32, w64, to_le_bytes, from_le_bytes}
use Rattle.std.specs.List.{filter, flat_map}
use Rattle.std.specs.Io.KnownBytes.{Consumes, IsAtEnd}
use Rattle.std.proofs.lemmas.Bool.{cases_eq, eq-eqb, ne_eqb}
use Rattle.std.proofs.lemmas.List.{append-nil}
use Rattle.std.proofs.lemmas.Nat.{from_le_bytes-to_le_bytes_8}
use Rattle.kmc_record.specs.Shapes.{Sizes}
use Rattle.kmc_store.specs.Bins.{body_at}
use Rattle.kmc_slice_files.specs.Check.{hashed}
use Rattle.kmc_slice_files.specs.Frames.{Frame, AreFrames, frame_bytes, frames_bytes, end_bytes, check_of, body_of, NO_BIN}
use Rattle.kmc_slice_files.specs.Files.{LETTERS, VERSION, IsSlicing, IsSliceFile, front_bytes, slicing_bytes, header_bytes, file_bytes}
use Rattle.kmc_slice_files.specs.Headers.{IsMade, IsTold, IsHeaderFault, front_of, sizes_of}
use Rattle.kmc_slice_files.specs.Reads.{BeginsNothing}
use Rattle.kmc_slice_files.specs.Whole.{GaveFile, IsFileFault, IsFramesFault, IsSliceFault}
use Rattle.kmc_slice_files.specs.Laws.{IsOfMachine, IsHeaderOfMachine, AreFramesOfMachine}
use Rattle.kmc_slice_files.specs.declared.header.Told.{Told}
use Rattle.kmc_slice_files.specs.declared.header.HeaderFault.{HeaderFault}
use Rattle.kmc_slice_files.specs.declared.header.HeaderFault.TheVariants.{Read as NoHeaderRead, Short as ShortHeader, NoSliceFile, OtherVersion, Damaged as DamagedHeader, OutOfRange}
use Rattle.kmc_slice_files.specs.declared.read.FrameFault.TheVariants.{Read as NoFrameRead, Memory, Short as ShortFrame, Damaged as DamagedFrame}
use Rattle.kmc_slice_files.specs.declared.frames.FileFault.{FileFault}
use Rattle.kmc_slice_files.specs.declared.frames.FramesFault.{FramesFault}
use Rattle.kmc_slice_files.specs.declared.frames.FramesFault.TheVariants.{Next, Behind, TooMany}
use Rattle.kmc_slice_files.specs.declared.slice.SliceFault.{SliceFault}
use Rattle.kmc_slice_files.specs.declared.slice.SliceFault.TheVariants.{Header, Other, File}
use Rattle.kmc_slice_files.proofs.Hashing.{zero_small}
use Rattle.kmc_slice_files.proofs.Parsing.{parted, two_told, four_told, heads_told, frame_first, frames_told, files_told, header_told}

-- known bytes that give some know what is left
consumed : (xs bs : List ℕ) (new : Option (List ℕ)) → Consumes (Some xs) new bs → (ys : List ℕ) × (new ≡ Some ys) × (xs ≡ bs ++ ys)
consumed xs bs None gave = absurd gave
consumed xs bs (Some ys) gave = (ys, refl, gave)

ended : (new : Option (List ℕ)) (ys : List ℕ) → new ≡ Some ys → IsAtEnd new → ys ≡ []
ended new ys is at = subst IsAtEnd is at

-- frames of a slice have no body of another slice's bin
other_bin : (n S s b : ℕ) (fs : List Frame) → AreFrames n S s fs → (b % S ≡ s → ⊥) → body_of b fs ≡ []
other_bin n S s b [] are differ = refl
other_bin n S s b (f ∷ fs) are differ =
    ap (λ (t : Bool). flat_map (λ (g : Frame). g.body) (cond t (f ∷ filter (λ (g : Frame). eqb g.bin b) fs) (filter (λ (g : Frame). eqb g.bin b) fs)))
    (ne_eqb f.bin b (λ e. differ (ap (λ x. x % S) (sym e) ∙ are.0.own)))
    ∙ other_bin n S s b fs are.1 differ

pub read_as_written : (shape : Sizes) (S s : ℕ) (bodies before after : List (List ℕ)) (bytes : List ℕ) (new : Option (List ℕ))
    → IsSliceFile shape S s bodies bytes → GaveFile shape S s (Some bytes) new before after → length before ≡ shape.n
    → (b : ℕ) → b < shape.n → body_at after b ≡ body_at before b ++ cond (eqb (b % S) s) (body_at bodies b) []
read_as_written shape S s bodies before after bytes new file gave wide b inside =
    let left = consumed bytes (file_bytes shape S s gave.fs) new gave.gave.0 in
    let told = files_told shape shape S s S s file.fs gave.fs [] left.0 file.slicing file.slicing file.has.frames gave.frames
    (append-nil (file_bytes shape S s file.fs) ∙ sym file.is ∙ left.2) in
    gave.bodies.each b (omega (arith, inside, wide)) ∙ ap (λ (l : List ℕ). body_at before b ++ l)
    (ap (body_of b) (sym told.3) ∙ go (cases_eq (b % S) s))
  where
    go : (b % S ≡ s) ⊎ (b % S ≡ s → ⊥) → body_of b file.fs ≡ cond (eqb (b % S) s) (body_at bodies b) []
    go (inl own) = file.has.each b inside own ∙ sym (ap (λ t. cond t (body_at bodies b) []) (eq-eqb (b % S) s own))
    go (inr differ) = other_bin shape.n S s b file.fs file.has.frames differ ∙ sym (ap (λ t. cond t (body_at bodies b) []) (ne_eqb (b % S) s differ))

-- behind frames of a file a frame begins, or the end
module _ (n S s i c : ℕ) (few : n < 65536) (x : List ℕ) (none : BeginsNothing n S s c x) where
  pub something_begins : (fs gs : List Frame) → i + length gs ≡ c + length fs → AreFrames n S s fs → AreFrames n S s gs
      → frames_bytes fs ++ end_bytes i ≡ frames_bytes gs ++ x → ⊥
  something_begins [] [] many are are' e =
      none.end [] (sym e ∙ ap end_bytes (omega (arith, many)) ∙ sym (append-nil (end_bytes c)))
  something_begins (f ∷ fs) [] many are are' e =
      none.frame f (frames_bytes fs ++ end_bytes i) are.0 (sym e ∙ append_assoc (frame_bytes f) (frames_bytes fs) (end_bytes i))
  something_begins [] (g ∷ gs) many are are' e =
      let h = heads_told NO_BIN 0 _ g.bin (length g.body) (check_of g.bin g.body) [] (g.body ++ (frames_bytes gs ++ x))
      (omega arith) (omega (arith, are'.0.within, few)) (omega arith) (omega (arith, are'.0.most))
      (append-nil (end_bytes i) ∙ e ∙ frame_first g gs x) in
      omega (arith, h.0, are'.0.within, few)
  something_begins (f ∷ fs) (g ∷ gs) many are are' e =
      let h = heads_told f.bin (length f.body) (check_of f.bin f.body) g.bin (length g.body) (check_of g.bin g.body)
      (f.body ++ (frames_bytes fs ++ end_bytes i)) (g.body ++ (frames_bytes gs ++ x))
      (omega (arith, are.0.within, few)) (omega (arith, are'.0.within, few)) (omega (arith, are.0.most)) (omega (arith, are'.0.most))
      (sym (frame_first f fs (end_bytes i)) ∙ e ∙ frame_first g gs x) in
      let bodies = parted f.body _ g.body _ h.1 h.2 in
      something_begins fs gs (omega (arith, many)) are.1 are'.1 bodies.1

-- frames and an end are no frames and what is at fault
module _ (n S s : ℕ) (few : n < 65536) (fs : List Frame) (are : AreFrames n S s fs) (ys : List ℕ)
    (is : ys ≡ frames_bytes fs ++ end_bytes (length fs)) where
  frames_taken : (new : Option (List ℕ)) (before : List (List ℕ)) (e : FileFault) → IsFileFault n S s (Some ys) new before e
      → AreFramesOfMachine e.why
  frames_taken new before e fault = go e.why (subst (λ c. IsFramesFault n S s c fault.mid new e.why) fault.took.many fault.why)
    where
      first : (zs : List ℕ) × (fault.mid ≡ Some zs) × (ys ≡ frames_bytes fault.took.fs ++ zs)
      first = consumed ys (frames_bytes fault.took.fs) fault.mid fault.took.gave

      given : (bs : List ℕ) → Consumes fault.mid new bs → (ws : List ℕ) × (new ≡ Some ws) × (first.0 ≡ bs ++ ws)
      given bs gave = consumed first.0 bs new (subst (λ (o : Option (List ℕ)). Consumes o new bs) first.1 gave)

      whole : frames_bytes fs ++ end_bytes (length fs) ≡ frames_bytes fault.took.fs ++ first.0
      whole = sym is ∙ first.2

      refused : BeginsNothing n S s (length fault.took.fs) first.0 → ⊥
      refused none = something_begins n S s (length fs) (length fault.took.fs) few first.0 none fs fault.took.fs (omega arith) are fault.took.frames
          whole

      go : (why : FramesFault) → IsFramesFault n S s (length fault.took.fs) fault.mid new why → AreFramesOfMachine why
      go (Next NoFrameRead) h = tt
      go (Next Memory) h = tt
      go (Next ShortFrame) h =
          let left = given h.bytes h.gave in
          refused (subst (BeginsNothing n S s (length fault.took.fs))
          (sym (left.2 ∙ ap (λ (l : List ℕ). h.bytes ++ l) (ended new left.0 left.1 h.ended) ∙ append-nil h.bytes)) h.none)
      go (Next DamagedFrame) h =
          let left = given h.bytes h.gave in
          refused (subst (BeginsNothing n S s (length fault.took.fs)) (sym left.2) (h.none left.0))
      go Behind h =
          let left = given (end_bytes (length fault.took.fs) ++ h.0) h.2 in
          let told = frames_told n S s n S s few few fs fault.took.fs (length fs) (length fault.took.fs) [] (h.0 ++ left.0) are fault.took.frames
          (ap (λ (l : List ℕ). frames_bytes fs ++ l) (append-nil (end_bytes (length fs))) ∙ whole
          ∙ ap (λ (l : List ℕ). frames_bytes fault.took.fs ++ l) (left.2 ∙ append_assoc (end_bytes (length fault.took.fs)) h.0 left.0)) in
          omega (arith, ap length told.1, length-append h.0 left.0, h.1)
      go TooMany h = tt

eight_told : (n m : ℕ) → n < 2 ^ 64 → m < 2 ^ 64 → to_le_bytes w64 n ≡ to_le_bytes w64 m → n ≡ m
eight_told n m small less e = sym (from_le_bytes-to_le_bytes_8 n small) ∙ ap (from_le_bytes w64) e ∙ from_le_bytes-to_le_bytes_8 m less

-- a header tells its numbers
numbers_told : (t : Told) (bytes : List ℕ) (shape : Sizes) (S s : ℕ) (rest more : List ℕ) → IsTold t bytes → IsSlicing shape S s → bytes
    ++ rest ≡ header_bytes shape S s ++ more
    → (t.letters ≡ LETTERS) × (t.version ≡ VERSION) × (sizes_of t ≡ shape) × (t.slices ≡ S) × (t.slice ≡ s) ×
    (t.check ≡ hashed 0 (slicing_bytes shape S s))
unfolding front_bytes
numbers_told t bytes shape S s rest more told is e =
    let whole = parted (front_of t ++ to_le_bytes w64 t.check) rest (header_bytes shape S s) more refl
    (ap (λ (l : List ℕ). l ++ rest) (sym told.is) ∙ e) in
    let front = parted (front_of t) (to_le_bytes w64 t.check) (slicing_bytes shape S s) (to_le_bytes w64 (hashed 0 (slicing_bytes shape S s)))
    refl whole.0 in
    let kind = to_le_bytes w64 LETTERS ++ to_le_bytes w32 VERSION in
    let sizes = (shape.k ∷ shape.m ∷ []) ++ to_le_bytes w16 shape.n in
    let place = to_le_bytes w16 S ++ to_le_bytes w16 s in
    let kind' = to_le_bytes w64 t.letters ++ to_le_bytes w32 t.version in
    let sizes' = (t.k ∷ t.m ∷ []) ++ to_le_bytes w16 t.bins in
    let place' = to_le_bytes w16 t.slices ++ to_le_bytes w16 t.slice in
    let parts = parted (kind' ++ sizes') place' (kind ++ sizes) place refl front.0 in
    let first = parted kind' sizes' kind sizes refl parts.0 in
    let kinds = parted (to_le_bytes w64 t.letters) (to_le_bytes w32 t.version) (to_le_bytes w64 LETTERS) (to_le_bytes w32 VERSION) refl first.0 in
    let both = parted (t.k ∷ t.m ∷ []) (to_le_bytes w16 t.bins) (shape.k ∷ shape.m ∷ []) (to_le_bytes w16 shape.n) refl first.1 in
    let places = parted (to_le_bytes w16 t.slices) (to_le_bytes w16 t.slice) (to_le_bytes w16 S) (to_le_bytes w16 s) refl parts.1 in
    let km : (t.k ∷ t.m ∷ []) ≡ (shape.k ∷ shape.m ∷ []) = both.0 in
    let k : t.k ≡ shape.k = cc (km) in
    let m : t.m ≡ shape.m = cc (km) in
    let n = two_told t.bins shape.n told.bins (omega (arith, is.sizes.most_n)) both.1 in (
      eight_told t.letters LETTERS told.letters (omega arith) kinds.0,
      four_told t.version VERSION told.version (omega arith) kinds.1,
      (λ i. record { k = k i; m = m i; n = n i }),
      two_told t.slices S told.slices (omega (arith, is.most)) places.0,
      two_told t.slice s told.slice (omega (arith, is.within, is.most)) places.1,
      eight_told t.check (hashed 0 (slicing_bytes shape S s)) told.check (zero_small (slicing_bytes shape S s)) front.1,
    )

length-header : (shape : Sizes) (S s : ℕ) → length (header_bytes shape S s) ≡ 28
unfolding front_bytes
length-header shape S s = refl

-- the header of a file is no header that is refused
module _ (shape : Sizes) (S s : ℕ) (made : IsMade shape) (is : IsSlicing shape S s) (more : List ℕ) (new : Option (List ℕ)) where
  pub header_taken : (e : HeaderFault) → IsHeaderFault (Some (header_bytes shape S s ++ more)) new e → IsHeaderOfMachine e
  header_taken NoHeaderRead h = tt
  header_taken ShortHeader h =
      let left = consumed (header_bytes shape S s ++ more) h.0 new h.1 in
      omega (
        arith,
        h.2,
        ap length left.2,
        length-append h.0 left.0,
        ap length (ended new left.0 left.1 h.3),
        length-append (header_bytes shape S s)
            more,
        length-header shape S s,
      )
  header_taken NoSliceFile h =
      let left = consumed (header_bytes shape S s ++ more) h.bytes new h.gave in
      let told = numbers_told h.why.0 h.bytes shape S s left.0 more h.why.1 is (sym left.2) in
      h.why.2 told.0
  header_taken (OtherVersion v) h =
      let left = consumed (header_bytes shape S s ++ more) h.bytes new h.gave in
      let told = numbers_told h.why.0 h.bytes shape S s left.0 more h.why.1 is (sym left.2) in
      h.why.2.2 (h.why.2.1 ∙ told.1)
  header_taken DamagedHeader h =
      let left = consumed (header_bytes shape S s ++ more) h.bytes new h.gave in
      let told = numbers_told h.why.0 h.bytes shape S s left.0 more h.why.1 is (sym left.2) in
      h.why.2.2 (told.5 ∙ ap (hashed 0) (λ i. front_bytes (sym told.0 i) (sym told.1 i) (sym told.2 i).k (sym told.2 i).m (sym told.2 i).n
      (sym told.3 i) (sym told.4 i)))
  header_taken OutOfRange h =
      let left = consumed (header_bytes shape S s ++ more) h.bytes new h.gave in
      let told = numbers_told h.why.0 h.bytes shape S s left.0 more h.why.1 is (sym left.2) in
      h.why.2.3 (subst IsMade (sym told.2) made) (omega (arith, told.3, told.4, is.within))

pub sound_taken : (shape : Sizes) (S s : ℕ) (bodies before : List (List ℕ)) (bytes : List ℕ) (new : Option (List ℕ)) (e : SliceFault)
    → IsMade shape → IsSliceFile shape S s bodies bytes → IsSliceFault shape S s (Some bytes) new before e → IsOfMachine e
sound_taken shape S s bodies before bytes new (Header e) made file fault =
    header_taken shape S s made file.slicing (frames_bytes file.fs ++ end_bytes (length file.fs)) new e
    (subst (λ (l : List ℕ). IsHeaderFault (Some l) new e) file.is fault)
sound_taken shape S s bodies before bytes new (Other h) made file fault =
    let left = consumed bytes (header_bytes h.shape h.slices h.slice) new fault.gave in
    let told = header_told h.shape shape h.slices h.slice S s left.0 (frames_bytes file.fs ++ end_bytes (length file.fs)) fault.is file.slicing
    (sym left.2 ∙ file.is) in
    fault.differs (told.0, told.1, told.2)
sound_taken shape S s bodies before bytes new (File e) made file fault =
    let left = consumed bytes (header_bytes shape S s) fault.mid fault.header in
    let told = header_told shape shape S s S s left.0 (frames_bytes file.fs ++ end_bytes (length file.fs)) file.slicing file.slicing
    (sym left.2 ∙ file.is) in
    frames_taken shape.n S s (omega (arith, file.slicing.sizes.most_n)) file.fs file.has.frames left.0 told.3 new before e
    (subst (λ (o : Option (List ℕ)). IsFileFault shape.n S s o new before e) left.1 fault.fault)
