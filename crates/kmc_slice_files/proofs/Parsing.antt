-- A text begins with one file of a slice at most.
use Rattle.std.proofs.Common.{◌≡◌, ℕ, ◌%◌, ◌<◌, ◌^◌, List, [], ◌∷◌, ◌++◌, length, take, drop, refl, sym, ap, subst, ◌∙◌, arith, append_assoc}
use Rattle.std.specs.Int.{w16, w32, w64, to_le_bytes, from_le_bytes}
use Rattle.std.proofs.lemmas.List.{take_at, drop_at, append-nil}
use Rattle.std.proofs.lemmas.Nat.{from_le_bytes-to_le_bytes_2, from_le_bytes-to_le_bytes_4, from_le_bytes-to_le_bytes_8}
use Rattle.kmc_record.specs.Shapes.{Sizes}
use Rattle.kmc_store.specs.Bins.{body_at}
use Rattle.kmc_slice_files.specs.Frames.{Frame, frame, AreFrames, head_bytes, spare_head, check_of, frame_bytes, frames_bytes, end_bytes, body_of, NO_BIN}
use Rattle.kmc_slice_files.specs.Files.{LETTERS, VERSION, IsSlicing, IsSliceFile, front_bytes, slicing_bytes, header_bytes, file_bytes}
use Rattle.kmc_slice_files.specs.Check.{hashed}

-- equal lists that begin with lists of one length
pub parted : (a b c d : List ℕ) → length a ≡ length c → a ++ b ≡ c ++ d → (a ≡ c) × (b ≡ d)
parted a b c d long e = (
  sym (take_at a b (length a) refl) ∙ ap (take (length a)) e ∙ take_at c d (length a) (sym long),
  sym (drop_at a b (length a) refl) ∙ ap (drop (length a)) e ∙ drop_at c d (length a) (sym long),
)

pub two_told : (n m : ℕ) → n < 2 ^ 16 → m < 2 ^ 16 → to_le_bytes w16 n ≡ to_le_bytes w16 m → n ≡ m
two_told n m small less e = sym (from_le_bytes-to_le_bytes_2 n small) ∙ ap (from_le_bytes w16) e ∙ from_le_bytes-to_le_bytes_2 m less

pub four_told : (n m : ℕ) → n < 2 ^ 32 → m < 2 ^ 32 → to_le_bytes w32 n ≡ to_le_bytes w32 m → n ≡ m
four_told n m small less e = sym (from_le_bytes-to_le_bytes_4 n small) ∙ ap (from_le_bytes w32) e ∙ from_le_bytes-to_le_bytes_4 m less

-- heads tell their bins and lengths
pub heads_told : (a l c b m d : ℕ) (rest more : List ℕ) → a < 2 ^ 16 → b < 2 ^ 16 → l < 2 ^ 32 → m < 2 ^ 32
    → head_bytes a l c ++ rest ≡ head_bytes b m d ++ more → (a ≡ b) × (l ≡ m) × (rest ≡ more)
unfolding spare_head
heads_told a l c b m d rest more sa sb sl sm e =
    let all = parted (head_bytes a l c) rest (head_bytes b m d) more refl e in
    let first = parted ((to_le_bytes w16 a ++ to_le_bytes w16 0) ++ to_le_bytes w32 l) (to_le_bytes w64 c)
    ((to_le_bytes w16 b ++ to_le_bytes w16 0) ++ to_le_bytes w32 m) (to_le_bytes w64 d) refl all.0 in
    let second = parted (to_le_bytes w16 a ++ to_le_bytes w16 0) (to_le_bytes w32 l) (to_le_bytes w16 b ++ to_le_bytes w16 0) (to_le_bytes w32 m)
    refl first.0 in
    let third = parted (to_le_bytes w16 a) (to_le_bytes w16 0) (to_le_bytes w16 b) (to_le_bytes w16 0) refl second.0 in
    (two_told a b sa sb third.0, four_told l m sl sm second.1, all.1)

-- the first frame, its head before its body
pub frame_first : (f : Frame) (fs : List Frame) (rest : List ℕ)
    → frames_bytes (f ∷ fs) ++ rest ≡ head_bytes f.bin (length f.body) (check_of f.bin f.body) ++ (f.body ++ (frames_bytes fs ++ rest))
frame_first f fs rest =
    append_assoc (frame_bytes f) (frames_bytes fs) rest ∙ append_assoc (head_bytes f.bin (length f.body) (check_of f.bin f.body)) f.body
    (frames_bytes fs ++ rest)

module _ (n S s m T t : ℕ) (few : n < 65536) (less : m < 65536) where
  -- frames and an end are told apart by their bytes
  pub frames_told : (fs gs : List Frame) (i j : ℕ) (rest more : List ℕ) → AreFrames n S s fs → AreFrames m T t gs
      → frames_bytes fs ++ (end_bytes i ++ rest) ≡ frames_bytes gs ++ (end_bytes j ++ more) → (fs ≡ gs) × (rest ≡ more)
  frames_told [] [] i j rest more are are' e =
      let h = heads_told NO_BIN 0 _ NO_BIN 0 _ rest more (omega arith) (omega arith) (omega arith) (omega arith) e in (refl, h.2)
  frames_told [] (g ∷ gs) i j rest more are are' e =
      let h = heads_told NO_BIN 0 _ g.bin (length g.body) (check_of g.bin g.body) rest (g.body ++ (frames_bytes gs ++ (end_bytes j ++ more)))
      (omega arith) (omega (arith, are'.0.within)) (omega arith) (omega (arith, are'.0.most))
      (e ∙ frame_first g gs (end_bytes j ++ more)) in
      absurd (omega (arith, h.0, are'.0.within))
  frames_told (f ∷ fs) [] i j rest more are are' e =
      let h = heads_told f.bin (length f.body) (check_of f.bin f.body) NO_BIN 0 _ (f.body ++ (frames_bytes fs ++ (end_bytes i ++ rest))) more
      (omega (arith, are.0.within)) (omega arith) (omega (arith, are.0.most)) (omega arith)
      (sym (frame_first f fs (end_bytes i ++ rest)) ∙ e) in
      absurd (omega (arith, h.0, are.0.within))
  frames_told (f ∷ fs) (g ∷ gs) i j rest more are are' e =
      let h = heads_told f.bin (length f.body) (check_of f.bin f.body) g.bin (length g.body) (check_of g.bin g.body)
      (f.body ++ (frames_bytes fs ++ (end_bytes i ++ rest))) (g.body ++ (frames_bytes gs ++ (end_bytes j ++ more)))
      (omega (arith, are.0.within)) (omega (arith, are'.0.within)) (omega (arith, are.0.most)) (omega (arith, are'.0.most))
      (sym (frame_first f fs (end_bytes i ++ rest)) ∙ e ∙ frame_first g gs (end_bytes j ++ more)) in
      let bodies = parted f.body _ g.body _ h.1 h.2 in
      let others = frames_told fs gs i j rest more are.1 are'.1 bodies.1 in
      ((λ p. frame (h.0 p) (bodies.0 p) ∷ others.0 p), others.1)

-- what stands before the shape
abbrev letters : List ℕ
letters = to_le_bytes w64 LETTERS ++ to_le_bytes w32 VERSION

abbrev sizes_of : Sizes → List ℕ
sizes_of shape = (shape.k ∷ shape.m ∷ []) ++ to_le_bytes w16 shape.n

sizes_told : (shape other : Sizes) → shape.n < 65536 → other.n < 65536 → sizes_of shape ≡ sizes_of other → shape ≡ other
sizes_told shape other few less e =
    let ends = parted (shape.k ∷ shape.m ∷ []) (to_le_bytes w16 shape.n) (other.k ∷ other.m ∷ []) (to_le_bytes w16 other.n) refl e in
    let first : (shape.k ∷ shape.m ∷ []) ≡ (other.k ∷ other.m ∷ []) = ends.0 in
    let k : shape.k ≡ other.k = cc (first) in
    let m : shape.m ≡ other.m = cc (first) in
    let n = two_told shape.n other.n few less ends.1 in
    λ i. record { k = k i; m = m i; n = n i }

pub header_told : (shape other : Sizes) (S s T t : ℕ) (rest more : List ℕ) → IsSlicing shape S s → IsSlicing other T t
    → header_bytes shape S s ++ rest ≡ header_bytes other T t ++ more → (shape ≡ other) × (S ≡ T) × (s ≡ t) × (rest ≡ more)
unfolding front_bytes
header_told shape other S s T t rest more is is' e =
    let all = parted (header_bytes shape S s) rest (header_bytes other T t) more refl e in
    let front = parted (slicing_bytes shape S s) (to_le_bytes w64 (hashed 0 (slicing_bytes shape S s))) (slicing_bytes other T t)
    (to_le_bytes w64 (hashed 0 (slicing_bytes other T t))) refl all.0 in
    let parts = parted (letters ++ sizes_of shape) (to_le_bytes w16 S ++ to_le_bytes w16 s) (letters ++ sizes_of other)
    (to_le_bytes w16 T ++ to_le_bytes w16 t) refl front.0 in
    let numbers = parted (to_le_bytes w16 S) (to_le_bytes w16 s) (to_le_bytes w16 T) (to_le_bytes w16 t) refl parts.1 in
    let sizes = parted letters (sizes_of shape) letters (sizes_of other) refl parts.0 in (
      sizes_told shape other (omega (arith, is.sizes.most_n)) (omega (arith, is'.sizes.most_n)) sizes.1,
      two_told S T is.most is'.most numbers.0,
      two_told s t (omega (arith, is.within, is.most)) (omega (arith, is'.within, is'.most)) numbers.1,
      all.1,
    )

pub files_told : (shape other : Sizes) (S s T t : ℕ) (fs gs : List Frame) (rest more : List ℕ)
    → IsSlicing shape S s → IsSlicing other T t → AreFrames shape.n S s fs → AreFrames other.n T t gs
    → file_bytes shape S s fs ++ rest ≡ file_bytes other T t gs ++ more
    → (shape ≡ other) × (S ≡ T) × (s ≡ t) × (fs ≡ gs) × (rest ≡ more)
files_told shape other S s T t fs gs rest more is is' are are' e =
    let h = header_told shape other S s T t ((frames_bytes fs ++ end_bytes (length fs)) ++ rest) ((frames_bytes gs ++ end_bytes (length gs)) ++ more)
    is is'
    (sym (append_assoc (header_bytes shape S s) _ rest) ∙ e ∙ append_assoc (header_bytes other T t) _ more) in
    let f = frames_told shape.n S s other.n T t (omega (arith, is.sizes.most_n)) (omega (arith, is'.sizes.most_n)) fs gs (length fs) (length gs) rest
    more are are'
    (sym (append_assoc (frames_bytes fs) _ rest) ∙ h.3 ∙ append_assoc (frames_bytes gs) _ more) in
    (h.0, h.1, h.2, f.0, f.1)

pub one_meaning : (shape other : Sizes) (S s T t : ℕ) (bodies others : List (List ℕ)) (bytes : List ℕ)
    → IsSliceFile shape S s bodies bytes → IsSliceFile other T t others bytes
    → (shape ≡ other) × (S ≡ T) × (s ≡ t) × ((b : ℕ) → b < shape.n → b % S ≡ s → body_at bodies b ≡ body_at others b)
one_meaning shape other S s T t bodies others bytes file file' =
    let h = files_told shape other S s T t file.fs file'.fs [] [] file.slicing file'.slicing file.has.frames file'.has.frames
    (append-nil _ ∙ sym file.is ∙ file'.is ∙ sym (append-nil _)) in (
      h.0,
      h.1,
      h.2,
      λ b inside own.
          sym (file.has.each b inside own) ∙ ap (body_of b) h.3
          ∙ file'.has.each b (subst (λ (z : Sizes). b < z.n) h.0 inside) (subst (λ x. b % x ≡ t) h.1 (own ∙ h.2)),
    )

pub no_front : (shape other : Sizes) (S s T t : ℕ) (bodies others : List (List ℕ)) (front : List ℕ) (b : ℕ) (rest : List ℕ)
    → IsSliceFile shape S s bodies (front ++ b ∷ rest) → IsSliceFile other T t others front → ⊥
no_front shape other S s T t bodies others front b rest file file' =
    let h = files_told shape other S s T t file.fs file'.fs [] (b ∷ rest) file.slicing file'.slicing file.has.frames file'.has.frames
    (append-nil _ ∙ sym file.is ∙ ap (λ (f : List ℕ). f ++ b ∷ rest) file'.is) in
    cc (h.4)

-- a text that begins with a head tells its four numbers
pub spares_told : (a y l c b z m d : ℕ) (rest more : List ℕ) → a < 2 ^ 16 → b < 2 ^ 16 → y < 2 ^ 16 → z < 2 ^ 16 → l < 2 ^ 32 → m < 2 ^ 32
    → c < 2 ^ 64 → d < 2 ^ 64
    → spare_head a y l c ++ rest ≡ spare_head b z m d ++ more → (a ≡ b) × (y ≡ z) × (l ≡ m) × (c ≡ d) × (rest ≡ more)
unfolding spare_head
spares_told a y l c b z m d rest more sa sb sy sz sl sm sc sd e =
    let all = parted (spare_head a y l c) rest (spare_head b z m d) more refl e in
    let first = parted ((to_le_bytes w16 a ++ to_le_bytes w16 y) ++ to_le_bytes w32 l) (to_le_bytes w64 c)
    ((to_le_bytes w16 b ++ to_le_bytes w16 z) ++ to_le_bytes w32 m) (to_le_bytes w64 d) refl all.0 in
    let second = parted (to_le_bytes w16 a ++ to_le_bytes w16 y) (to_le_bytes w32 l) (to_le_bytes w16 b ++ to_le_bytes w16 z) (to_le_bytes w32 m)
    refl first.0 in
    let third = parted (to_le_bytes w16 a) (to_le_bytes w16 y) (to_le_bytes w16 b) (to_le_bytes w16 z) refl second.0 in (
      two_told a b sa sb third.0,
      two_told y z sy sz third.1,
      four_told l m sl sm second.1,
      sym (from_le_bytes-to_le_bytes_8 c sc)
          ∙ ap (from_le_bytes w64) first.1 ∙ from_le_bytes-to_le_bytes_8 d sd,
      all.1,
    )

-- the letters, one a byte
letters_are : to_le_bytes w64 LETTERS ≡ 75 ∷ 77 ∷ 67 ∷ 83 ∷ 76 ∷ 73 ∷ 67 ∷ 69 ∷ []
letters_are = refl
