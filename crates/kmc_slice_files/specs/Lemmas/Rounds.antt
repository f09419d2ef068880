-- Frames of one round behind those of the rounds before it.
use Rattle.std.proofs.Common.{◌≡◌, ℕ, ◌%◌, ◌<◌, ◌^◌, cond, eqb, ltb, List, [], ◌∷◌, ◌++◌, length, get_or, Option, refl, sym, ap, subst, ◌∙◌, arith, append_assoc, length-append}
use Rattle.std.specs.List.{filter, flat_map}
use Rattle.std.specs.Io.KnownBytes.{Appends}
use Rattle.std.proofs.KnownBytes.{Appends-trans}
use Rattle.std.proofs.lemmas.Bool.{eq-eqb, lt-ltb}
use Rattle.std.proofs.lemmas.Grind.{flat_map-append}
use Rattle.std.proofs.lemmas.List.{append-nil}
use Rattle.std.proofs.lemmas.List.Elements.{filter-append}
use Rattle.kmc_record.specs.Shapes.{Sizes, IsShape}
use Rattle.kmc_store.specs.Bins.{body_at}
use Rattle.kmc_slice_files.specs.Frames.{Frame, AreFrames, frame_bytes, frames_bytes, head_bytes, end_bytes, NO_BIN, body_of}
use Rattle.kmc_slice_files.specs.Files.{header_bytes, file_bytes, IsSliceFile}
use Rattle.kmc_slice_files.specs.Writes.{held_at, EachGot, AreFramed, AreOpen, AreFiles}

pub frames_more : (n S s : ℕ) (fs gs : List Frame) → AreFrames n S s fs → AreFrames n S s gs → AreFrames n S s (fs ++ gs)
frames_more n S s [] gs are more = more
frames_more n S s (f ∷ fs) gs are more = (are.0, frames_more n S s fs gs are.1 more)

pub body_more : (i : ℕ) (fs gs : List Frame) → body_of i (fs ++ gs) ≡ body_of i fs ++ body_of i gs
body_more i fs gs = ap (flat_map (λ (f : Frame). f.body)) (filter-append (λ (f : Frame). eqb f.bin i) fs gs)
    ∙ flat_map-append (λ (f : Frame). f.body) (filter (λ (f : Frame). eqb f.bin i) fs) (filter (λ (f : Frame). eqb f.bin i) gs)

-- files with their headers hold no bodies yet
pub opened : (shape : Sizes) (S : ℕ) (bodies : List (List ℕ)) (olds news : List (Option (List ℕ))) (counts : List ℕ)
    → EachGot (header_bytes shape S) S olds news → ((s : ℕ) → s < S → get_or counts s 0 ≡ 0) → ((b : ℕ) → b < shape.n → body_at bodies b ≡ [])
    → AreOpen shape S bodies olds news counts
opened shape S bodies olds news counts got none empty = record {
  fs = λ s. [];
  has = λ s inside. record { frames = tt; each = λ b within own. sym (empty b within) };
  many = λ s inside. omega (arith, none s inside);
  written = λ s inside. subst (Appends (held_at olds s) (held_at news s)) (sym (append-nil (header_bytes shape S s))) (got s inside);
}

-- what a round's frames say of a bin of the slice
round_body : (n S b : ℕ) (s : ℕ) (body : List ℕ) → b < n → b % S ≡ s → cond (ltb b n) (cond (eqb (b % S) s) body []) [] ≡ body
round_body n S b s body within own = ap (λ x. cond x (cond (eqb (b % S) s) body []) []) (lt-ltb b n within)
    ∙ ap (λ x. cond x body []) (eq-eqb (b % S) s own)

-- the bodies of one more round stand behind those of the rounds before
pub round_joined : (shape : Sizes) (S : ℕ) (before bodies joined : List (List ℕ)) (olds mids news : List (Option (List ℕ))) (counts counted : List ℕ)
    → AreOpen shape S before olds mids counts → AreFramed shape.n S shape.n bodies mids news counts counted
    → ((b : ℕ) → b < shape.n → body_at joined b ≡ body_at before b ++ body_at bodies b) → AreOpen shape S joined olds news counted
round_joined shape S before bodies joined olds mids news counts counted begun round are = record {
  fs = λ s. begun.fs s ++ round.fs s;
  has = λ s inside. record {
    frames = frames_more shape.n S s (begun.fs s) (round.fs s) (begun.has s inside).frames (round.frames s inside);
    each = λ b within own.
        body_more b (begun.fs s) (round.fs s)
        ∙ (λ i. (begun.has s inside).each b within own i ++ (round.each s b inside within ∙ round_body shape.n S b s (body_at bodies b) within own) i)
        ∙ sym (are b within);
  };
  many = λ s inside. omega (arith, begun.many s inside, round.many s inside, length-append (begun.fs s) (round.fs s));
  written = λ s inside.
      subst (Appends (held_at olds s) (held_at news s))
      (append_assoc (header_bytes shape S s) (frames_bytes (begun.fs s)) (frames_bytes (round.fs s))
      ∙ ap (λ (l : List ℕ). header_bytes shape S s ++ l) (sym (flat_map-append frame_bytes (begun.fs s) (round.fs s))))
      (Appends-trans (held_at olds s) (held_at mids s) (held_at news s) (header_bytes shape S s ++ frames_bytes (begun.fs s))
      (frames_bytes (round.fs s)) (begun.written s inside) (round.written s inside));
}

-- a file with its end
module _ (shape : Sizes) (S : ℕ) (bodies : List (List ℕ)) (olds mids : List (Option (List ℕ))) (counts : List ℕ)
    (sizes : IsShape shape.k shape.m shape.n) (few : S < 2 ^ 16) (begun : AreOpen shape S bodies olds mids counts) (s : ℕ) (inside : s < S) where
  abbrev pub ended : List ℕ
  ended = file_bytes shape S s (begun.fs s)

  pub ended_is : IsSliceFile shape S s bodies ended
  ended_is = record {
    slicing = record { sizes = sizes; some = omega (arith, inside); most = few; within = inside };
    fs = begun.fs s;
    has = begun.has s inside;
    is = refl;
  }

  pub ended_by : (header_bytes shape S s ++ frames_bytes (begun.fs s)) ++ end_bytes (get_or counts s 0) ≡ ended
  ended_by =
      let ends : end_bytes (get_or counts s 0) ≡ end_bytes (length (begun.fs s)) = ap (λ n. head_bytes NO_BIN 0 n) (omega (arith, begun.many s inside)) in
      append_assoc (header_bytes shape S s) (frames_bytes (begun.fs s)) (end_bytes (get_or counts s 0))
      ∙ ap (λ (l : List ℕ). header_bytes shape S s ++ (frames_bytes (begun.fs s) ++ l)) ends

-- files with their ends are whole
pub files_ended : (shape : Sizes) (S : ℕ) (bodies : List (List ℕ)) (olds mids news : List (Option (List ℕ))) (counts : List ℕ)
    → IsShape shape.k shape.m shape.n → S < 2 ^ 16 → AreOpen shape S bodies olds mids counts
    → EachGot (λ s. end_bytes (get_or counts s 0)) S mids news → AreFiles shape S bodies olds news
files_ended shape S bodies olds mids news counts sizes few begun got s inside = (
  ended shape S bodies olds mids counts sizes few begun s inside,
  ended_is shape S bodies olds mids counts sizes few begun s inside,
  subst (Appends (held_at olds s) (held_at news s)) (ended_by shape S bodies olds mids counts sizes few begun s inside)
      (Appends-trans (held_at olds s) (held_at mids s) (held_at news s) (header_bytes shape S s ++ frames_bytes (begun.fs s))
      (end_bytes (get_or counts s 0)) (begun.written s inside) (got s inside)),
)
