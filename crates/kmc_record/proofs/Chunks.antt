-- Parts while the segments and the reads of a chunk are taken in.
use Rattle.std.proofs.Common.{◌≡◌, ℕ, ◌+◌, ◌<◌, ◌≤◌, nat_le, true, List, [], ◌∷◌, ◌++◌, length, map, get_or, take, sym, ap, subst, ◌∙◌, arith, append-nil, append_assoc, drop, replicate}
use Rattle.std.proofs.lemmas.List.{take_more, map_push, drop-drop}
use Rattle.std.proofs.lemmas.List.FromFn.{length-map-range_with_len, get_or-map-range_with_len, fill_by_all}
use Rattle.std.proofs.lemmas.Bool.Decides.{nat_tests}
use Rattle.std.proofs.lemmas.List.Elements.{recursion_from_All}
use Rattle.std.specs.List.{All, range_with_len}
use Rattle.kmc_base.specs.Stretches.{Stretch, segments_of, stretches_from, leading}
use Rattle.kmc_split.specs.declared.runs.Run.{Run}
use Rattle.kmc_split.specs.Cut.{IsCut, IsRunOf}
use Rattle.kmc_base.specs.Record.{packed_codes, codes_in}
use Rattle.kmc_record.specs.Shapes.{Sizes}
use Rattle.kmc_record.specs.Parts.{Parcel, grown, empty_part, bin_runs, bin_super_kmers, all_segments}
use Rattle.kmc_record.specs.GrowingParts.{AreForBins, HaveGrown, HaveTaken}
use Rattle.kmc_base.specs.Lemmas.Codes.{codes_join}
use Rattle.kmc_base.specs.Lemmas.Whole.{flat_push}
use Rattle.kmc_base.specs.Lemmas.Stretching.{long_enough, first_apart}
use Rattle.kmc_base.specs.Lemmas.Spelled.{codes_packed, zeros_to_byte}
use Rattle.kmc_record.proofs.Parcels.{grown_as, grown_more, cuts_append, super_kmers_append, runs_before, bin_runs_before}

taken_append : (shape : Sizes) (ss ts : List Stretch) (a b c : List Parcel) → HaveTaken shape ss a b → HaveTaken shape ts b c → HaveTaken shape (ss ++ ts) a c
taken_append shape ss ts a b c h g = (
  h.0 ++ g.0,
  cuts_append shape.k shape.m ss ts h.0 g.0 h.1 g.1,
  grown_as shape.k (λ j. bin_super_kmers shape.k shape.n j ss h.0 ++ bin_super_kmers shape.k shape.n j ts g.0)
      (λ j. bin_super_kmers shape.k shape.n j (ss ++ ts) (h.0 ++ g.0)) a c
      (λ j. super_kmers_append shape.k shape.m shape.n j ss ts h.0 g.0 h.1)
      (grown_more shape.k (λ j. bin_super_kmers shape.k shape.n j ss h.0) (λ j. bin_super_kmers shape.k shape.n j ts g.0) a b c h.2 g.2),
)

taken_one : (shape : Sizes) (s : Stretch) (runs : List Run) (a b : List Parcel) → IsCut shape.k shape.m s.codes runs → HaveGrown shape.k
    (λ j. bin_runs shape.k shape.n j s.codes runs) a b → HaveTaken shape (s ∷ []) a b
taken_one shape s runs a b cut h = (
  runs ∷ [],
  (cut, tt),
  grown_as shape.k (λ j. bin_runs shape.k shape.n j s.codes runs) (λ j. bin_runs shape.k shape.n j s.codes runs ++ []) a b
      (λ j. sym (append-nil (bin_runs shape.k shape.n j s.codes runs))) h,
)

-- the zeros behind a segment's codes
abbrev behind : List ℕ → List ℕ
behind codes = zeros_to_byte codes ++ codes_in (replicate 16 0)

-- the codes of a segment's bytes are its own, and zeros behind them
segment_codes : (codes bytes : List ℕ) → All (λ c. c < 4) codes → bytes ≡ packed_codes codes ++ replicate 16 0 → codes_in bytes ≡ codes ++ behind codes
segment_codes codes bytes small is =
    ap codes_in is ∙ codes_join (packed_codes codes) (replicate 16 0)
    ∙ ap (λ (t : List ℕ). t ++ codes_in (replicate 16 0)) (codes_packed codes (recursion_from_All (λ (c : ℕ). c < 4) codes small))
    ∙ append_assoc codes (zeros_to_byte codes) (codes_in (replicate 16 0))

pub packed_runs : (shape : Sizes) (k m : ℕ) (codes bytes : List ℕ) (runs runs2 : List Run) → k ≡ shape.k → m ≡ shape.m → All (λ c. c < 4) codes → bytes
    ≡ packed_codes codes ++ replicate 16 0 → runs2 ≡ runs → All (IsRunOf k m codes) runs → All (IsRunOf shape.k shape.m (codes_in bytes)) runs2
packed_runs shape k m codes bytes runs runs2 ek em small is same h =
    subst (λ (rs : List Run). All (IsRunOf shape.k shape.m (codes_in bytes)) rs) (sym same)
    (subst (λ (w : List ℕ). All (IsRunOf shape.k shape.m w) runs) (sym (segment_codes codes bytes small is))
    (runs_before shape.k shape.m codes (behind codes) runs
    (subst (λ (x : Sizes). All (IsRunOf x.k x.m codes) runs) (λ t. record { k = ek t; m = em t; n = 0 }) h)))

pub codes_taken : (shape : Sizes) (k m start : ℕ) (codes bytes : List ℕ) (runs runs2 : List Run) (a b : List Parcel) → k ≡ shape.k → m ≡ shape.m
    → All (λ c. c < 4) codes → bytes ≡ packed_codes codes ++ replicate 16 0 → runs2 ≡ runs → k ≤ length codes
    → IsCut k m codes runs → All (IsRunOf k m codes) runs → HaveGrown shape.k (λ j. bin_runs shape.k shape.n j (codes_in bytes) runs2) a b
    → HaveTaken shape (long_enough shape.k (record { start = start; codes = codes } ∷ [])) a b
codes_taken shape k m start codes bytes runs runs2 a b ek em small is same long cut each g =
    let cut2 : IsCut shape.k shape.m codes runs = subst (λ (x : Sizes). IsCut x.k x.m codes runs) (λ t. record { k = ek t; m = em t; n = 0 }) cut in
    let each2 : All (IsRunOf shape.k m codes) runs = subst (λ (x : ℕ). All (IsRunOf x m codes) runs) ek each in
    let own : (j : ℕ) → bin_runs shape.k shape.n j (codes_in bytes) runs2 ≡ bin_runs shape.k shape.n j codes runs =
    λ j. (λ t. bin_runs shape.k shape.n j (segment_codes codes bytes small is t) (same t))
    ∙ bin_runs_before shape.k m shape.n j codes (behind codes) runs each2 in
    let g2 : HaveGrown shape.k (λ j. bin_runs shape.k shape.n j codes runs) a b =
    grown_as shape.k (λ j. bin_runs shape.k shape.n j (codes_in bytes) runs2) (λ j. bin_runs shape.k shape.n j codes runs) a b own g in
    let test : nat_le shape.k (length codes) ≡ true = grind (arith, nat_tests) in
    rw test (taken_one shape (record { start = start; codes = codes }) runs a b cut2 g2)

-- the codes from a place on, before the rest of the read
pub stretch_more : (shape : Sizes) (read codes : List ℕ) (place n : ℕ) (whole : List Stretch) (a b c : List Parcel) → 1 ≤ shape.k → codes ≡ leading
    (drop place read) → n ≡ length codes
    → (ss : List Stretch) × (ss ++ long_enough shape.k (stretches_from place (drop place read)) ≡ whole) × HaveTaken shape ss a b
    → HaveTaken shape (long_enough shape.k (record { start = place; codes = codes } ∷ [])) b c
    → (ss : List Stretch) × (ss ++ long_enough shape.k (stretches_from (place + (n + 1)) (drop (place + (n + 1)) read)) ≡ whole) × HaveTaken shape ss a c
stretch_more shape read codes place n whole a b c some is count h g =
    let k = shape.k in
    let at : n ≡ length (leading (drop place read)) = count ∙ ap length is in
    let one = long_enough k (record { start = place; codes = codes } ∷ []) in
    let rest = long_enough k (stretches_from (place + (n + 1)) (drop (place + (n + 1)) read)) in
    let same : one ++ rest ≡ long_enough k (stretches_from place (drop place read)) =
    (λ j. long_enough k (record { start = place; codes = is j } ∷ []) ++ long_enough k (stretches_from (place + (at j + 1)) (drop (place + (at j + 1)) read)))
    ∙ ap (λ (t : List ℕ). long_enough k (record { start = place; codes = leading (drop place read) } ∷ []) ++ long_enough k
    (stretches_from (place + (length (leading (drop place read)) + 1)) t))
    (sym (drop-drop (length (leading (drop place read)) + 1) place read)) ∙ first_apart k place (drop place read) some in
    (h.0 ++ one, append_assoc h.0 one rest ∙ ap (λ (t : List Stretch). h.0 ++ t) same ∙ h.1, taken_append shape h.0 one a b c h.2 g)

-- ---- reads

pub read_more : {A : Type 0} (bytes_of : A → List ℕ) (shape : Sizes) (reads : List A) (i : ℕ) (d : A) (a b c : List Parcel) → i < length reads
    → HaveTaken shape (all_segments shape.k (map bytes_of (take i reads))) a b → HaveTaken shape (segments_of shape.k (bytes_of (get_or reads i d))) b c
    → HaveTaken shape (all_segments shape.k (map bytes_of (take (i + 1) reads))) a c
read_more {A} bytes_of shape reads i d a b c inside h g =
    let done = map bytes_of (take i reads) in
    let read = get_or reads i d in
    let longer : done ++ bytes_of read ∷ [] ≡ map bytes_of (take (i + 1) reads) =
    sym (map_push bytes_of (take i reads) read) ∙ ap (map bytes_of) (sym (take_more reads i d inside)) in
    subst (λ (x : List Stretch). HaveTaken shape x a c) (sym (flat_push (segments_of shape.k) done (bytes_of read)) ∙ ap (all_segments shape.k) longer)
    (taken_append shape (all_segments shape.k done) (segments_of shape.k (bytes_of read)) a b c h g)

-- ---- from the empty parts

pub empties_are : (number : ℕ) (shape : Sizes) (parts : List Parcel) → parts ≡ map (empty_part number shape) (range_with_len 0 shape.n) → AreForBins shape parts
empties_are number shape parts is =
    let at : (j : ℕ) (d : Parcel) → j < shape.n → get_or (map (empty_part number shape) (range_with_len 0 shape.n)) j d ≡ empty_part number shape j =
    λ j d l. get_or-map-range_with_len (empty_part number shape) 0 shape.n j j d l (omega arith) in
    subst (AreForBins shape) (sym is)
    (record {
      count = length-map-range_with_len (empty_part number shape) 0 shape.n;
      bin = λ j d l. ap (λ (p : Parcel). p.bin) (at j d l);
      shaped = λ j d l. ap (λ (p : Parcel). p.shape) (at j d l);
      most = λ j d l. omega (arith, ap (λ (p : Parcel). p.words) (at j d l));
    })

pub all_grown : (number : ℕ) (shape : Sizes) (f : ℕ → List (List ℕ)) (parts new : List Parcel) → parts ≡ map (empty_part number shape)
    (range_with_len 0 shape.n) → HaveGrown shape.k f parts new
    → new ≡ map (λ bin. grown shape.k (f bin) (empty_part number shape bin)) (range_with_len 0 shape.n)
all_grown number shape f parts new is h =
    let long : length parts ≡ shape.n = ap length is ∙ length-map-range_with_len (empty_part number shape) 0 shape.n in
    let d = empty_part number shape 0 in
    fill_by_all (λ bin. grown shape.k (f bin) (empty_part number shape bin)) new shape.n d (h.count ∙ long)
    (λ j l. h.each j d (omega (arith, long)) ∙ ap (λ (ps : List Parcel). grown shape.k (f j) (get_or ps j d)) is
    ∙ ap (grown shape.k (f j)) (get_or-map-range_with_len (empty_part number shape) 0 shape.n j j d l (omega arith)))
