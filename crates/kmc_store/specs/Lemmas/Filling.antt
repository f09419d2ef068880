-- Bins that take in more.
use Rattle.std.proofs.Common.{◌≡◌, ℕ, ◌+◌, ◌%◌, ◌<◌, List, [], ◌∷◌, ◌++◌, length, map, get_or, set, refl, sym, ap, subst, ◌∙◌, arith, length-append}
use Rattle.std.proofs.lemmas.List.{map-set, get_or-set_same, get_or-set_other, length-set, length-map}
use Rattle.std.proofs.lemmas.List.Elements.{All-append}
use Rattle.std.proofs.lemmas.List.Concat.{flat_map-append}
use Rattle.std.specs.Prelude.{slice_index}
use Rattle.std.specs.List.{All, AllByRecursion}
use mathlib.Core.Logic.{dite}
use native.Mathlib.Decide.{ℕ_discrete}
use Rattle.kmc_base.specs.Words.{windows}
use Rattle.kmc_split.specs.Signature.{bin_of}
use Rattle.kmc_base.specs.Record.{spelling, IsSpelled, IsBodyOf}
use Rattle.kmc_record.specs.Shapes.{Sizes}
use Rattle.kmc_record.specs.Parts.{Parcel, IsPart, all_windows, capped}
use Rattle.kmc_store.specs.Bins.{BinList, body_at, AreBins, Absorbed, Merged}
use Rattle.kmc_store.specs.Lemmas.Places.{Bytes, bytes_of, body_is}

-- ---- bodies, one behind the other

pub all_joined : {A : Type 0} (P : A → Type 0) (xs ys : List A) → AllByRecursion P xs → AllByRecursion P ys → AllByRecursion P (xs ++ ys)
all_joined P [] ys h g = g
all_joined P (x ∷ xs) ys h g = (h.0, all_joined P xs ys h.1 g)

pub body_joined : (k : ℕ) (ss ts : List (List ℕ)) (a b : List ℕ) → IsBodyOf k ss a → IsBodyOf k ts b → IsBodyOf k (ss ++ ts) (a ++ b)
body_joined k ss ts a b h g = record {
  each = all_joined (IsSpelled k) ss ts h.each g.each;
  is = (λ i. h.is i ++ g.is i) ∙ sym (flat_map-append (spelling k) ss ts);
}

pub part_joined : (bin : ℕ) (shape : Sizes) (a b : List ℕ) (v w : ℕ) → IsPart bin shape a v → IsPart bin shape b w → IsPart bin shape (a ++ b) (capped (v + w))
part_joined bin shape a b v w h g =
    let ss = h.super_kmers in
    let ts = g.super_kmers in
    let all : all_windows shape.k (ss ++ ts) ≡ all_windows shape.k ss ++ all_windows shape.k ts = flat_map-append (windows shape.k) ss ts in
    let P : List ℕ → Type 0 = λ u. bin_of shape.m shape.n u ≡ bin in
    record {
      within = h.within;
      super_kmers = ss ++ ts;
      records = body_joined shape.k ss ts a b h.records g.records;
      belong = subst (All P) (sym all) (All-append P (all_windows shape.k ss) (all_windows shape.k ts) h.belong g.belong);
      count = omega (arith, h.count, g.count, ap length all, length-append (all_windows shape.k ss) (all_windows shape.k ts));
    }

-- ---- one bin takes in a part

pub bins_absorb : (shape : Sizes) (bodies : List (List ℕ)) (words : List ℕ) (b : ℕ) (body : List ℕ) (w : ℕ) → AreBins shape bodies words → IsPart b shape body w
    → AreBins shape (set bodies b (body_at bodies b ++ body)) (set words b (capped (slice_index words b + w)))
bins_absorb shape bodies words b body w are part = record {
  wide = length-set bodies b (body_at bodies b ++ body) ∙ are.wide;
  counted = length-set words b (capped (slice_index words b + w)) ∙ are.counted;
  each = λ i l. dite (ℕ_discrete i b)
      (λ e. subst (λ j. IsPart j shape (get_or (set bodies b (body_at bodies b ++ body)) j [])
      (get_or (set words b (capped (slice_index words b + w))) j 0)) (sym e)
      (let more = get_or-set_same bodies b (body_at bodies b ++ body) [] (omega (arith, are.wide, part.within)) in
      let sum = get_or-set_same words b (capped (slice_index words b + w)) 0 (omega (arith, are.counted, part.within)) in
      subst (λ (p : List ℕ × ℕ). IsPart b shape p.0 p.1) (sym (λ t. (more t, sum t)))
      (part_joined b shape (body_at bodies b) body (slice_index words b) w (are.each b part.within) part)))
      (λ ne. let more = get_or-set_other bodies b i (body_at bodies b ++ body) [] ne in
      let sum = get_or-set_other words b i (capped (slice_index words b + w)) 0 ne in
      subst (λ (p : List ℕ × ℕ). IsPart i shape p.0 p.1) (sym (λ t. (more t, sum t))) (are.each i l));
}

pub bin_within : (old : BinList) (s : Sizes) (vs : List Bytes) (words : List ℕ) (p : Parcel) (b : ℕ)
    → record { shape = s; bodies = map bytes_of vs; words = words } ≡ old → p.shape ≡ old.shape
    → AreBins s (map bytes_of vs) words → IsPart p.bin p.shape p.body p.words → b ≡ p.bin → (b < length vs) × (b < length words)
bin_within old s vs words p b view same are part at =
    let n : p.shape.n ≡ s.n = ap (λ (t : Sizes). t.n) (same ∙ ap (λ (t : BinList). t.shape) (sym view)) in
    (omega (arith, n, are.wide, length-map vs bytes_of, part.within, at), omega (arith, n, are.counted, part.within, at))

pub absorbed_is : (old : BinList) (s : Sizes) (vs : List Bytes) (words : List ℕ) (p : Parcel) (b : ℕ) (x v : Bytes) (sum : ℕ)
    → record { shape = s; bodies = map bytes_of vs; words = words } ≡ old → b ≡ p.bin → b < length vs
    → x ≡ get_or vs b x → v.items ≡ x.items ++ p.body → sum ≡ capped (slice_index words b + p.words) → Absorbed old p
    (record { shape = s; bodies = map bytes_of (set vs b v); words = set words b sum })
absorbed_is old s vs words p b x v sum view at inside is grown total = subst
    (λ (o : BinList). Absorbed o p (record { shape = s; bodies = map bytes_of (set vs b v); words = set words b sum })) view (record {
      shape = refl;
      bodies = map-set bytes_of vs b v ∙ ap (set (map bytes_of vs) b) (grown ∙ ap (λ t. t ++ p.body) (sym (body_is vs b x inside is))) ∙ ap
          (λ j. set (map bytes_of vs) j (body_at (map bytes_of vs) j ++ p.body)) at;
      words = ap (set words b) total ∙ ap (λ j. set words j (capped (slice_index words j + p.words))) at;
    })

pub bins_absorbed : (old : BinList) (s : Sizes) (vs : List Bytes) (words : List ℕ) (p : Parcel) (b : ℕ) (x v : Bytes) (sum : ℕ)
    → record { shape = s; bodies = map bytes_of vs; words = words } ≡ old → p.shape ≡ old.shape
    → AreBins s (map bytes_of vs) words → IsPart p.bin p.shape p.body p.words → b ≡ p.bin → b < length vs → x ≡ get_or vs b x → v.items ≡ x.items
    ++ p.body → sum ≡ capped (slice_index words b + p.words)
    → AreBins s (map bytes_of (set vs b v)) (set words b sum)
bins_absorbed old s vs words p b x v sum view same are part at inside is grown total =
    let shaped : p.shape ≡ s = same ∙ ap (λ (t : BinList). t.shape) (sym view) in
    let here : IsPart b s p.body p.words = subst (λ (j : ℕ). IsPart j s p.body p.words) (sym at)
    (subst (λ (t : Sizes). IsPart p.bin t p.body p.words) shaped part) in
    let body : map bytes_of (set vs b v) ≡ set (map bytes_of vs) b (body_at (map bytes_of vs) b ++ p.body) =
    map-set bytes_of vs b v ∙ ap (set (map bytes_of vs) b) (grown ∙ ap (λ t. t ++ p.body) (sym (body_is vs b x inside is))) in
    let both = sym (λ i. (body i, ap (set words b) total i)) in
    subst (λ (q : List (List ℕ) × List ℕ). AreBins s q.0 q.1) both (bins_absorb s (map bytes_of vs) words b p.body p.words are here)

-- ---- each bin takes in another

pub bins_merge : (s t : Sizes) (old other new : List (List ℕ)) (words more sums : List ℕ) → t ≡ s → AreBins s old words → AreBins t other more
    → length new ≡ length old → length sums ≡ length words
    → ((i : ℕ) → i < length old → body_at new i ≡ body_at old i ++ body_at other i)
    → ((i : ℕ) → i < length words → slice_index sums i ≡ capped (slice_index words i + slice_index more i)) → AreBins s new sums
bins_merge s t old other new words more sums same are others wide counted bodies each = record {
  wide = wide ∙ are.wide;
  counted = counted ∙ are.counted;
  each = λ i l.
      let body = bodies i (omega (arith, are.wide)) in
      let sum = each i (omega (arith, are.counted)) in
      let here : IsPart i s (body_at other i) (slice_index more i) = subst (λ (z : Sizes). IsPart i z (body_at other i) (slice_index more i)) same
      (others.each i (omega (arith, ap (λ (z : Sizes). z.n) same))) in
      subst (λ (p : List ℕ × ℕ). IsPart i s p.0 p.1) (sym (λ j. (body j, sum j)))
      (part_joined i s (body_at old i) (body_at other i) (slice_index words i) (slice_index more i) (are.each i l) here);
}

pub merged_is : (old other : BinList) (s t : Sizes) (vs ws new : List Bytes) (words more sums : List ℕ)
    → record { shape = s; bodies = map bytes_of vs; words = words } ≡ old → record { shape = t; bodies = map bytes_of ws; words = more } ≡ other
    → length new ≡ length vs → length sums ≡ length words
    → ((i : ℕ) → i < length vs → body_at (map bytes_of new) i ≡ body_at (map bytes_of vs) i ++ body_at (map bytes_of ws) i)
    → ((i : ℕ) → i < length words → slice_index sums i ≡ capped (slice_index words i + slice_index more i))
    → Merged old other (record { shape = s; bodies = map bytes_of new; words = sums })
merged_is old other s t vs ws new words more sums view others wide counted bodies each = subst
    (λ (q : BinList × BinList). Merged q.0 q.1 (record { shape = s; bodies = map bytes_of new; words = sums })) (λ i. (view i, others i)) (record {
      shape = refl;
      wide = length-map new bytes_of ∙ wide ∙ sym (length-map vs bytes_of);
      counted = counted;
      bodies = λ i l. bodies i (omega (arith, length-map vs bytes_of));
      words = each;
    })
