-- The dumps of all slices, summed.
use Rattle.std.proofs.Common.{◌≡◌, ℕ, zero, suc, ◌+◌, ◌%◌, ◌<◌, ◌≤◌, ◌⊎◌, inl, inr, Bool, true, false, cond, eqb, min, List, [], ◌∷◌, length, map, get_or, refl, sym, ap, subst, ◌∙◌, arith}
use Rattle.std.specs.List.{AllZip, Contains, range_with_len, sum_by}
use Rattle.std.proofs.lemmas.Bool.{eq-eqb, ne_eqb}
use Rattle.std.proofs.lemmas.List.{ext_get_or, get_or-map, length-map}
use Rattle.std.proofs.lemmas.List.FromFn.{get_or-map-range_with_len, length-map-range_with_len}
use Rattle.std.proofs.lemmas.List.Sums.{sum_by-cons, sum_by-append}
use Rattle.std.proofs.lemmas.Slice.Zip.{AllZip-long}
use Rattle.kmc_base.specs.declared.strands.Strands.{Strands}
use Rattle.kmc_base.specs.Record.{IsBodyOf}
use Rattle.kmc_record.specs.RecordWords.{record_keys}
use Rattle.kmc_base.specs.SpellingLaws.{BodyHasOneList}
use Rattle.kmc_record.specs.Shapes.{Sizes}
use Rattle.kmc_store.specs.Bins.{body_at}
use Rattle.kmc_store.specs.Holds.{HoldsReads}
use Rattle.kmc_store.specs.Laws.{MergedBinsHoldBoth, EmptyBinsHoldNoReads}
use Rattle.kmc_count.specs.declared.limits.Limits.{Limits}
use Rattle.kmc_count.specs.Occurrences.{same_word, occurrences}
use Rattle.kmc_count.specs.Dump.{IsListed, IsDump}
use Rattle.kmc_count.specs.Merge.{joined, AreApart}
use Rattle.kmc_count.specs.Lemmas.Apart.{occurs_contains}
use Rattle.kmc_count.specs.Lemmas.Zips.{zip_at}
use Rattle.kmc_sum.specs.Sum.{listed_count, sum_of}
use Rattle.kmc_stage_two.specs.Laws.{HeldReadsAreCounted, BinsShareNoKey}
use Rattle.kmc_slices.specs.Laws.{SlicesAreWhole, OneSliceIsWhole}
use Rattle.kmc_slices.specs.Slices.{Part, AreOfSlice, IsDumpOfSlice, all_reads, whole_body, whole_bodies}
use Rattle.kmc_slices.proofs.Sums.{of_slice, one_slice, lone_range, one_of}
use Rattle.kmc_slices.proofs.Dumps.{listed_as, unlisted, IsShown, dump_again}
use Rattle.kmc_slices.proofs.Bins.{zip_range, whole_words, whole_at, whole_holds, whole_bins}

-- words counted bin by bin
counted_by_bins : {A : Type 0} (keys : A → List (List ℕ)) (g : ℕ → A) (x : List ℕ) (bs : List ℕ) → occurrences
    (joined (map keys (map g bs))) x ≡ sum_by (λ b. occurrences (keys (g b)) x) bs
counted_by_bins keys g x [] = refl
counted_by_bins keys g x (b ∷ bs) =
    sum_by-append (λ (w : List ℕ). cond (same_word w x) 1 0) (keys (g b)) (joined (map keys (map g bs)))
    ∙ ap (λ n. occurrences (keys (g b)) x + n) (counted_by_bins keys g x bs) ∙ sym (sum_by-cons (λ (c : ℕ). occurrences (keys (g c)) x) b bs)

-- the records of bodies are those that each is read to
records_are : BodyHasOneList → (k n : ℕ) (g : ℕ → List (List ℕ)) (sss : List (List (List ℕ))) (bodies : List (List ℕ)) → AllZip
    (IsBodyOf k) sss bodies → length bodies ≡ n
    → ((b : ℕ) → b < n → IsBodyOf k (g b) (body_at bodies b)) → sss ≡ map g (range_with_len 0 n)
records_are one k n g sss bodies zip wide each =
    let long : length sss ≡ n = sym (AllZip-long (IsBodyOf k) sss bodies zip) ∙ wide in
    ext_get_or [] sss (map g (range_with_len 0 n)) (long ∙ sym (length-map-range_with_len g 0 n)) (λ b inside.
    let below : b < n = omega (arith, inside, long) in
    one k (get_or sss b []) (g b) (body_at bodies b) (zip_at (IsBodyOf k) sss bodies b [] [] zip inside) (each b below)
    ∙ sym (get_or-map-range_with_len g 0 n b b [] below (omega arith)))

module _ (strands : Strands) (shape : Sizes) (S : ℕ) (some : 1 ≤ S) (parts : List Part) (records : ℕ → List (List ℕ))
    (are : (b : ℕ) → b < shape.n → IsBodyOf shape.k (records b) (whole_body parts b)) where
  keys : List (List ℕ) → List (List ℕ)
  keys = record_keys strands shape.k

  -- the words of all parts
  abbrev pub all_count : List ℕ → ℕ
  all_count x = occurrences (joined (map (record_keys strands shape.k) (map records (range_with_len 0 shape.n)))) x

  abbrev pub in_bin : List ℕ → ℕ → ℕ
  in_bin x b = occurrences (record_keys strands shape.k (records b)) x

  abbrev slice_records : ℕ → ℕ → List (List ℕ)
  slice_records s b = cond (eqb (b % S) s) (records b) []

  slice_body : (t : Bool) (b : ℕ) → b < shape.n → IsBodyOf shape.k (cond t (records b) []) (cond t (whole_body parts b) [])
  slice_body true b inside = are b inside
  slice_body false b inside = record { each = tt; is = refl }

  slice_words : (t : Bool) (b : ℕ) (x : List ℕ) → occurrences (record_keys strands shape.k (cond t (records b) [])) x ≡ cond t (in_bin x b) 0
  slice_words true b x = refl
  slice_words false b x = refl

  sum_like : (f g : ℕ → ℕ) → ((b : ℕ) → f b ≡ g b) → (bs : List ℕ) → sum_by f bs ≡ sum_by g bs
  sum_like f g h bs = λ i. sum_by (λ b. h b i) bs

  -- the words of a slice
  pub slice_count : BodyHasOneList → (s : ℕ) (sss : List (List (List ℕ))) (bodies : List (List ℕ)) → AreOfSlice shape S s parts bodies → AllZip
      (IsBodyOf shape.k) sss bodies → (x : List ℕ)
      → occurrences (joined (map (record_keys strands shape.k) sss)) x ≡ sum_by (of_slice S (in_bin x) some s) (range_with_len 0 shape.n)
  slice_count one s sss bodies of zip x =
      let is = records_are one shape.k shape.n (slice_records s) sss bodies zip of.wide
      (λ b inside. subst (IsBodyOf shape.k (slice_records s b)) (sym (of.each b inside)) (slice_body (eqb (b % S) s) b inside)) in
      ap (λ (l : List (List (List ℕ))). occurrences (joined (map (record_keys strands shape.k) l)) x) is
      ∙ counted_by_bins (record_keys strands shape.k) (slice_records s) x (range_with_len 0 shape.n)
      ∙ sum_like (λ b. occurrences (record_keys strands shape.k (slice_records s b)) x) (of_slice S (in_bin x) some s)
      (λ b. slice_words (eqb (b % S) s) b x) (range_with_len 0 shape.n)

  all_is : (x : List ℕ) → all_count x ≡ sum_by (in_bin x) (range_with_len 0 shape.n)
  all_is x = counted_by_bins (record_keys strands shape.k) records x (range_with_len 0 shape.n)

  -- where there is one slice, its words are all words
  pub one_count : BodyHasOneList → S ≡ 1 → (sss : List (List (List ℕ))) (bodies : List (List ℕ)) → AreOfSlice shape S 0 parts bodies → AllZip
      (IsBodyOf shape.k) sss bodies
      → (x : List ℕ) → occurrences (joined (map (record_keys strands shape.k) sss)) x ≡ all_count x
  one_count one only sss bodies of zip x =
      let first : (b : ℕ) → b % 1 ≡ 0 = λ b. omega arith in
      slice_count one 0 sss bodies of zip x
      ∙ sum_like (of_slice S (in_bin x) some 0) (in_bin x)
      (λ b. ap (λ t. cond t (in_bin x b) 0) (eq-eqb (b % S) 0 (ap (λ n. b % n) only ∙ first b))) (range_with_len 0 shape.n)
      ∙ sym (all_is x)

  module _ (apart : AreApart (map (record_keys strands shape.k) (map records (range_with_len 0 shape.n)))) (x : List ℕ) where
    keys_at : (b : ℕ) → b < shape.n → get_or
        (map (record_keys strands shape.k) (map records (range_with_len 0 shape.n))) b [] ≡ record_keys strands shape.k (records b)
    keys_at b inside =
        get_or-map (record_keys strands shape.k) (map records (range_with_len 0 shape.n)) b [] []
        (omega (arith, inside, length-map-range_with_len records 0 shape.n))
        ∙ ap (record_keys strands shape.k) (get_or-map-range_with_len records 0 shape.n b b [] inside (omega arith))

    one_bin : (i j : ℕ) → i < j → j < shape.n → (in_bin x i ≡ 0) ⊎ (in_bin x j ≡ 0)
    one_bin i j less high = go (in_bin x i) (in_bin x j) refl refl
      where
        long : length (map (record_keys strands shape.k) (map records (range_with_len 0 shape.n))) ≡ shape.n
        long = length-map (map records (range_with_len 0 shape.n)) (record_keys strands shape.k) ∙ length-map-range_with_len records 0 shape.n

        go : (m n : ℕ) → in_bin x i ≡ m → in_bin x j ≡ n → (in_bin x i ≡ 0) ⊎ (in_bin x j ≡ 0)
        go zero n e f = inl e
        go (suc m) zero e f = inr f
        go (suc m) (suc n) e f =
            absurd (apart i j [] less (omega (arith, long, high)) x
            (subst (λ (l : List (List ℕ)). Contains l x) (sym (keys_at i (omega arith)))
            (occurs_contains x (record_keys strands shape.k (records i)) (omega (arith, e))))
            (subst (λ (l : List (List ℕ)). Contains l x) (sym (keys_at j high))
            (occurs_contains x (record_keys strands shape.k (records j)) (omega (arith, f)))))

    module _ (one : BodyHasOneList) (l : Limits) (lists : List (List (List ℕ × ℕ))) (many : length lists ≡ S)
        (dumps : (s : ℕ) → s < S → IsDumpOfSlice strands shape l S s parts (get_or lists s [])) where
      abbrev chosen : (t : ℕ) × (t < S) × ((s : ℕ) → sum_by (of_slice S (in_bin x) some s) (range_with_len 0 shape.n) ≡ cond (eqb t s)
          (sum_by (in_bin x) (range_with_len 0 shape.n)) 0)
      chosen = one_slice S (in_bin x) some (range_with_len 0 shape.n)
          (lone_range S (in_bin x) some 0 shape.n (λ i j low less high. one_bin i j less (omega arith)))

      slice_has : (s : ℕ) (inside : s < S) → occurrences (joined (map (record_keys strands shape.k) ((dumps s inside).dump.super_kmers))) x ≡ cond
          (eqb chosen.0 s) (all_count x) 0
      slice_has s inside =
          let d = dumps s inside in
          slice_count one s d.dump.super_kmers d.bodies d.are d.dump.records x ∙ chosen.2 s ∙ ap (λ n. cond (eqb chosen.0 s) n 0) (sym (all_is x))

      here : (s : ℕ) (inside : s < S) → s ≡ chosen.0 → occurrences
          (joined (map (record_keys strands shape.k) ((dumps s inside).dump.super_kmers))) x ≡ all_count x
      here s inside e = slice_has s inside ∙ ap (λ b. cond b (all_count x) 0) (eq-eqb chosen.0 s (sym e))

      none : (s : ℕ) (inside : s < S) → (s ≡ chosen.0 → ⊥) → occurrences
          (joined (map (record_keys strands shape.k) ((dumps s inside).dump.super_kmers))) x ≡ 0
      none s inside differ = slice_has s inside ∙ ap (λ b. cond b (all_count x) 0) (ne_eqb chosen.0 s (λ e. differ (sym e)))

      other_zero : (s : ℕ) (inside : s < S) → (s ≡ chosen.0 → ⊥) → listed_count (get_or lists s []) x ≡ 0
      other_zero s inside differ = let d = dumps s inside in unlisted x _ l (get_or lists s []) d.dump.dump
          (λ h. omega (arith, h.0, none s inside differ))

      in_reach : (s : ℕ) → s < length lists → s < S
      in_reach s inside = omega (arith, inside, many)

      pub sum_shown : IsShown l (all_count x) (sum_of lists x)
      sum_shown = record {
        yes = λ listed.
            total ∙ listed_as x _ l (get_or lists chosen.0 []) (dumps chosen.0 chosen.1).dump.dump
            (subst (IsListed l) (sym (here chosen.0 chosen.1 refl)) listed)
            ∙ ap (λ n. min n l.cs) (here chosen.0 chosen.1 refl);
        no = λ never. total ∙ unlisted x _ l (get_or lists chosen.0 []) (dumps chosen.0 chosen.1).dump.dump
            (λ h. never (subst (IsListed l) (here chosen.0 chosen.1 refl) h));
      }
        where
          total : sum_of lists x ≡ listed_count (get_or lists chosen.0 []) x
          total = one_of (λ (pairs : List (List ℕ × ℕ)). listed_count pairs x) [] (listed_count (get_or lists chosen.0 []) x) chosen.0 lists
              (omega (arith, chosen.1, many))
              (λ s inside. ((λ e. ap (λ t. listed_count (get_or lists t []) x) e), (λ differ. other_zero s (in_reach s inside) differ)))

-- what the bins of all parts are, taken together
record AreWhole (shape : Sizes) (parts : List Part) (holds : HoldsReads shape (all_reads parts) (whole_bodies shape parts)) : Type 0 where
  pub body : (b : ℕ) → b < shape.n → IsBodyOf shape.k (holds.records b) (whole_body parts b)
  pub zip : AllZip (IsBodyOf shape.k) (map holds.records (range_with_len 0 shape.n)) (whole_bodies shape parts)

are_whole : (shape : Sizes) (parts : List Part) (holds : HoldsReads shape (all_reads parts) (whole_bodies shape parts)) → AreWhole shape parts holds
are_whole shape parts holds =
    let body = λ (b : ℕ) (inside : b < shape.n). subst (IsBodyOf shape.k (holds.records b)) (whole_at shape parts b inside) (holds.each b inside) in
    record { body = body; zip = zip_range (IsBodyOf shape.k) holds.records (whole_body parts) 0 shape.n (λ b low high. body b (omega arith)) }

pub slices_whole : BodyHasOneList → MergedBinsHoldBoth → EmptyBinsHoldNoReads → HeldReadsAreCounted → BinsShareNoKey → SlicesAreWhole
slices_whole one merged none held apart strands shape every l S parts lists pairs is some each least most are many dumps dump =
    let holds = whole_holds shape merged none parts are in
    let whole = are_whole shape parts holds in
    let sss = map holds.records (range_with_len 0 shape.n) in
    let differ = apart strands shape (whole_bodies shape parts) (whole_words shape parts) sss is.within
    (whole_bins shape parts are) whole.zip in
    let again = dump_again (all_count strands shape S some parts holds.records whole.body) (sum_of lists) every l pairs each least most
    (λ x. sum_shown strands shape S some parts holds.records whole.body differ x one l lists many dumps) dump in
    subst (λ (c : List ℕ → ℕ). IsDump c l pairs)
    (λ i x. held strands shape (all_reads parts) (whole_bodies shape parts) sss is.some_k is.some_n holds whole.zip x i) again

pub one_slice_whole : BodyHasOneList → MergedBinsHoldBoth → EmptyBinsHoldNoReads → HeldReadsAreCounted → OneSliceIsWhole
one_slice_whole one merged none held strands shape l parts pairs is are d =
    let holds = whole_holds shape merged none parts are in
    let whole = are_whole shape parts holds in
    let sss = map holds.records (range_with_len 0 shape.n) in
    let some : 1 ≤ 1 = omega arith in
    let same = λ (x : List ℕ).
    one_count strands shape 1 some parts holds.records whole.body one refl d.dump.super_kmers d.bodies d.are d.dump.records x
    ∙ held strands shape (all_reads parts) (whole_bodies shape parts) sss is.some_k is.some_n holds whole.zip x in
    subst (λ (c : List ℕ → ℕ). IsDump c l pairs) (λ i x. same x i) d.dump.dump
