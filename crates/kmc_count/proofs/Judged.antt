-- Words that belong to a bin: those of equal records, and of records that begin alike, are judged once.
use Rattle.std.proofs.Common.{◌≡◌, zero, suc, ◌+◌, ◌-◌, ◌%◌, ◌<◌, ◌≤◌, ℕ, Bool, true, false, cond, if◌then◌else◌, nat_eq, Option, Some, None, List, [], ◌∷◌, length, map, take, drop, get_or, refl, sym, ap, subst, ◌∙◌, arith}
use Rattle.std.specs.List.{AllByRecursion, sum_by, range_with_len}
use Rattle.std.specs.List.Sorted.{IsPermutation}
use Rattle.std.proofs.lemmas.Bool.Decides.{nat_tests}
use Rattle.std.proofs.lemmas.List.{length-take-le, take-take, drop_more, drop-take}
use Rattle.std.proofs.lemmas.List.Elements.{All-append, All-from_recursion, recursion_from_All}
use Rattle.std.proofs.lemmas.List.FromFn.{get_or-map-range_with_len, length-map-range_with_len}
use Rattle.std.proofs.lemmas.List.Sums.{sum_by-append, sum_by-cons}
use Rattle.kmc_base.specs.declared.strands.Strands.{Strands}
use Rattle.kmc_base.specs.declared.strands.Strands.TheVariants.{Joined, Apart}
use Rattle.kmc_base.specs.Packed.{unpack}
use Rattle.kmc_base.specs.Record.{IsBodyOf, IsSpelled}
use Rattle.kmc_base.specs.Strands.{key, keys}
use Rattle.kmc_base.specs.Weights.{items, worth}
use Rattle.std.specs.Ordering.{is_lt}
use Rattle.kmc_base.specs.Words.{rev_comp, window, windows, word_cmp}
use Rattle.kmc_base.specs.Lemmas.Keys.{AreWords, IsWord, keys_are_words}
use Rattle.kmc_base.specs.Lemmas.NumberBytes.{codes_of_bytes}
use Rattle.kmc_base.specs.Lemmas.Packing.{length_unpack}
use Rattle.kmc_base.specs.Lemmas.Packs.{AreCodes}
use Rattle.kmc_base.specs.Lemmas.Unique.{one_list}
use Rattle.kmc_split.specs.Laws.{StrandsShareSignature}
use Rattle.kmc_split.specs.Signature.{bin_of, bin_of_signature}
use Rattle.kmc_record.specs.Bodies.{AreRecordsOfBin, Belong}
use Rattle.kmc_record.specs.Parts.{all_windows}
use Rattle.kmc_record.specs.RecordKeys.{codes_of, IsTaken}
use Rattle.kmc_record.specs.RecordWords.{record_keys}
use Rattle.kmc_record.specs.Shapes.{Sizes}
use Rattle.kmc_record.specs.Lemmas.KeyBytes.{are_codes, codes_of_number}
use Rattle.kmc_record.specs.Lemmas.Taken.{moved_keys}
use Rattle.kmc_record.specs.Lemmas.WordsOfBin.{front_belongs, back_belongs}
use Rattle.kmc_count.specs.declared.judging.AskedBin.{AskedBin}
use Rattle.kmc_count.specs.Asked.{AreKeysOfBin, FitsWords, IsForeign, IsOfBin}

-- ---- records that begin alike

module _ (bin : ℕ) (shape : Sizes) where
  -- the words of fewer codes in front are words of them all
  belong_in_front : (n : ℕ) (s : List ℕ) → n ≤ length s → Belong bin shape (windows shape.k s) → Belong bin shape (windows shape.k (take n s))
  belong_in_front n s inside h = λ i d less.
      let k = shape.k in
      let long : length (windows k (take n s)) ≡ n + 1 - k =
      length-map-range_with_len (window k (take n s)) 0 (length (take n s) + 1 - k) ∙ ap (λ m. m + 1 - k) (length-take-le n s inside) in
      let all : length (windows k s) ≡ length s + 1 - k = length-map-range_with_len (window k s) 0 (length s + 1 - k) in
      let here : i < n + 1 - k = omega (arith, less, long) in
      let parts : n ≡ i + (n - i) = omega (arith, here) in
      let front : window k (take n s) i ≡ window k s i =
      ap (λ m. take k (drop i (take m s))) parts ∙ ap (take k) (drop-take i (n - i) s) ∙ take-take k (n - i) (drop i s) (omega (arith, here)) in
      let one : get_or (windows k (take n s)) i d ≡ window k (take n s) i =
      get_or-map-range_with_len (window k (take n s)) 0 (length (take n s) + 1 - k) i i d (omega (arith, here, length-take-le n s inside)) (omega arith) in
      let other : get_or (windows k s) i d ≡ window k s i =
      get_or-map-range_with_len (window k s) 0 (length s + 1 - k) i i d (omega (arith, here, inside)) (omega arith) in
      ap (bin_of shape.m shape.n) (one ∙ front ∙ sym other) ∙ h i d (omega (arith, here, all, inside))

  front_is : (number : ℕ) → codes_of number ≡ take (number % 64) (unpack 64 number)
  front_is number = sym (codes_of_number number) ∙ ap (take (number % 64)) (codes_of_bytes 16 number)

  -- a record with which another one begins
  pub belong_as_other : (number other shared : ℕ) → take shared (unpack 64 number) ≡ take shared (unpack 64 other) → shared ≤ other % 64
      → shared ≡ number % 64 → Belong bin shape (windows shape.k (codes_of other)) → Belong bin shape (windows shape.k (codes_of number))
  belong_as_other number other shared alike inside whole h =
      let same : codes_of number ≡ take shared (codes_of other) =
      front_is number ∙ ap (λ n. take n (unpack 64 number)) (sym whole) ∙ alike ∙ sym (take-take shared (other % 64) (unpack 64 other) inside)
      ∙ ap (take shared) (sym (front_is other)) in
      let long : shared ≤ length (codes_of other) =
      omega (arith, inside, ap length (front_is other), length-take-le (other % 64) (unpack 64 other) (omega (arith, length_unpack 64 other))) in
      subst (λ (w : List ℕ). Belong bin shape (windows shape.k w)) (sym same) (belong_in_front shared (codes_of other) long h)

  -- no symbol, no word
  pub none_belong : 1 ≤ shape.k → Belong bin shape (windows shape.k (codes_of 0))
  none_belong some = λ i d less.
      let none : length (windows shape.k (codes_of 0)) ≡ 0 + 1 - shape.k =
      length-map-range_with_len (window shape.k (codes_of 0)) 0 (length (codes_of 0) + 1 - shape.k) in
      absurd (let no : ⊥ = omega (arith, less, none, some) in no)

  -- one record before the others
  pub more_belong : (numbers : List ℕ) (left : ℕ) → 1 ≤ left → left ≤ length numbers
      → Belong bin shape (windows shape.k (codes_of (get_or numbers (left - 1) 0))) → Belong bin shape (all_windows shape.k (map codes_of (drop left numbers)))
      → Belong bin shape (all_windows shape.k (map codes_of (drop (left - 1) numbers)))
  more_belong numbers left some inside here rest =
      let next : left - 1 + 1 ≡ left = omega (arith, some) in
      let parts : drop (left - 1) numbers ≡ get_or numbers (left - 1) 0 ∷ drop left numbers =
      drop_more numbers (left - 1) 0 (omega (arith, some, inside)) ∙ ap (λ n. get_or numbers (left - 1) 0 ∷ drop n numbers) next in
      subst (λ (t : List ℕ). Belong bin shape (all_windows shape.k (map codes_of t))) (sym parts)
      (All-append (λ w. bin_of shape.m shape.n w ≡ bin) (windows shape.k (codes_of (get_or numbers (left - 1) 0)))
      (all_windows shape.k (map codes_of (drop left numbers))) here rest)

  -- one record of many
  pub one_belongs : (numbers : List ℕ) (i : ℕ) → i < length numbers → Belong bin shape (all_windows shape.k (map codes_of numbers))
      → Belong bin shape (windows shape.k (codes_of (get_or numbers i 0)))
  one_belongs [] i less h = absurd (omega (arith, less))
  one_belongs (n ∷ ns) zero less h = front_belongs bin shape (windows shape.k (codes_of n)) (all_windows shape.k (map codes_of ns)) h
  one_belongs (n ∷ ns) (suc i) less h = one_belongs ns i (omega (arith, less))
      (back_belongs bin shape (windows shape.k (codes_of n)) (all_windows shape.k (map codes_of ns)) h)

-- ---- the words of a body, by those of the numbers of its records

module _ (share : StrandsShareSignature) (strands : Strands) (bin : ℕ) (shape : Sizes) (within : shape.m ≤ shape.k) where
  abbrev other : Bool → ℕ
  other same = if same then 0 else 1

  -- 1 for a word of another bin
  abbrev out : List ℕ → ℕ
  out w = other (nat_eq (bin_of shape.m shape.n w) bin)

  none_out : (w : List ℕ) → bin_of shape.m shape.n w ≡ bin → out w ≡ 0
  none_out w is = go (nat_eq (bin_of shape.m shape.n w) bin) refl
    where
      go : (b : Bool) → nat_eq (bin_of shape.m shape.n w) bin ≡ b → other b ≡ 0
      go true e = refl
      go false e = absurd (let no : ⊥ = grind (arith, nat_tests) in no)

  is_in : (w : List ℕ) → out w ≡ 0 → bin_of shape.m shape.n w ≡ bin
  is_in w none = go (nat_eq (bin_of shape.m shape.n w) bin) refl none
    where
      go : (b : Bool) → nat_eq (bin_of shape.m shape.n w) bin ≡ b → other b ≡ 0 → bin_of shape.m shape.n w ≡ bin
      go true e z = grind (arith, nat_tests)
      go false e z = absurd (let no : ⊥ = omega (arith, z) in no)

  all_in : (ws : List (List ℕ)) → AllByRecursion (λ w. bin_of shape.m shape.n w ≡ bin) ws → sum_by out ws ≡ 0
  all_in [] h = refl
  all_in (w ∷ ws) h = omega (arith, sum_by-cons out w ws, none_out w h.0, all_in ws h.1)

  are_in : (ws : List (List ℕ)) → sum_by out ws ≡ 0 → AllByRecursion (λ w. bin_of shape.m shape.n w ≡ bin) ws
  are_in [] none = tt
  are_in (w ∷ ws) none =
      let parts = sum_by-cons out w ws in
      (is_in w (omega (arith, none, parts)), are_in ws (omega (arith, none, parts)))

  -- a word and its key have one bin
  one_bin : (strands : Strands) (w : List ℕ) → IsWord shape.k w → bin_of shape.m shape.n (key strands w) ≡ bin_of shape.m shape.n w
  one_bin Joined w h = go (is_lt (word_cmp (rev_comp w) w))
    where
      go : (b : Bool) → bin_of shape.m shape.n (cond b (rev_comp w) w) ≡ bin_of shape.m shape.n w
      go true = ap (bin_of_signature shape.n) (share shape.m w (omega (arith, h.0, within)) (All-from_recursion (λ (c : ℕ). c < 4) w h.1))
      go false = refl
  one_bin Apart w h = refl

  keys_out : (f : ℕ → List ℕ) (is : List ℕ) → AreWords shape.k (map f is) → sum_by out (map (λ i. key strands (f i)) is) ≡ sum_by out (map f is)
  keys_out f [] h = refl
  keys_out f (i ∷ is) h = omega (
    arith,
    sum_by-cons out (key strands (f i)) (map (λ i. key strands (f i)) is),
    sum_by-cons out (f i) (map f is),
    ap (λ (b : ℕ). other (nat_eq b bin)) (one_bin strands (f i) h.0),
    keys_out f is h.1,
  )

  records_out : (ss : List (List ℕ)) → AllByRecursion AreCodes ss → sum_by out (record_keys strands shape.k ss) ≡ sum_by out (all_windows shape.k ss)
  records_out [] h = refl
  records_out (s ∷ ss) h = omega (
    arith,
    sum_by-append out (keys strands shape.k s) (record_keys strands shape.k ss),
    sum_by-append out (windows shape.k s) (all_windows shape.k ss),
    keys_out (window shape.k s) (range_with_len 0 (length s + 1 - shape.k)) (keys_are_words Apart shape.k s h.0),
    records_out ss h.1,
  )

  numbers_are_codes : (numbers : List ℕ) → AllByRecursion AreCodes (map codes_of numbers)
  numbers_are_codes [] = tt
  numbers_are_codes (n ∷ ns) = (are_codes n, numbers_are_codes ns)

  spelled_codes : (ss : List (List ℕ)) → AllByRecursion (IsSpelled shape.k) ss → AllByRecursion AreCodes ss
  spelled_codes [] h = tt
  spelled_codes (s ∷ ss) h = (h.0.codes, spelled_codes ss h.1)

  -- the records of a body were taken in as numbers, which were moved, and as items; where there are no items, the words of the body belong to
  -- the bin where those of the numbers do, and the words of the numbers do where those of the body do
  module _ (f : ℕ) (body numbers sorted now : List ℕ) (ss : List (List ℕ)) (records : IsBodyOf shape.k ss body)
      (taken : IsTaken strands shape.k f numbers now ss) (moved : IsPermutation numbers sorted) where
    abbrev IsIn : List ℕ → Type 0
    IsIn w = bin_of shape.m shape.n w ≡ bin

    abbrev of_sorted : List (List ℕ)
    of_sorted = all_windows shape.k (map codes_of sorted)

    all_out : sum_by out of_sorted + worth out (items shape.k f now) ≡ sum_by out (all_windows shape.k ss)
    all_out = omega (
      arith,
      taken.each out,
      moved_keys strands shape.k out numbers sorted moved,
      records_out (map codes_of sorted) (numbers_are_codes sorted),
      records_out ss (spelled_codes ss records.each),
    )

    pub body_belongs : now ≡ [] → Belong bin shape of_sorted → AreRecordsOfBin bin shape body
    body_belongs none belong = record {
      super_kmers = ss;
      records = records;
      belong = All-from_recursion IsIn (all_windows shape.k ss) (are_in (all_windows shape.k ss) (
          let nothing : worth out (items shape.k f now) ≡ 0 = ap (λ t. worth out (items shape.k f t)) none in
          omega (arith, nothing, all_in of_sorted (recursion_from_All IsIn of_sorted belong), all_out)));
    }

    pub numbers_belong : AreRecordsOfBin bin shape body → Belong bin shape of_sorted
    numbers_belong of =
        let same : of.super_kmers ≡ ss = one_list shape.k of.super_kmers ss body of.records records in
        let belong : Belong bin shape (all_windows shape.k ss) = subst (λ (t : List (List ℕ)). Belong bin shape (all_windows shape.k t)) same of.belong in
        All-from_recursion IsIn of_sorted (are_in of_sorted
        (omega (arith, all_in (all_windows shape.k ss) (recursion_from_All IsIn (all_windows shape.k ss) belong), all_out)))

-- the same, whatever is asked
module _ (share : StrandsShareSignature) (strands : Strands) (k f : ℕ) (body numbers sorted now : List ℕ) (ss : List (List ℕ))
    (records : IsBodyOf k ss body) (taken : IsTaken strands k f numbers now ss) (moved : IsPermutation numbers sorted) where
  pub judged_rows : (asked : Option AskedBin) → FitsWords asked → now ≡ [] → AreKeysOfBin k asked sorted → IsOfBin asked body
  judged_rows None within none h = tt
  judged_rows (Some a) within none (same, inside, belong) = (
    inside,
    body_belongs share strands a.bin a.shape within f body numbers sorted now ss (subst (λ n. IsBodyOf n ss body) (sym same) records)
        (subst (λ n. IsTaken strands n f numbers now ss) (sym same) taken) moved none
        (subst (λ n. Belong a.bin a.shape (all_windows n (map codes_of sorted))) (sym same) belong),
  )

  pub foreign_rows : (asked : Option AskedBin) → FitsWords asked → ¬ (AreKeysOfBin k asked sorted) → IsForeign k asked body
  foreign_rows None within differ same of = differ tt
  foreign_rows (Some a) within differ same of = differ (
    same,
    of.0,
    subst (λ n. Belong a.bin a.shape (all_windows n (map codes_of sorted))) same
        (numbers_belong share strands a.bin a.shape within f body numbers sorted now ss (subst (λ n. IsBodyOf n ss body) (sym same) records)
        (subst (λ n. IsTaken strands n f numbers now ss) (sym same) taken) moved of.1),
  )
