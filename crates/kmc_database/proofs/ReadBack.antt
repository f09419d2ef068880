-- The files of a database tell its pairs.
use Rattle.std.proofs.Common.{◌≡◌, ℕ, zero, suc, ◌+◌, ◌-◌, ◌/◌, ◌^◌, ◌<◌, ◌≤◌, cond, nat_lt, List, [], ◌∷◌, ◌++◌, length, take, drop, Option, Some, None, refl, sym, ap, subst, ◌∙◌, arith, append-nil, length-append, length-drop}
use Rattle.std.proofs.lemmas.Bool.{le-ltb, lt-ltb}
use Rattle.std.proofs.lemmas.Bool.Decides.{nat_tests}
use Rattle.std.proofs.lemmas.List.{append_cancel_left, append_cancel_right, drop_at, length-take-le, take-append-drop, take_at}
use Rattle.std.proofs.lemmas.List.Sums.{count_by-le-length, sum_by-cons}
use Rattle.std.specs.Io.KnownBytes.{Appends}
use Rattle.std.specs.List.{AllByRecursion, flat_map, range_with_len}
use Rattle.std.specs.List.Sorted.{IsStrictlySortedBy}
use Rattle.std.specs.Ordering.{nat_cmp}
use Rattle.std.specs.declared.cmp.Ordering.TheVariants.{Less}
use Rattle.kmc_base.specs.Packed.{pack, unpack}
use Rattle.kmc_base.specs.Record.{codes_in, packed_codes}
use Rattle.kmc_base.specs.Words.{kmer_cmp}
use Rattle.kmc_base.specs.Lemmas.Keys.{IsWord}
use Rattle.kmc_base.specs.Lemmas.Packs.{AreCodes, pack_fits, unpack_pack}
use Rattle.kmc_base.specs.Lemmas.Powers.{pow_some}
use Rattle.kmc_base.specs.Lemmas.Rolling.{codes_part}
use Rattle.kmc_base.specs.Lemmas.Spelled.{codes_packed, length_packed, zeros_to_byte}
use Rattle.kmc_count.specs.Dump.{words_of}
use Rattle.kmc_count.specs.Lemmas.PackedRuns.{cmp_packed}
use Rattle.kmc_device.specs.Device.{GaveAll}
use Rattle.kmc_lists.specs.Line.{text_of}
use Rattle.kmc_sum.specs.Listed.{AreListed, IsPair}
use Rattle.kmc_database.specs.Files.{CountsFit, header_of, IsDatabase, limits_of, prefix_marker, prefix_start, strands_of, suffix_file, suffix_marker}
use Rattle.kmc_database.specs.Header.{IsHeaderOf}
use Rattle.kmc_database.specs.Layout.{IsLayout}
use Rattle.kmc_database.specs.Numbers.{low_first}
use Rattle.kmc_database.specs.Rows.{first_part, number_below, row_of, rows_of, table_of}
use Rattle.kmc_database.specs.Unpacked.{IsUnpacked}
use Rattle.kmc_database.specs.declared.form.Form.{Form}
use Rattle.kmc_database.specs.declared.layout.Layout.{Layout}
use Rattle.kmc_database.specs.declared.reading.Header.{Header}
use Rattle.kmc_database.specs.Lemmas.Bytes.{length_low, low_same}
use Rattle.kmc_database.proofs.Words.{quotient_up}
use Rattle.kmc_database.specs.Lemmas.Words.{part_fits, part_is}

-- two texts with fronts of one length
pub cut_same : (xs ys us vs : List ℕ) → length xs ≡ length us → xs ++ ys ≡ us ++ vs → (xs ≡ us) × (ys ≡ vs)
cut_same xs ys us vs long e =
    let n = length xs in (
      sym (take_at xs ys n refl) ∙ ap (take n) e ∙ take_at us vs n (sym long),
      sym (drop_at xs ys n refl) ∙ ap (drop n) e ∙ drop_at us vs n (sym long),
    )

codes_back : (s : List ℕ) → AreCodes s → take (length s) (codes_in (packed_codes s)) ≡ s
codes_back s h = ap (take (length s)) (codes_packed s h) ∙ take_at s (zeros_to_byte s) (length s) refl

packed_same : (s t : List ℕ) → AreCodes s → AreCodes t → length s ≡ length t → packed_codes s ≡ packed_codes t → s ≡ t
packed_same s t hs ht long e = sym (codes_back s hs) ∙ (λ i. take (long i) (codes_in (e i))) ∙ codes_back t ht

pack_same : (s t : List ℕ) → AreCodes s → AreCodes t → length s ≡ length t → pack s ≡ pack t → s ≡ t
pack_same s t hs ht long e = sym (unpack_pack s hs) ∙ (λ i. unpack (long i) (e i)) ∙ unpack_pack t ht

codes_behind : (m : ℕ) (xs : List ℕ) → AreCodes xs → AreCodes (drop m xs)
codes_behind zero xs h = h
codes_behind (suc m) [] h = tt
codes_behind (suc m) (x ∷ xs) h = codes_behind m xs h.1

module _ (l : Layout) (is : IsLayout l) where
  -- ---- a word

  pub fits_at : (w : List ℕ) → IsWord l.k w → pack w < 4 ^ l.k
  fits_at w h = subst (λ m. pack w < 4 ^ m) h.0 (pack_fits w h.1)

  pub again : (w : List ℕ) → IsWord l.k w → unpack l.k (pack w) ≡ w
  again w h = ap (λ m. unpack m (pack w)) (sym h.0) ∙ unpack_pack w h.1

  part_of : (w : List ℕ) → IsWord l.k w → first_part l w ≡ pack w / 4 ^ (l.k - l.prefix)
  part_of w h = ap (first_part l) (sym (again w h)) ∙ part_is l is (pack w) (fits_at w h)

  pub part_small : (w : List ℕ) → IsWord l.k w → first_part l w < 4 ^ l.prefix
  part_small w h = subst (λ m. m < 4 ^ l.prefix) (sym (part_of w h)) (part_fits l is (pack w) (fits_at w h))

  pub part_up : (w v : List ℕ) → IsWord l.k w → IsWord l.k v → kmer_cmp w v ≡ Less → first_part l w ≤ first_part l v
  part_up w v hw hv less =
      let order : nat_cmp (pack w) (pack v) ≡ Less =
      sym (cmp_packed l.k (pack w) (pack v) (fits_at w hw) (fits_at v hv)) ∙ (λ i. kmer_cmp (again w hw i) (again v hv i)) ∙ less in
      let up : pack w < pack v = grind (arith, nat_tests) in
      let parts = quotient_up (4 ^ (l.k - l.prefix)) (pack w) (pack v) (pow_some (l.k - l.prefix)) (omega (arith, up)) in
      omega (arith, parts, part_of w hw, part_of v hv)

  front_long : (w : List ℕ) → IsWord l.k w → length (take l.prefix w) ≡ l.prefix
  front_long w h = length-take-le l.prefix w (omega (arith, h.0, is.inside))

  word_same : (w v : List ℕ) → IsWord l.k w → IsWord l.k v → first_part l w ≡ first_part l v → drop l.prefix w ≡ drop l.prefix v → w ≡ v
  word_same w v hw hv front rest =
      let same : take l.prefix w ≡ take l.prefix v =
      pack_same (take l.prefix w) (take l.prefix v) (codes_part l.prefix 0 w hw.1) (codes_part l.prefix 0 v hv.1)
      (front_long w hw ∙ sym (front_long v hv)) front in
      sym (take-append-drop l.prefix w) ∙ (λ i. same i ++ rest i) ∙ take-append-drop l.prefix v

  -- ---- a row

  behind_same : (w v : List ℕ) → IsWord l.k w → IsWord l.k v → length (drop l.prefix w) ≡ length (drop l.prefix v)
  behind_same w v hw hv = omega (arith, length-drop l.prefix w, length-drop l.prefix v, hw.0, hv.0)

  row_long : (p q : List ℕ × ℕ) → IsWord l.k p.0 → IsWord l.k q.0 → length (row_of l p) ≡ length (row_of l q)
  row_long p q hp hq =
      let size = length_packed (drop l.prefix p.0) in
      let other = length_packed (drop l.prefix q.0) in
      omega (
        arith,
        length-append (packed_codes (drop l.prefix p.0)) (low_first l.counter p.1),
        length-append (packed_codes (drop l.prefix q.0)) (low_first l.counter q.1),
        length_low l.counter p.1,
        length_low l.counter q.1,
        size,
        other,
        behind_same p.0 q.0 hp hq,
      )

  row_some : (p : List ℕ × ℕ) (more : List ℕ) → 1 ≤ length (row_of l p ++ more)
  row_some p more =
      omega (
        arith,
        length-append (row_of l p) more,
        length-append (packed_codes (drop l.prefix p.0)) (low_first l.counter p.1),
        length_low l.counter p.1,
        is.counter,
      )

  -- a row of a first part tells its word and its count
  pub row_same : (p q : List ℕ × ℕ) → IsWord l.k p.0 → IsWord l.k q.0 → first_part l p.0 ≡ first_part l q.0 → p.1 < 256 ^ l.counter
      → q.1 < 256 ^ l.counter → row_of l p ≡ row_of l q → (p.0 ≡ q.0) × (p.1 ≡ q.1)
  row_same p q hp hq front fp fq e =
      let size : length (packed_codes (drop l.prefix p.0)) ≡ length (packed_codes (drop l.prefix q.0)) =
      omega (arith, length_packed (drop l.prefix p.0), length_packed (drop l.prefix q.0), behind_same p.0 q.0 hp hq) in
      let halves = cut_same (packed_codes (drop l.prefix p.0)) (low_first l.counter p.1) (packed_codes (drop l.prefix q.0)) (low_first l.counter q.1)
      size e in
      let rest = packed_same (drop l.prefix p.0) (drop l.prefix q.0) (codes_behind l.prefix p.0 hp.1) (codes_behind l.prefix q.0 hq.1)
      (behind_same p.0 q.0 hp hq) halves.0 in
      (word_same p.0 q.0 hp hq front rest, low_same l.counter p.1 q.1 fp fq halves.1)

  -- ---- the entries

  abbrev pub one : ℕ → List ℕ × ℕ → ℕ
  one i p = cond (nat_lt (first_part l p.0) i) 1 0

  abbrev pub AreWordsFrom : ℕ → List (List ℕ × ℕ) → Type 0
  AreWordsFrom n pairs = AllByRecursion (λ p. n ≤ first_part l p.0) pairs

  pub none_below : (n : ℕ) (pairs : List (List ℕ × ℕ)) → AreWordsFrom n pairs → number_below l pairs n ≡ 0
  none_below n [] h = refl
  none_below n (p ∷ pairs) h =
      let own : one n p ≡ 0 = ap (λ b. cond b 1 0) (le-ltb (first_part l p.0) n h.0) in
      sum_by-cons (one n) p pairs ∙ omega (arith, own, none_below n pairs h.1)

  pub all_above : (p : List ℕ × ℕ) (pairs : List (List ℕ × ℕ)) (n : ℕ) → n ≤ first_part l p.0 → IsWord l.k p.0 → AllByRecursion (IsPair l.k) pairs
      → AllByRecursion (λ w. kmer_cmp p.0 w ≡ Less) (words_of pairs) → AreWordsFrom n pairs
  all_above p [] n low word each up = tt
  all_above p (q ∷ pairs) n low word each up =
      (omega (arith, low, part_up p.0 q.0 word each.0.word up.0), all_above p pairs n low word each.1 up.1)

  -- a first part that is less has an entry that tells
  less_told : (p q : List ℕ × ℕ) (ps qs : List (List ℕ × ℕ)) → first_part l p.0 < first_part l q.0
      → AreWordsFrom (first_part l p.0 + 1) qs
      → number_below l (p ∷ ps) (first_part l p.0 + 1) ≡ number_below l (q ∷ qs) (first_part l p.0 + 1) → ⊥
  less_told p q ps qs less above same =
      let n = first_part l p.0 + 1 in
      let here : one n p ≡ 1 = ap (λ b. cond b 1 0) (lt-ltb (first_part l p.0) n (omega arith)) in
      let there : number_below l (q ∷ qs) n ≡ 0 = none_below n (q ∷ qs) (omega (arith, less), above) in
      absurd (omega (arith, here, there, same, sum_by-cons (one n) p ps))

  pub pairs_same : (pairs others : List (List ℕ × ℕ)) → AllByRecursion (IsPair l.k) pairs → AllByRecursion (IsPair l.k) others
      → IsStrictlySortedBy kmer_cmp (words_of pairs) → IsStrictlySortedBy kmer_cmp (words_of others) → CountsFit l pairs → CountsFit l others
      → rows_of l pairs ≡ rows_of l others → ((i : ℕ) → i < 4 ^ l.prefix → number_below l pairs i ≡ number_below l others i) → pairs ≡ others
  unfolding IsStrictlySortedBy
  pairs_same [] [] hp hq up uq fp fq rows told = refl
  pairs_same [] (q ∷ qs) hp hq up uq fp fq rows told = absurd (omega (arith, ap length rows, row_some q (rows_of l qs)))
  pairs_same (p ∷ ps) [] hp hq up uq fp fq rows told = absurd (omega (arith, ap length rows, row_some p (rows_of l ps)))
  pairs_same (p ∷ ps) (q ∷ qs) hp hq up uq fp fq rows told =
      let apart = cut_same (row_of l p) (rows_of l ps) (row_of l q) (rows_of l qs) (row_long p q hp.0.word hq.0.word) rows in
      let size : length (packed_codes (drop l.prefix p.0)) ≡ length (packed_codes (drop l.prefix q.0)) =
      omega (arith, length_packed (drop l.prefix p.0), length_packed (drop l.prefix q.0), behind_same p.0 q.0 hp.0.word hq.0.word) in
      let halves = cut_same (packed_codes (drop l.prefix p.0)) (low_first l.counter p.1) (packed_codes (drop l.prefix q.0)) (low_first l.counter q.1)
      size apart.0 in
      let rest = packed_same (drop l.prefix p.0) (drop l.prefix q.0) (codes_behind l.prefix p.0 hp.0.word.1) (codes_behind l.prefix q.0 hq.0.word.1)
      (behind_same p.0 q.0 hp.0.word hq.0.word) halves.0 in
      let count = low_same l.counter p.1 q.1 fp.0 fq.0 halves.1 in
      let small = part_small p.0 hp.0.word in
      let small' = part_small q.0 hq.0.word in
      let front : first_part l p.0 ≡ first_part l q.0 = equal_of (first_part l p.0) (first_part l q.0)
      (λ less. less_told p q ps qs less (all_above q qs (first_part l p.0 + 1) (omega (arith, less)) hq.0.word hq.1 uq.0)
      (told (first_part l p.0 + 1) (omega (arith, less, small'))))
      (λ less. less_told q p qs ps less (all_above p ps (first_part l q.0 + 1) (omega (arith, less)) hp.0.word hp.1 up.0)
      (sym (told (first_part l q.0 + 1) (omega (arith, less, small))))) in
      let word = word_same p.0 q.0 hp.0.word hq.0.word front rest in
      let more = pairs_same ps qs hp.1 hq.1 up.1 uq.1 fp.1 fq.1 apart.1
      (λ i inside.
      let own : one i p ≡ one i q = ap (λ n. cond (nat_lt n i) 1 0) front in
      omega (arith, own, told i inside, sum_by-cons (one i) p ps, sum_by-cons (one i) q qs)) in
      (λ i. (word i, count i) ∷ more i)
    where
      equal_of : (a b : ℕ) → (a < b → ⊥) → (b < a → ⊥) → a ≡ b
      equal_of a b below above = omega (arith, below, above)

  -- ---- the table

  entries_same : (pairs others : List (List ℕ × ℕ)) (a n : ℕ) → length pairs < 2 ^ 64 → length others < 2 ^ 64
      → flat_map (λ i. low_first 8 (number_below l pairs i)) (range_with_len a n)
      ≡ flat_map (λ i. low_first 8 (number_below l others i)) (range_with_len a n)
      → (i : ℕ) → a ≤ i → i < a + n → number_below l pairs i ≡ number_below l others i
  entries_same pairs others a zero few few' e i least most = absurd (omega (arith, least, most))
  entries_same pairs others a (suc n) few few' e i least most =
      let f = λ (j : ℕ). low_first 8 (number_below l pairs j) in
      let g = λ (j : ℕ). low_first 8 (number_below l others j) in
      let apart = cut_same (f a) (flat_map f (range_with_len (a + 1) n)) (g a) (flat_map g (range_with_len (a + 1) n))
      (length_low 8 (number_below l pairs a) ∙ sym (length_low 8 (number_below l others a))) e in
      let power : 256 ^ 8 ≡ 2 ^ 64 = refl in
      let small : number_below l pairs a < 256 ^ 8 = omega (arith, power, few, count_by-le-length (λ (p : List ℕ × ℕ). nat_lt (first_part l p.0) a) pairs) in
      let small' : number_below l others a < 256 ^ 8 =
      omega (arith, power, few', count_by-le-length (λ (p : List ℕ × ℕ). nat_lt (first_part l p.0) a) others) in
      let here = low_same 8 (number_below l pairs a) (number_below l others a) small small' apart.0 in
      first_or_later a i least (λ same. ap (number_below l pairs) (sym same) ∙ here ∙ ap (number_below l others) same)
      (λ later. entries_same pairs others (a + 1) n few few' apart.1 i later (omega (arith, most)))
    where
      first_or_later : {P : Type 0} (a i : ℕ) → a ≤ i → (a ≡ i → P) → (a + 1 ≤ i → P) → P
      first_or_later zero zero least here later = here refl
      first_or_later zero (suc i) least here later = later (omega arith)
      first_or_later (suc a) zero least here later = absurd (omega (arith, least))
      first_or_later (suc a) (suc i) least here later =
          first_or_later a i (omega (arith, least)) (λ e. here (ap suc e)) (λ less. later (omega (arith, less)))

  pub tables_same : (pairs others : List (List ℕ × ℕ)) → length pairs < 2 ^ 64 → length others < 2 ^ 64 → table_of l pairs ≡ table_of l others
      → (i : ℕ) → i < 4 ^ l.prefix → number_below l pairs i ≡ number_below l others i
  tables_same pairs others few few' e i inside = entries_same pairs others 0 (4 ^ l.prefix) few few' e i (omega arith) (omega (arith, inside))

-- ---- the header

-- two texts with ends of one length
pub cut_end : (xs ys us vs : List ℕ) → length ys ≡ length vs → xs ++ ys ≡ us ++ vs → (xs ≡ us) × (ys ≡ vs)
cut_end xs ys us vs long e =
    cut_same xs ys us vs (omega (arith, long, ap length e, length-append xs ys, length-append us vs)) e

pub length_header : (l : Layout) (rows : ℕ) (limits strands : List ℕ) → length limits ≡ 8 → length strands ≡ 28
    → length (header_of l rows limits strands) ≡ 72
length_header l rows limits strands limits_long strands_long = simp length-append (omega (arith, limits_long, strands_long))

-- one header tells one layout and one number of rows
header_same : (l l' : Layout) (m n : ℕ) (limits limits' strands strands' : List ℕ) → length limits ≡ length limits' → length strands ≡ length strands'
    → IsLayout l → IsLayout l' → m < 2 ^ 64 → n < 2 ^ 64 → header_of l m limits strands ≡ header_of l' n limits' strands' → (l ≡ l') × (m ≡ n)
header_same l l' m n limits limits' strands strands' limits_long strands_long hf hg few few' e =
    let to_k : List ℕ = low_first 4 l.k ++ low_first 4 0 in
    let to_k' : List ℕ = low_first 4 l'.k ++ low_first 4 0 in
    let to_counter = to_k ++ low_first 4 l.counter in
    let to_counter' = to_k' ++ low_first 4 l'.counter in
    let to_prefix = to_counter ++ low_first 4 l.prefix in
    let to_prefix' = to_counter' ++ low_first 4 l'.prefix in
    let to_limits = to_prefix ++ limits in
    let to_limits' = to_prefix' ++ limits' in
    let to_rows = to_limits ++ low_first 8 m in
    let to_rows' = to_limits' ++ low_first 8 n in
    let to_strands = to_rows ++ strands in
    let to_strands' = to_rows' ++ strands' in
    let to_version = to_strands ++ low_first 4 0 in
    let to_version' = to_strands' ++ low_first 4 0 in
    let to_size = to_version ++ low_first 4 64 in
    let to_size' = to_version' ++ low_first 4 64 in
    let size = (cut_end to_size prefix_marker to_size' prefix_marker refl e).0 in
    let version = (cut_end to_version (low_first 4 64) to_version' (low_first 4 64) refl size).0 in
    let behind = (cut_end to_strands (low_first 4 0) to_strands' (low_first 4 0) refl version).0 in
    let rows = (cut_end to_rows strands to_rows' strands' strands_long behind).0 in
    let many = cut_end to_limits (low_first 8 m) to_limits' (low_first 8 n) refl rows in
    let prefix = cut_end to_prefix limits to_prefix' limits' limits_long many.0 in
    let counter = cut_end to_counter (low_first 4 l.prefix) to_counter' (low_first 4 l'.prefix) refl prefix.0 in
    let k = cut_end to_k (low_first 4 l.counter) to_k' (low_first 4 l'.counter) refl counter.0 in
    let front = cut_end (low_first 4 l.k) (low_first 4 0) (low_first 4 l'.k) (low_first 4 0) refl k.0 in
    let k_same = low_same 4 l.k l'.k (omega (arith, hf.long)) (omega (arith, hg.long)) front.0 in
    let counter_same = low_same 4 l.counter l'.counter (omega (arith, hf.counter)) (omega (arith, hg.counter)) k.1 in
    let prefix_same = low_same 4 l.prefix l'.prefix (omega (arith, hf.most)) (omega (arith, hg.most)) counter.1 in
    let power : 256 ^ 8 ≡ 2 ^ 64 = refl in
    let many_same = low_same 8 m n (omega (arith, power, few)) (omega (arith, power, few')) many.1 in
    ((λ i. record { k = k_same i; prefix = prefix_same i; counter = counter_same i }), many_same)

-- ---- both files

-- files of one layout tell one list of pairs
same_pairs : (l : Layout) (pairs others : List (List ℕ × ℕ)) → IsLayout l → AreListed l.k pairs → AreListed l.k others → CountsFit l pairs
    → CountsFit l others → length pairs < 2 ^ 64 → length others < 2 ^ 64 → prefix_start l pairs ≡ prefix_start l others
    → suffix_file l pairs ≡ suffix_file l others → pairs ≡ others
same_pairs l pairs others is listed listed' fit fit' few few' starts suffixes =
    let rows : rows_of l pairs ≡ rows_of l others =
    append_cancel_left suffix_marker (rows_of l pairs) (rows_of l others)
    (append_cancel_right (suffix_marker ++ rows_of l pairs) (suffix_marker ++ rows_of l others) suffix_marker suffixes) in
    let tables : table_of l pairs ≡ table_of l others = append_cancel_left prefix_marker (table_of l pairs) (table_of l others) starts in
    pairs_same l is pairs others listed.each listed'.each listed.rising listed'.rising fit fit' rows (tables_same l is pairs others few few' tables)

pub one_list : (f g : Form) (pairs others : List (List ℕ × ℕ)) (prefix_bytes suffix_bytes : List ℕ) → IsDatabase f pairs prefix_bytes suffix_bytes
    → IsDatabase g others prefix_bytes suffix_bytes → (pairs ≡ others) × (f.layout ≡ g.layout)
one_list f g pairs others prefix_bytes suffix_bytes h d =
    let l = f.layout in
    let cut = cut_end (prefix_start l pairs) (header_of l (length pairs) (limits_of f) (strands_of f)) (prefix_start g.layout others)
    (header_of g.layout (length others) (limits_of g) (strands_of g)) refl (sym h.prefix ∙ d.prefix) in
    let same = (header_same l g.layout (length pairs) (length others) (limits_of f) (limits_of g) (strands_of f) (strands_of g) refl refl h.layout
    d.layout h.few d.few cut.1).0 in (
      same_pairs l pairs others h.layout h.listed (subst (λ (m : Layout). AreListed m.k others) (sym same) d.listed) h.fit
          (subst (λ (m : Layout). CountsFit m others) (sym same) d.fit) h.few d.few
          (cut.0 ∙ ap (λ (m : Layout). prefix_start m others) (sym same))
          (sym h.suffix ∙ d.suffix ∙ ap (λ (m : Layout). suffix_file m others) (sym same)),
      same,
    )

-- ---- what is unpacked

-- bytes are the header of one layout and one number of rows
pub one_header : (bytes : List ℕ) (h g : Header) → IsHeaderOf bytes h → IsHeaderOf bytes g → h ≡ g
one_header bytes h g a b =
    let both = header_same h.layout g.layout h.rows g.rows a.limits b.limits a.strands b.strands (a.limits_long ∙ sym b.limits_long)
    (a.strands_long ∙ sym b.strands_long) a.layout b.layout a.few b.few (sym a.is ∙ b.is) in
    (λ i. record { layout = both.0 i; rows = both.1 i })

all_of : (xs : List ℕ) (now : Option (List ℕ)) (bytes : List ℕ) → GaveAll (Some xs) now bytes → xs ≡ bytes
all_of xs None bytes h = absurd h.0
all_of xs (Some ys) bytes h = h.0 ∙ ap (λ (t : List ℕ). bytes ++ t) h.1 ∙ append-nil bytes

pub dumped : (f : Form) (pairs : List (List ℕ × ℕ)) (prefix_bytes suffix_bytes : List ℕ) → IsDatabase f pairs prefix_bytes suffix_bytes
    → (first_old first_new prefix_now suffix_now old new : Option (List ℕ)) (rows : ℕ)
    → IsUnpacked first_old first_new (record { prefix = Some prefix_bytes; suffix = Some suffix_bytes; written = old }) prefix_now suffix_now new rows
    → (rows ≡ length pairs) × Appends old new (text_of pairs)
dumped f pairs prefix_bytes suffix_bytes d first_old first_new prefix_now suffix_now old new rows u =
    let l = f.layout in
    let h = u.h in
    let out = u.out in
    let told = out.told in
    let cut = cut_end (prefix_start l pairs) (header_of l (length pairs) (limits_of f) (strands_of f)) (prefix_start h.layout out.pairs) out.header
    (sym (ap length told.is ∙ length_header h.layout h.rows told.limits told.strands told.limits_long told.strands_long))
    (sym d.prefix ∙ all_of prefix_bytes prefix_now (prefix_start h.layout out.pairs ++ out.header) out.prefix) in
    let same = (header_same l h.layout (length pairs) h.rows (limits_of f) told.limits (strands_of f) told.strands (sym told.limits_long)
    (sym told.strands_long) d.layout told.layout d.few told.few (cut.1 ∙ told.is)).0 in
    let are : pairs ≡ out.pairs =
    same_pairs l pairs out.pairs d.layout d.listed (subst (λ (m : Layout). AreListed m.k out.pairs) (sym same) out.lists.listed) d.fit
    (subst (λ (m : Layout). CountsFit m out.pairs) (sym same) out.fit) d.few (omega (arith, told.few, out.count))
    (cut.0 ∙ ap (λ (m : Layout). prefix_start m out.pairs) (sym same))
    (sym d.suffix ∙ all_of suffix_bytes suffix_now (suffix_file h.layout out.pairs) out.suffix
    ∙ ap (λ (m : Layout). suffix_file m out.pairs) (sym same)) in (
      u.many ∙ out.count ∙ sym (ap length are),
      subst (Appends old new) (out.lists.lines ∙ sym (ap text_of are)) out.written,
    )
