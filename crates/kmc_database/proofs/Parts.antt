-- The rows of one first part, cut at one of them.
use Rattle.std.proofs.Common.{◌≡◌, ℕ, zero, suc, ◌+◌, ◌-◌, ◌*◌, ◌^◌, ◌<◌, ◌≤◌, List, [], ◌∷◌, ◌++◌, length, get_or, take, drop, refl, sym, ap, subst, ◌∙◌, arith, append_assoc, length-append, length-drop}
use Rattle.std.proofs.lemmas.Grind.{flat_map-append}
use Rattle.std.proofs.lemmas.List.{drop-drop, drop_at, take_more}
use Rattle.std.proofs.lemmas.Nat.{pow-add}
use Rattle.std.specs.List.{AllByRecursion}
use Rattle.std.specs.Ordering.{ordering_reverse}
use Rattle.std.specs.declared.cmp.Ordering.TheVariants.{Less, Equal, Greater}
use Rattle.kmc_base.specs.Packed.{pack, unpack}
use Rattle.kmc_base.specs.Record.{packed_codes}
use Rattle.kmc_base.specs.Words.{kmer_cmp}
use Rattle.kmc_base.specs.Lemmas.Keys.{IsWord}
use Rattle.kmc_base.specs.Lemmas.Packing.{length_unpack}
use Rattle.kmc_base.specs.Lemmas.Packs.{codes_unpack, pack_parts}
use Rattle.kmc_base.specs.Lemmas.Powers.{pow_up}
use Rattle.kmc_base.specs.Lemmas.Spelled.{length_packed}
use Rattle.kmc_count.specs.Lemmas.Listing.{kmer_total}
use Rattle.kmc_sum.specs.Listed.{IsPair}
use Rattle.kmc_sum.specs.Sum.{listed_count}
use Rattle.kmc_database.specs.Layout.{IsLayout}
use Rattle.kmc_database.specs.Numbers.{low_first}
use Rattle.kmc_database.specs.Part.{IsPart, IsRowAt, row_place}
use Rattle.kmc_database.specs.Rows.{first_part, row_long, row_of, rows_of}
use Rattle.kmc_database.specs.TakenRow.{pair_of_row}
use Rattle.kmc_database.specs.declared.layout.Layout.{Layout}
use Rattle.kmc_database.specs.declared.row_reading.Row.{Row}
use Rattle.kmc_database.specs.Lemmas.Bytes.{length_low}
use Rattle.kmc_database.proofs.Cuts.{IsCut, all_before, all_behind, count_before, count_behind, count_here, cut_at, equal_is, rising_before, rising_behind}
use Rattle.kmc_database.proofs.ReadBack.{cut_same, row_same}

module _ (l : Layout) (is : IsLayout l) where
  pub length_row : (p : List ℕ × ℕ) → IsWord l.k p.0 → length (row_of l p) ≡ row_long l
  length_row p word =
      omega (
        arith,
        length-append (packed_codes (drop l.prefix p.0)) (low_first l.counter p.1),
        length_low l.counter p.1,
        length_packed (drop l.prefix p.0),
        length-drop l.prefix p.0,
        word.0,
        is.whole,
      )

  pub length_rows : (ps : List (List ℕ × ℕ)) → AllByRecursion (IsPair l.k) ps → length (rows_of l ps) ≡ length ps * row_long l
  length_rows [] each = none (row_long l)
    where
      none : (r : ℕ) → 0 ≡ 0 * r
      none r = omega arith
  length_rows (p ∷ ps) each =
      length-append (row_of l p) (rows_of l ps) ∙ (λ i. length_row p each.0.word i + length_rows ps each.1 i)
      ∙ next (length ps) (row_long l)
    where
      next : (n r : ℕ) → r + n * r ≡ suc n * r
      next n r = omega arith

  -- bytes that begin with the rows, from one of them on
  rows_on : (a : List (List ℕ × ℕ)) (p : List ℕ × ℕ) (b : List (List ℕ × ℕ)) (rest bytes : List ℕ) → AllByRecursion (IsPair l.k) a
      → rows_of l (a ++ p ∷ b) ++ rest ≡ bytes → row_of l p ++ (rows_of l b ++ rest) ≡ drop (length a * row_long l) bytes
  rows_on a p b rest bytes each e =
      let joined : rows_of l (a ++ p ∷ b) ≡ rows_of l a ++ rows_of l (p ∷ b) = flat_map-append (row_of l) a (p ∷ b) in
      let whole : rows_of l a ++ (rows_of l (p ∷ b) ++ rest) ≡ bytes =
      sym (append_assoc (rows_of l a) (rows_of l (p ∷ b)) rest) ∙ ap (λ (t : List ℕ). t ++ rest) (sym joined) ∙ e in
      sym (append_assoc (row_of l p) (rows_of l b) rest)
      ∙ sym (drop_at (rows_of l a) (rows_of l (p ∷ b) ++ rest) (length a * row_long l) (length_rows a each))
      ∙ ap (drop (length a * row_long l)) whole

  -- the place of a row further on
  place_on : (n from : ℕ) (bytes : List ℕ) → drop (n * row_long l) (drop (row_place l from) bytes) ≡ drop (row_place l (from + n)) bytes
  place_on n from bytes =
      drop-drop (n * row_long l) (row_place l from) bytes ∙ ap (λ m. drop m bytes) (sum n from (row_long l))
    where
      sum : (n from r : ℕ) → 4 + from * r + n * r ≡ 4 + (from + n) * r
      sum n from r = omega arith

  module _ (part : ℕ) (bytes : List ℕ) (low high : ℕ) (a : List (List ℕ × ℕ)) (p : List ℕ × ℕ) (b : List (List ℕ × ℕ))
      (h : IsPart l part bytes low high (a ++ p ∷ b)) where
    each_before : AllByRecursion (IsPair l.k) a
    each_before = all_before (IsPair l.k) a p b h.listed.each

    pub row_there : (rest : List ℕ) × (row_of l p ++ rest ≡ drop (row_place l (low + length a)) bytes)
    row_there =
        (rows_of l b ++ h.rows.0, rows_on a p b h.rows.0 (drop (row_place l low) bytes) each_before h.rows.1 ∙ place_on (length a) low bytes)

    pub part_before : IsPart l part bytes low (low + length a) a
    part_before = record {
      listed = record { each = each_before; rising = rising_before a p b h.listed.rising };
      fit = all_before (λ q. q.1 < 256 ^ l.counter) a p b h.fit;
      first = all_before (λ q. first_part l q.0 ≡ part) a p b h.first;
      count = refl;
      rows = (
        rows_of l (p ∷ b) ++ h.rows.0,
        sym (append_assoc (rows_of l a) (rows_of l (p ∷ b)) h.rows.0)
            ∙ ap (λ (t : List ℕ). t ++ h.rows.0) (sym (flat_map-append (row_of l) a (p ∷ b))) ∙ h.rows.1,
      );
    }

    pub part_behind : IsPart l part bytes (low + length a + 1) high b
    unfolding row_there
    part_behind =
        let long : length (row_of l p) ≡ 1 * row_long l = omega (arith, length_row p (all_behind (IsPair l.k) a p b h.listed.each).0.word) in
        let rest = h.rows.0 in record {
          listed = record { each = (all_behind (IsPair l.k) a p b h.listed.each).1; rising = rising_behind a p b h.listed.rising };
          fit = (all_behind (λ q. q.1 < 256 ^ l.counter) a p b h.fit).1;
          first = (all_behind (λ q. first_part l q.0 ≡ part) a p b h.first).1;
          count = omega (arith, h.count, length-append a (p ∷ b));
          rows = (
            rest,
            sym (drop_at (row_of l p) (rows_of l b ++ rest) (1 * row_long l) long)
                ∙ ap (drop (1 * row_long l)) row_there.1
                ∙ place_on 1 (low + length a) bytes,
          );
        }

    -- the row that stands there is the pair's
    pub row_is : (row : Row) → IsRowAt l part bytes (low + length a) row → (unpack l.k row.packed ≡ p.0) × (row.count ≡ p.1)
    row_is row r =
        let q = pair_of_row l row in
        let word : IsWord l.k (unpack l.k row.packed) = (length_unpack l.k row.packed, codes_unpack l.k row.packed) in
        let own = all_behind (IsPair l.k) a p b h.listed.each in
        let rows : row_of l q ≡ row_of l p =
        (cut_same (row_of l q) r.stands.0 (row_of l p) row_there.0 (length_row q word ∙ sym (length_row p own.0.word))
        (r.stands.1 ∙ sym row_there.1)).0 in
        row_same l is q p word own.0.word (r.first ∙ sym (all_behind (λ s. first_part l s.0 ≡ part) a p b h.first).0) r.small
        (all_behind (λ s. s.1 < 256 ^ l.counter) a p b h.fit).0 rows

-- ---- a search, narrowed

-- the rows of a narrower range, where those of these pairs stand in a wider one, give a word the same count
pub record IsNarrowed (l : Layout) (part : ℕ) (bytes : List ℕ) (low high : ℕ) (pairs : List (List ℕ × ℕ)) (x : List ℕ) : Type 0 where
  pub inner : List (List ℕ × ℕ)
  pub stand : IsPart l part bytes low high inner
  pub same : listed_count pairs x ≡ listed_count inner x

module _ (l : Layout) (is : IsLayout l) (part : ℕ) (bytes : List ℕ) (low high : ℕ) (pairs : List (List ℕ × ℕ)) (x : List ℕ) (middle : ℕ) (row : Row)
    (so : IsNarrowed l part bytes low high pairs x) (least : low ≤ middle) (most : middle < high) (found : IsRowAt l part bytes middle row) where
  cut : IsCut so.inner (middle - low)
  cut = cut_at so.inner (middle - low) (omega (arith, so.stand.count, least, most))

  stands : IsPart l part bytes low high (cut.before ++ cut.here ∷ cut.after)
  stands = subst (IsPart l part bytes low high) (sym cut.is) so.stand

  place : middle ≡ low + length cut.before
  place = omega (arith, cut.long, least)

  own : (unpack l.k row.packed ≡ cut.here.0) × (row.count ≡ cut.here.1)
  own = row_is l is part bytes low high cut.before cut.here cut.after stands row (subst (λ m. IsRowAt l part bytes m row) place found)

  count_cut : listed_count pairs x ≡ listed_count (cut.before ++ cut.here ∷ cut.after) x
  count_cut = so.same ∙ ap (λ (t : List (List ℕ × ℕ)). listed_count t x) (sym cut.is)

  pub found_here : kmer_cmp (unpack l.k row.packed) x ≡ Equal → row.count ≡ listed_count pairs x
  found_here e =
      let word : cut.here.0 ≡ x = sym own.0 ∙ equal_is (unpack l.k row.packed) x e in
      own.1 ∙ sym (count_here cut.before cut.here cut.after stands.listed.rising)
      ∙ ap (listed_count (cut.before ++ cut.here ∷ cut.after)) word ∙ sym count_cut

  pub found_behind : kmer_cmp (unpack l.k row.packed) x ≡ Less → IsNarrowed l part bytes (middle + 1) high pairs x
  found_behind e = record {
    inner = cut.after;
    stand = subst (λ m. IsPart l part bytes (m + 1) high cut.after) (sym place)
        (part_behind l is part bytes low high cut.before cut.here cut.after stands);
    same = count_cut ∙ count_behind x cut.before cut.here cut.after stands.listed.rising (ap (λ w. kmer_cmp w x) (sym own.0) ∙ e);
  }

  pub found_before : kmer_cmp (unpack l.k row.packed) x ≡ Greater → IsNarrowed l part bytes low middle pairs x
  found_before e = record {
    inner = cut.before;
    stand = subst (λ m. IsPart l part bytes low m cut.before) (sym place)
        (part_before l is part bytes low high cut.before cut.here cut.after stands);
    same = count_cut ∙ count_before x cut.before cut.here cut.after stands.listed.rising (above (ap (λ w. kmer_cmp w x) (sym own.0) ∙ e));
  }
    where
      above : kmer_cmp cut.here.0 x ≡ Greater → kmer_cmp x cut.here.0 ≡ Less
      above e = kmer_total.antisymm x cut.here.0 ∙ ap ordering_reverse e

pub all_narrowed : (l : Layout) (part : ℕ) (bytes : List ℕ) (from to : ℕ) (pairs : List (List ℕ × ℕ)) (x : List ℕ) → IsPart l part bytes from to pairs
    → IsNarrowed l part bytes from to pairs x
all_narrowed l part bytes from to pairs x h = record { inner = pairs; stand = h; same = refl }

-- a range of no rows
pub none_narrowed : (l : Layout) (part : ℕ) (bytes : List ℕ) (low high : ℕ) (pairs : List (List ℕ × ℕ)) (x : List ℕ)
    → IsNarrowed l part bytes low high pairs x → high ≤ low → 0 ≡ listed_count pairs x
none_narrowed l part bytes low high pairs x so none = go so.inner (omega (arith, so.stand.count, none)) (sym so.same)
  where
    go : (inner : List (List ℕ × ℕ)) → length inner ≡ 0 → listed_count inner x ≡ listed_count pairs x → 0 ≡ listed_count pairs x
    go [] e same = same
    go (p ∷ ps) e same = absurd (omega (arith, e))

-- the rows of a part are there
pub part_long : (l : Layout) (is : IsLayout l) (part : ℕ) (bytes : List ℕ) (from to : ℕ) (pairs : List (List ℕ × ℕ)) → IsPart l part bytes from to pairs
    → from < to → row_place l to ≤ length bytes
part_long l is part bytes from to pairs h some =
    let n = length pairs in
    let long = length_rows l is pairs h.listed.each in
    let both = length-append (rows_of l pairs) h.rows.0 in
    let there = ap length h.rows.1 in
    let behind = length-drop (row_place l from) bytes in
    let sum : row_place l to ≡ row_place l from + n * row_long l = ap (row_place l) (sym h.count) ∙ add n from (row_long l) in
    let some_pairs : 1 ≤ n = omega (arith, h.count, some) in
    let some_bytes : 1 ≤ n * row_long l = product n (row_long l) some_pairs (omega (arith, is.counter)) in
    omega (arith, long, both, there, behind, sum, some_bytes)
  where
    add : (n from r : ℕ) → 4 + (from + n) * r ≡ 4 + from * r + n * r
    add n from r = omega arith

    product : (n r : ℕ) → 1 ≤ n → 1 ≤ r → 1 ≤ n * r
    product (suc n) (suc r) hn hr = omega arith
    product zero r hn hr = absurd (omega (arith, hn))
    product (suc n) zero hn hr = absurd (omega (arith, hr))

-- a row before another one stands before it
pub row_before : (l : Layout) (row other : ℕ) → row < other → row_place l row + row_long l ≤ row_place l other
row_before l row other less = go (row_long l) (other - (row + 1)) (omega (arith, less))
  where
    go : (r d : ℕ) → other ≡ row + 1 + d → 4 + row * r + r ≤ 4 + other * r
    go r d e =
        let product : other * r ≡ row * r + r + d * r = ap (λ n. n * r) e ∙ omega arith in
        omega (arith, product)

-- ---- the number of a first part

pub part_fits_on : (i n c : ℕ) → n < 4 ^ i → c < 4 → n * 4 + c < 4 ^ (i + 1)
part_fits_on i n c fits small =
    let power : 4 ^ (i + 1) ≡ 4 ^ 1 * 4 ^ i = ap (λ m. 4 ^ m) (plus i) ∙ pow-add 4 1 i in
    omega (arith, power, fits, small)
  where
    plus : (i : ℕ) → i + 1 ≡ 1 + i
    plus i = omega arith

pub part_room : (p i n c : ℕ) → p ≤ 15 → i < p → n < 4 ^ i → c < 4 → n * 4 + c < 4 ^ 15
part_room p i n c most inside fits small =
    let rest : 15 - (i + 1) + (i + 1) ≡ 15 = omega (arith, most, inside) in
    let up : 4 ^ (i + 1) ≤ 4 ^ 15 = subst (λ m. 4 ^ (i + 1) ≤ 4 ^ m) rest (pow_up (i + 1) (15 - (i + 1))) in
    omega (arith, up, part_fits_on i n c fits small)

pub part_on : (i n c : ℕ) (w : List ℕ) → i < length w → n ≡ pack (take i w) → c ≡ get_or w i 0 → n * 4 + c ≡ pack (take (i + 1) w)
part_on i n c w inside is code =
    let own = get_or w i 0 in
    let power : 4 ^ length (own ∷ []) ≡ 4 = refl in
    let last : 0 * 4 + own ≡ own = omega arith in
    let front : List ℕ = take i w in
    (λ j. is j * 4 + code j) ∙ sym (pack_parts front (own ∷ []) ∙ (λ j. pack front * power j + last j)) ∙ ap pack (sym (take_more w i 0 inside))
