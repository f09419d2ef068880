-- The text of the two files of a database is the dump of its pairs.
use Rattle.std.proofs.Common.{◌≡◌, ℕ, zero, suc, ◌+◌, ◌-◌, ◌^◌, ◌<◌, ◌≤◌, cond, Bool, true, false, nat_lt, List, [], ◌∷◌, ◌++◌, length, take, drop, refl, sym, ap, subst, ◌∙◌, arith, append_assoc}
use Rattle.std.proofs.lemmas.Bool.{ltb-false, ltb-true}
use Rattle.std.proofs.lemmas.List.{drop_at, take_at}
use Rattle.std.proofs.lemmas.Slice.Eq.{bytes_eq-Decides}
use Rattle.std.specs.List.{AllByRecursion, flat_map, range_with_len}
use Rattle.std.specs.List.Sorted.{IsStrictlySortedBy}
use Rattle.kmc_base.specs.Packed.{pack, unpack}
use Rattle.kmc_base.specs.Words.{kmer_cmp}
use Rattle.kmc_count.specs.Dump.{words_of}
use Rattle.kmc_lists.specs.Line.{line_of, text_of}
use Rattle.kmc_sum.specs.Listed.{IsPair}
use Rattle.kmc_database.specs.DumpText.{behind_entry, behind_row, is_header, IsWithin, start, steps_left, text_from, text_of_files}
use Rattle.kmc_database.specs.Files.{CountsFit, header_of, IsDatabase, limits_of, prefix_marker, strands_of, suffix_marker}
use Rattle.kmc_database.specs.Header.{IsHeaderOf}
use Rattle.kmc_database.specs.Laws.{AreFilesOf}
use Rattle.kmc_database.specs.Layout.{IsLayout}
use Rattle.kmc_database.specs.Numbers.{low_first}
use Rattle.kmc_database.specs.Numerals.{low_number}
use Rattle.kmc_database.specs.Rows.{first_part, number_below, row_long, row_of, rows_of, table_of}
use Rattle.kmc_database.specs.TakenRow.{pair_of_row}
use Rattle.kmc_database.specs.declared.form.Form.{Form}
use Rattle.kmc_database.specs.declared.progress.Progress.{Progress}
use Rattle.kmc_database.specs.declared.reading.Header.{Header}
use Rattle.kmc_database.specs.declared.row_reading.Row.{Row}
use Rattle.kmc_database.specs.Lemmas.Bytes.{length_low}
use Rattle.kmc_database.proofs.DumpSteps.{text_of_begun, text_of_end, text_of_entry, text_of_last_part, text_of_row}
use Rattle.kmc_database.proofs.HeaderSeen.{header_seen, stands_in}
use Rattle.kmc_database.proofs.Numerals.{low_of, stands_at}
use Rattle.kmc_database.specs.Lemmas.Ranges.{spread_moved}
use Rattle.kmc_database.proofs.ReadBack.{again, all_above, AreWordsFrom, fits_at, none_below}
use Rattle.kmc_database.proofs.RowTold.{long_row, row_there, row_told}
use Rattle.kmc_database.proofs.Tables.{number_all}
use Rattle.kmc_database.proofs.RowsAhead.{Pairs, above_first, all_below, entries_after, entries_behind, entries_cons, entries_done, from_none, from_zero, most_below, one_more}
use Rattle.kmc_database.proofs.SoundSteps.{no_entry_fault, no_row_fault}

-- ---- the steps

module _ (h : Header) (is : IsLayout h.layout) (few : h.rows < 2 ^ 64) (header : List ℕ) (told : IsHeaderOf header h) where
  -- p and s are left of the two files, and these rows are to come
  record IsAhead (at : Progress) (p s : List ℕ) (back : Pairs) : Type 0 where
    pub begun : at.begun ≡ true
    pub each : AllByRecursion (IsPair h.layout.k) back
    pub rising : IsStrictlySortedBy kmer_cmp (words_of back)
    pub fit : CountsFit h.layout back
    pub from : AreWordsFrom h.layout is (at.entries - 2) back
    pub to : at.to ≡ at.row + number_below h.layout back (at.entries - 1)
    pub count : h.rows ≡ at.row + length back
    pub above : 1 ≤ at.row → AllByRecursion (λ q. at.last < pack q.0) back
    pub fresh : at.entries ≡ 0 → at.row ≡ 0
    pub most : at.entries ≤ 4 ^ h.layout.prefix + 1
    pub table : p ≡ entries_after h.layout is at.row back at.entries ++ header
    pub rows : s ≡ rows_of h.layout back ++ suffix_marker

  -- the text is the lines of the rows to come
  abbrev IsRead : Progress → List ℕ → List ℕ → Pairs → Type 0
  IsRead at p s back = text_from h at p s ≡ text_of back

  module _ (at : Progress) (p s : List ℕ) (back : Pairs) (a : IsAhead at p s back) where
    within : IsWithin h at
    within = record {
      order = omega (arith, a.to);
      rows = omega (arith, a.to, a.count, most_below h.layout is back (at.entries - 1));
      table = a.most;
      part = λ inside. two (nat_lt at.entries 2) refl inside;
      few = few;
    }
      where
        two : (b : Bool) → nat_lt at.entries 2 ≡ b → at.row < at.to → 2 ≤ at.entries
        two true e inside =
            let early : at.entries - 1 ≡ 0 = omega (arith, ltb-true at.entries 2 e) in
            let none : number_below h.layout back (at.entries - 1) ≡ 0 =
            ap (number_below h.layout back) early ∙ none_below h.layout is 0 back (from_zero h.layout is back) in
            absurd (omega (arith, none, a.to, inside))
        two false e inside = ltb-false at.entries 2 e

  -- the next row
  module _ (at : Progress) (p s : List ℕ) (q : List ℕ × ℕ) (rest : Pairs) (a : IsAhead at p s (q ∷ rest)) (inside : at.row < at.to) where
    low : first_part h.layout q.0 < at.entries - 1
    unfolding IsStrictlySortedBy
    low = go (nat_lt (first_part h.layout q.0) (at.entries - 1)) refl
      where
        go : (b : Bool) → nat_lt (first_part h.layout q.0) (at.entries - 1) ≡ b → first_part h.layout q.0 < at.entries - 1
        go true e = ltb-true (first_part h.layout q.0) (at.entries - 1) e
        go false e =
            let up = ltb-false (first_part h.layout q.0) (at.entries - 1) e in
            let none : number_below h.layout (q ∷ rest) (at.entries - 1) ≡ 0 =
            none_below h.layout is (at.entries - 1) (q ∷ rest)
            (up, all_above h.layout is q rest (at.entries - 1) up a.each.0.word a.each.1 a.rising.0) in
            absurd (omega (arith, none, a.to, inside))

    abbrev row : Row
    row = record { packed = pack q.0; count = q.1 }

    abbrev behind : List ℕ
    behind = rows_of h.layout rest ++ suffix_marker

    same : pair_of_row h.layout row ≡ q
    same = (λ i. (again h.layout is q.0 a.each.0.word i, q.1))

    long : length (row_of h.layout q) ≡ row_long h.layout
    long = ap (λ (t : List ℕ × ℕ). length (row_of h.layout t)) (sym same) ∙ long_row h.layout is row

    bytes : s ≡ row_of h.layout q ++ behind
    bytes = a.rows ∙ append_assoc (row_of h.layout q) (rows_of h.layout rest) suffix_marker

    front : take (row_long h.layout) s ≡ row_of h.layout (pair_of_row h.layout row)
    front =
        ap (take (row_long h.layout)) bytes
        ∙ take_at (row_of h.layout q) behind (row_long h.layout) long
        ∙ ap (row_of h.layout) (sym same)

    left : drop (row_long h.layout) s ≡ behind
    left = ap (drop (row_long h.layout)) bytes ∙ drop_at (row_of h.layout q) behind (row_long h.layout) long

    row_text : text_from h at p s ≡ line_of q ++ text_from h (behind_row at row) p behind
    row_text =
        let l = h.layout in
        let part : first_part l q.0 ≡ at.entries - 2 = omega (arith, low, a.from.0) in
        let first : first_part l (unpack l.k row.packed) ≡ at.entries - 2 = ap (first_part l) (again l is q.0 a.each.0.word) ∙ part in
        text_of_row h at p s a.begun inside row
        (row_told l is (at.entries - 2) row s front first (fits_at l is q.0 a.each.0.word) a.fit.0)
        (row_there l is (at.entries - 2) row s front)
        (within at p s (q ∷ rest) a)
        (no_row_fault at row (λ before. (a.above before).0) a.each.0.some)
        ∙ (λ i. line_of (same i) ++ text_from h (behind_row at row) p (left i))

    row_next : IsAhead (behind_row at row) p behind rest
    unfolding IsStrictlySortedBy
    row_next =
        let l = h.layout in
        record {
          begun = a.begun;
          each = a.each.1;
          rising = a.rising.1;
          fit = a.fit.1;
          from = a.from.1;
          to = omega (arith, a.to, one_more l is q rest (at.entries - 1) low);
          count = omega (arith, a.count);
          above = λ _. above_first l is q rest a.each.0.word a.each.1 a.rising.0;
          fresh = λ none. absurd (omega (arith, none, low));
          most = a.most;
          table = a.table ∙ ap (λ (t : List ℕ). t ++ header) (entries_behind l is at.row q rest at.entries (omega (arith, low)));
          rows = refl;
        }

  module _ (at : Progress) (p s : List ℕ) (back : Pairs) (a : IsAhead at p s back) (done : at.to ≤ at.row) where
    none_left : number_below h.layout back (at.entries - 1) ≡ 0
    none_left = omega (arith, a.to, done)

    from_now : (n : ℕ) → n ≡ at.entries - 1 → AreWordsFrom h.layout is n back
    from_now n e = subst (λ m. AreWordsFrom h.layout is m back) (sym e) (from_none h.layout is back (at.entries - 1) none_left)

    -- the next entry
    module _ (more : at.entries < 4 ^ h.layout.prefix) where
      abbrev entry : ℕ
      entry = at.row + number_below h.layout back at.entries

      abbrev table_rest : List ℕ
      table_rest = entries_after h.layout is at.row back (at.entries + 1) ++ header

      entry_cut : p ≡ low_first 8 entry ++ table_rest
      entry_cut =
          a.table
          ∙ ap (λ (t : List ℕ). t ++ header) (entries_cons h.layout is at.row back at.entries more)
          ∙ append_assoc (low_first 8 entry) (entries_after h.layout is at.row back (at.entries + 1)) header

      bound : entry ≤ h.rows
      bound = omega (arith, a.count, most_below h.layout is back at.entries)

      entry_front : take 8 p ≡ low_first 8 entry
      entry_front = ap (take 8) entry_cut ∙ take_at (low_first 8 entry) table_rest 8 (length_low 8 entry)

      entry_zero : at.entries ≡ 0 → entry ≡ 0
      entry_zero e =
          let none : number_below h.layout back at.entries ≡ 0 =
          ap (number_below h.layout back) e ∙ none_below h.layout is 0 back (from_zero h.layout is back) in
          omega (arith, none, a.fresh e)

      entry_text : text_from h at p s ≡ text_from h (behind_entry at entry) table_rest s
      entry_text =
          let power : 256 ^ 8 ≡ 2 ^ 64 = refl in
          let number : low_number (take 8 p) ≡ entry = ap low_number entry_front ∙ low_of 8 entry (omega (arith, bound, few, power)) in
          let left : drop 8 p ≡ table_rest = ap (drop 8) entry_cut ∙ drop_at (low_first 8 entry) table_rest 8 (length_low 8 entry) in
          text_of_entry h at p s a.begun done more entry number (stands_at p 0 8 (low_first 8 entry) (length_low 8 entry) entry_front)
          (no_entry_fault h at entry (omega arith) entry_zero bound)
          ∙ ap (λ (t : List ℕ). text_from h (behind_entry at entry) t s) left

      entry_next : IsAhead (behind_entry at entry) table_rest s back
      entry_next =
          let again : at.entries ≡ at.entries + 1 - 1 = omega arith in
          record {
            begun = a.begun;
            each = a.each;
            rising = a.rising;
            fit = a.fit;
            from = from_now (at.entries + 1 - 2) (omega arith);
            to = ap (λ n. at.row + number_below h.layout back n) again;
            count = a.count;
            above = a.above;
            fresh = λ none. absurd (omega (arith, none));
            most = omega (arith, more);
            table = refl;
            rows = a.rows;
          }

    -- the end of the last first part
    last_next : at.entries ≡ 4 ^ h.layout.prefix → IsAhead (behind_entry at h.rows) p s back
    last_next last =
        let l = h.layout in
        let all : number_below l back (at.entries + 1 - 1) ≡ length back =
        number_all l back (4 ^ l.prefix) (at.entries + 1 - 1) (all_below l is back a.each) (omega (arith, last)) in
        record {
          begun = a.begun;
          each = a.each;
          rising = a.rising;
          fit = a.fit;
          from = from_now (at.entries + 1 - 2) (omega arith);
          to = omega (arith, all, a.count);
          count = a.count;
          above = a.above;
          fresh = λ none. absurd (omega (arith, none));
          most = omega (arith, last);
          table = a.table
              ∙ ap (λ (t : List ℕ). t ++ header)
              (entries_done l is at.row back at.entries (omega (arith, last)) ∙ sym (entries_done l is at.row back (at.entries + 1) (omega (arith, last))));
          rows = a.rows;
        }

    nothing_left : 4 ^ h.layout.prefix < at.entries → length back ≡ 0
    nothing_left over =
        let l = h.layout in
        let all : number_below l back (at.entries - 1) ≡ length back =
        number_all l back (4 ^ l.prefix) (at.entries - 1) (all_below l is back a.each) (omega (arith, over)) in
        omega (arith, all, none_left)

  -- the ends of the files
  end_text : (at : Progress) (p s : List ℕ) (back : Pairs) → IsAhead at p s back → at.to ≤ at.row → 4 ^ h.layout.prefix < at.entries → IsRead at p s back
  end_text at p s [] a done over =
      let table : p ≡ header = a.table ∙ ap (λ (t : List ℕ). t ++ header) (entries_done h.layout is at.row [] at.entries (omega (arith, over))) in
      text_of_end h at p s a.begun done over ((bytes_eq-Decides s suffix_marker).1 a.rows) (ap (is_header h) table ∙ header_seen h header told)
  end_text at p s (q ∷ rest) a done over = absurd (omega (arith, nothing_left at p s (q ∷ rest) a done over))

  one_step : (at : Progress) → at.begun ≡ true → ◌≡◌ {A = ℕ} (cond at.begun 1 2) 1
  one_step at e = ap (λ b. cond b 1 2) e

  -- so it is wherever so many steps are left
  abbrev AreRead : ℕ → Type 0
  AreRead m = (at : Progress) (p s : List ℕ) (back : Pairs) → IsAhead at p s back → steps_left h at ≡ m → IsRead at p s back

  all_read : (m : ℕ) → AreRead m
  all_read zero at p s back a steps = absurd (omega (arith, steps, one_step at a.begun))
  all_read (suc m) at p s back a steps = by_row (all_read m) (nat_lt at.row at.to) refl
    where
      by_end : AreRead m → at.to ≤ at.row → 4 ^ h.layout.prefix ≤ at.entries → (b : Bool) → nat_lt (4 ^ h.layout.prefix) at.entries ≡ b → IsRead at p s back
      by_end later done all true e = end_text at p s back a done (ltb-true (4 ^ h.layout.prefix) at.entries e)
      by_end later done all false e =
          let last : at.entries ≡ 4 ^ h.layout.prefix = omega (arith, all, ltb-false (4 ^ h.layout.prefix) at.entries e) in
          text_of_last_part h at p s a.begun done last
          ∙ later (behind_entry at h.rows) p s back (last_next at p s back a done last) (omega (arith, steps, last))

      by_entry : AreRead m → at.to ≤ at.row → (b : Bool) → nat_lt at.entries (4 ^ h.layout.prefix) ≡ b → IsRead at p s back
      by_entry later done true e =
          let more = ltb-true at.entries (4 ^ h.layout.prefix) e in
          entry_text at p s back a done more
          ∙ later (behind_entry at (entry at p s back a done more)) (table_rest at p s back a done more) s back
          (entry_next at p s back a done more) (omega (arith, steps, more))
      by_entry later done false e =
          by_end later done (ltb-false at.entries (4 ^ h.layout.prefix) e) (nat_lt (4 ^ h.layout.prefix) at.entries) refl

      with_rows : AreRead m → (rows : Pairs) → IsAhead at p s rows → at.row < at.to → IsRead at p s rows
      with_rows later [] b inside = absurd (omega (arith, b.to, inside))
      with_rows later (q ∷ rest) b inside =
          row_text at p s q rest b inside
          ∙ ap (λ (t : List ℕ). line_of q ++ t)
          (later (behind_row at (row at p s q rest b inside)) p (behind at p s q rest b inside) rest (row_next at p s q rest b inside)
          (omega (arith, steps, inside, (within at p s (q ∷ rest) b).rows)))

      by_row : AreRead m → (b : Bool) → nat_lt at.row at.to ≡ b → IsRead at p s back
      by_row later true e = with_rows later back a (ltb-true at.row at.to e)
      by_row later false e = by_entry later (ltb-false at.row at.to e) (nat_lt at.entries (4 ^ h.layout.prefix)) refl

-- the text of the files of a database
pub text_is : (h : Header) → IsLayout h.layout → h.rows < 2 ^ 64 → (pairs : Pairs) (prefix suffix : List ℕ) → AreFilesOf h pairs prefix suffix
    → text_of_files h prefix suffix ≡ text_of pairs
text_is h is few pairs prefix suffix f =
    let l = h.layout in
    let begun : Progress = record start { begun = true } in
    let table : List ℕ = table_of l pairs ++ f.header in
    let rows : List ℕ = rows_of l pairs ++ suffix_marker in
    let p_is : prefix ≡ prefix_marker ++ table = f.prefix ∙ append_assoc prefix_marker (table_of l pairs) f.header in
    let s_is : suffix ≡ suffix_marker ++ rows = f.suffix ∙ append_assoc suffix_marker (rows_of l pairs) suffix_marker in
    let whole : 4 ^ l.prefix ≡ 4 ^ l.prefix - 0 = omega arith in
    let entries_are : table_of l pairs ≡ entries_after l is 0 pairs 0 =
    ap (λ n. flat_map (λ i. low_first 8 (number_below l pairs i)) (range_with_len 0 n)) whole
    ∙ spread_moved (λ i. low_first 8 (number_below l pairs i)) (λ i. low_first 8 (0 + number_below l pairs i)) (4 ^ l.prefix - 0) 0 0
    (λ j _. let e : number_below l pairs (0 + j) ≡ 0 + number_below l pairs (0 + j) = omega arith in ap (low_first 8) e) in
    let none : number_below l pairs (0 - 1) ≡ 0 = none_below l is 0 pairs (from_zero l is pairs) in
    let ahead : IsAhead h is few f.header f.told begun table rows pairs = record {
      begun = refl;
      each = f.listed.each;
      rising = f.listed.rising;
      fit = f.fit;
      from = from_zero l is pairs;
      to = omega (arith, none);
      count = omega (arith, f.count);
      above = λ some. absurd (omega (arith, some));
      fresh = λ _. refl;
      most = omega arith;
      table = ap (λ (t : List ℕ). t ++ f.header) entries_are;
      rows = refl;
    } in
    text_of_begun h start prefix suffix refl (stands_in [] prefix_marker table prefix 0 p_is refl) (stands_in [] suffix_marker rows suffix 0 s_is refl)
    ∙ (λ i. text_from h begun (ap (drop 4) p_is i) (ap (drop 4) s_is i))
    ∙ all_read h is few f.header f.told (steps_left h begun) begun table rows pairs ahead refl

-- files that were packed
packed_are : (f : Form) (pairs : Pairs) (prefix suffix : List ℕ) → IsDatabase f pairs prefix suffix
    → AreFilesOf (record { layout = f.layout; rows = length pairs }) pairs prefix suffix
packed_are f pairs prefix suffix d = record {
  listed = d.listed;
  count = refl;
  fit = d.fit;
  header = header_of f.layout (length pairs) (limits_of f) (strands_of f);
  told = record {
    layout = d.layout;
    few = d.few;
    limits = limits_of f;
    limits_long = refl;
    strands = strands_of f;
    strands_long = refl;
    is = refl;
  };
  prefix = d.prefix;
  suffix = d.suffix;
}

pub packed_text : (f : Form) (pairs : Pairs) (prefix suffix : List ℕ) → IsDatabase f pairs prefix suffix
    → text_of_files (record { layout = f.layout; rows = length pairs }) prefix suffix ≡ text_of pairs
packed_text f pairs prefix suffix d =
    text_is (record { layout = f.layout; rows = length pairs }) d.layout d.few pairs prefix suffix (packed_are f pairs prefix suffix d)
