-- A dump, packed so far.
use Rattle.std.proofs.Common.{◌≡◌, ℕ, ◌+◌, ◌-◌, ◌^◌, ◌<◌, ◌≤◌, cond, true, List, [], ◌∷◌, ◌++◌, length, Option, refl, sym, ap, subst, ◌∙◌, arith, append_assoc, append-nil, length-append}
use Rattle.std.proofs.lemmas.Grind.{flat_map-append}
use Rattle.std.specs.List.{flat_map, range_with_len}
use Rattle.kmc_base.specs.Packed.{unpack}
use Rattle.kmc_device.specs.Device.{AppendsFront, WritesOut}
use Rattle.kmc_device.specs.Lemmas.Devices.{front_of}
use Rattle.kmc_lists.specs.Line.{text_of}
use Rattle.kmc_sum.specs.Faults.{GaveFront}
use Rattle.kmc_sum.specs.Heads.{pending}
use Rattle.kmc_sum.specs.Source.{unread}
use Rattle.kmc_sum.specs.Sources.{IsSource}
use Rattle.kmc_sum.specs.Lemmas.Gave.{gave_fewer}
use Rattle.kmc_sum.specs.Lemmas.Taken.{front_gathered}
use Rattle.kmc_sum.specs.Lemmas.Written.{out_same}
use Rattle.kmc_sum.specs.declared.heads.Head.{Head}
use Rattle.kmc_sum.specs.declared.source.Room.{Room}
use Rattle.kmc_database.specs.Files.{begun_table, CountsFit, prefix_marker, prefix_start, suffix_marker, suffix_start}
use Rattle.kmc_database.specs.Numbers.{low_first}
use Rattle.kmc_database.specs.Rows.{AreBelow, entries, first_part, number_below, repeated, row_of, rows_of}
use Rattle.kmc_database.specs.declared.layout.Layout.{Layout}
use Rattle.kmc_database.proofs.Gathering.{front_more, out_as}
use Rattle.kmc_database.proofs.Tables.{below_more, entries_front, entries_more, entries_push}

-- pairs were taken from the source; of their files so many entries and all rows went out or are gathered
pub record IsSoFar (l : Layout) (start now : Option (List ℕ)) (room : Room) (head : Head) (n rows : ℕ) (prefix_old prefix_new suffix_old suffix_new
    : Option (List ℕ)) (table body : List ℕ) : Type 0 where
  pub pairs : List (List ℕ × ℕ)
  pub source : IsSource l.k start now room head pairs
  pub fit : CountsFit l pairs
  pub below : AreBelow l n pairs
  pub count : rows ≡ length pairs
  pub prefix : WritesOut prefix_old prefix_new (begun_table l pairs n) table
  pub suffix : WritesOut suffix_old suffix_new (suffix_start l pairs) body

-- the pair of a head
abbrev pub pair_at : Layout → Head → List ℕ × ℕ
pair_at l head = (unpack l.k head.packed, head.count)

module _ (l : Layout) where
  pub so_start : (start now : Option (List ℕ)) (room : Room) (head : Head) (prefix suffix : Option (List ℕ)) (table body : List ℕ)
      → table ≡ prefix_marker → body ≡ suffix_marker → IsSource l.k start now room head []
      → IsSoFar l start now room head 0 0 prefix prefix suffix suffix table body
  so_start start now room head prefix suffix table body table_is body_is source = record {
    pairs = [];
    source = source;
    fit = tt;
    below = tt;
    count = refl;
    prefix = subst (λ (t : List ℕ). WritesOut prefix prefix t table) (append-nil table ∙ table_is) (out_same prefix table [] refl);
    suffix = subst (λ (t : List ℕ). WritesOut suffix suffix t body) (append-nil body ∙ body_is) (out_same suffix body [] refl);
  }

  pub rows_push : (pairs : List (List ℕ × ℕ)) (p : List ℕ × ℕ) → suffix_start l pairs ++ row_of l p ≡ suffix_start l (pairs ++ p ∷ [])
  rows_push pairs p =
      append_assoc suffix_marker (rows_of l pairs) (row_of l p)
      ∙ ap (λ (t : List ℕ). suffix_marker ++ t)
      (ap (λ (t : List ℕ). rows_of l pairs ++ t) (sym (append-nil (row_of l p))) ∙ sym (flat_map-append (row_of l) pairs (p ∷ [])))

  -- a part of a table is a front of the file
  table_part : (a b : Option (List ℕ)) (pairs : List (List ℕ × ℕ)) (n : ℕ) → n ≤ 4 ^ l.prefix → AppendsFront a b (begun_table l pairs n)
      → AppendsFront a b (prefix_start l pairs)
  table_part a b pairs n most front =
      let more = flat_map (λ i. low_first 8 (number_below l pairs i)) (range_with_len (0 + n) (4 ^ l.prefix - n)) in
      let is : begun_table l pairs n ++ more ≡ prefix_start l pairs =
      append_assoc prefix_marker (entries l pairs n) more
      ∙ ap (λ (t : List ℕ). prefix_marker ++ t) (sym (entries_front l pairs n (4 ^ l.prefix) most)) in
      subst (AppendsFront a b) is (front_of a b (begun_table l pairs n) more front)

  pub counts_push : (pairs : List (List ℕ × ℕ)) (p : List ℕ × ℕ) → CountsFit l pairs → p.1 < 256 ^ l.counter → CountsFit l (pairs ++ p ∷ [])
  counts_push [] p h own = (own, tt)
  counts_push (q ∷ pairs) p h own = (h.0, counts_push pairs p h.1 own)

  -- the entries that are put before a word, behind those that are there
  pub more_entries : (pairs : List (List ℕ × ℕ)) (n m rows : ℕ) → AreBelow l n pairs → n ≤ m → rows ≡ length pairs
      → begun_table l pairs n ++ repeated (m - n) rows ≡ begun_table l pairs m
  more_entries pairs n m rows below up many =
      append_assoc prefix_marker (entries l pairs n) (repeated (m - n) rows)
      ∙ ap (λ (t : List ℕ). prefix_marker ++ t) (entries_more l pairs n m rows below up many)

  module _ (start now : Option (List ℕ)) (room : Room) (head : Head) (n rows : ℕ) (pa pb sa sb : Option (List ℕ)) (table body : List ℕ)
      (so : IsSoFar l start now room head n rows pa pb sa sb table body) where
    pub gave_so_far : GaveFront l.k start now so.pairs (text_of (pending l.k head) ++ unread room)
    gave_so_far = gave_fewer l.k start now so.pairs (pending l.k head) (unread room) so.source.gave

    pub prefix_so_far : n ≤ 4 ^ l.prefix → AppendsFront pa pb (prefix_start l so.pairs)
    prefix_so_far most = table_part pa pb so.pairs n most (front_gathered pa pb (begun_table l so.pairs n) table so.prefix)

    pub suffix_so_far : AppendsFront sa sb (suffix_start l so.pairs)
    suffix_so_far = front_gathered sa sb (suffix_start l so.pairs) body so.suffix

    -- more entries are put, or a front of them is out
    pub entries_put : (m : ℕ) (pc : Option (List ℕ)) (table' : List ℕ) → n ≤ m → WritesOut pb pc (table ++ repeated (m - n) rows) table'
        → WritesOut pa pc (begun_table l so.pairs m) table'
    entries_put m pc table' up out =
        out_as pa pb pc (begun_table l so.pairs n) table (repeated (m - n) rows) table' (begun_table l so.pairs m)
        (more_entries so.pairs n m rows so.below up so.count) so.prefix out

    pub entries_lost : (m : ℕ) (pc : Option (List ℕ)) → n ≤ m → m ≤ 4 ^ l.prefix → AppendsFront pb pc (table ++ repeated (m - n) rows)
        → AppendsFront pa pc (prefix_start l so.pairs)
    entries_lost m pc up most front =
        table_part pa pc so.pairs m most
        (subst (AppendsFront pa pc) (more_entries so.pairs n m rows so.below up so.count)
        (front_more pa pb pc (begun_table l so.pairs n) table (repeated (m - n) rows) so.prefix front))

    -- the head is taken
    module _ (live : head.live ≡ true) (now' : Option (List ℕ)) (room' : Room) (head' : Head)
        (source : IsSource l.k start now' room' head' (so.pairs ++ pending l.k head)) where
      abbrev more : List (List ℕ × ℕ)
      more = so.pairs ++ pair_at l head ∷ []

      more_is : so.pairs ++ pending l.k head ≡ more
      more_is = ap (λ b. so.pairs ++ cond b (pair_at l head ∷ []) []) live

      source_more : IsSource l.k start now' room' head' more
      source_more = subst (IsSource l.k start now' room' head') more_is source

      pub gave_more : GaveFront l.k start now' more (text_of (pending l.k head') ++ unread room')
      gave_more = gave_fewer l.k start now' more (pending l.k head') (unread room') source_more.gave

      pub gave_before : GaveFront l.k start now' so.pairs (text_of (pair_at l head ∷ []) ++ (text_of (pending l.k head') ++ unread room'))
      gave_before = gave_fewer l.k start now' so.pairs (pair_at l head ∷ []) (text_of (pending l.k head') ++ unread room') gave_more

      -- its entries are the last that are put before its row
      module _ (m : ℕ) (last : m ≡ first_part l (unpack l.k head.packed) + 1) (up : n ≤ m) (pc : Option (List ℕ)) (table' : List ℕ)
          (out : WritesOut pb pc (table ++ repeated (m - n) rows) table') where
        prefix_more : WritesOut pa pc (begun_table l more m) table'
        prefix_more =
            subst (λ (t : List ℕ). WritesOut pa pc (prefix_marker ++ t) table')
            (sym (entries_push l so.pairs (pair_at l head) m (omega (arith, last)))) (entries_put m pc table' up out)

        pub prefix_begun : m ≤ 4 ^ l.prefix → AppendsFront pa pc (prefix_start l more)
        prefix_begun most = table_part pa pc more m most (front_gathered pa pc (begun_table l more m) table' prefix_more)

        pub row_lost : (sc : Option (List ℕ)) → AppendsFront sb sc (body ++ row_of l (pair_at l head)) → AppendsFront sa sc (suffix_start l more)
        row_lost sc front =
            subst (AppendsFront sa sc) (rows_push so.pairs (pair_at l head))
            (front_more sa sb sc (suffix_start l so.pairs) body (row_of l (pair_at l head)) so.suffix front)

        pub so_next : (sc : Option (List ℕ)) (body' : List ℕ) (rows' : ℕ) → head.count < 256 ^ l.counter → rows' ≡ rows + 1
            → WritesOut sb sc (body ++ row_of l (pair_at l head)) body'
            → IsSoFar l start now' room' head' m rows' pa pc sa sc table' body'
        so_next sc body' rows' small many row = record {
          pairs = more;
          source = source_more;
          fit = counts_push so.pairs (pair_at l head) so.fit small;
          below = below_more l n m so.pairs (pair_at l head) so.below up (omega (arith, last));
          count = omega (arith, many, so.count, length-append so.pairs (pair_at l head ∷ []));
          prefix = prefix_more;
          suffix = out_as sa sb sc (suffix_start l so.pairs) body (row_of l (pair_at l head)) body' (suffix_start l more)
              (rows_push so.pairs (pair_at l head)) so.suffix row;
        }
