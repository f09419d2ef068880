-- What the two files gave, as more of them is read.
use Rattle.std.proofs.Common.{◌≡◌, ℕ, ◌+◌, ◌-◌, ◌^◌, ◌<◌, ◌≤◌, List, [], ◌∷◌, ◌++◌, length, Option, sym, ap, subst, ◌∙◌, arith, append_assoc, append-nil}
use Rattle.std.specs.Io.KnownBytes.{Consumes}
use Rattle.kmc_base.specs.Packed.{unpack}
use Rattle.kmc_base.specs.Lemmas.Packing.{length_unpack}
use Rattle.kmc_base.specs.Lemmas.Packs.{codes_unpack}
use Rattle.kmc_sum.specs.Listed.{AreListed, IsPair}
use Rattle.kmc_sum.specs.Pairs.{EndsIn}
use Rattle.kmc_sum.specs.Source.{GoesOn}
use Rattle.kmc_sum.specs.Lemmas.Gave.{listed_first, listed_push}
use Rattle.kmc_database.specs.Files.{begun_table, prefix_marker, suffix_start}
use Rattle.kmc_database.specs.Given.{HaveGiven, Starts}
use Rattle.kmc_database.specs.Layout.{IsLayout}
use Rattle.kmc_database.specs.Numbers.{low_first}
use Rattle.kmc_database.specs.Rows.{AreBelow, first_part, repeated, row_of}
use Rattle.kmc_database.specs.declared.layout.Layout.{Layout}
use Rattle.kmc_database.specs.Lemmas.Bytes.{few_held}
use Rattle.kmc_database.proofs.SoFar.{counts_push, more_entries, rows_push}
use Rattle.kmc_database.proofs.Tables.{below_more, entries_push}
use Rattle.kmc_database.proofs.TakenBytes.{gave_on}

module _ (l : Layout) (s : Starts) where
  -- more of the prefix file was read
  pub given_table : (n m : ℕ) (pairs : List (List ℕ × ℕ)) (p p' q : Option (List ℕ)) (tr tr' r : List ℕ) → HaveGiven l s n m pairs p tr q r
      → GoesOn p p' tr tr' → HaveGiven l s n m pairs p' tr' q r
  given_table n m pairs p p' q tr tr' r h goes = record {
    listed = h.listed;
    fit = h.fit;
    below = h.below;
    table = gave_on s.prefix p p' (begun_table l pairs n) tr tr' h.table goes;
    rows = h.rows;
  }

  -- more of the suffix file was read
  pub given_rows : (n m : ℕ) (pairs : List (List ℕ × ℕ)) (p q q' : Option (List ℕ)) (tr r r' : List ℕ) → HaveGiven l s n m pairs p tr q r
      → GoesOn q q' r r' → HaveGiven l s n m pairs p tr q' r'
  given_rows n m pairs p q q' tr r r' h goes = record {
    listed = h.listed;
    fit = h.fit;
    below = h.below;
    table = h.table;
    rows = gave_on s.suffix q q' (suffix_start l pairs) r r' h.rows goes;
  }

  below_up : (n m : ℕ) (pairs : List (List ℕ × ℕ)) → n ≤ m → AreBelow l n pairs → AreBelow l m pairs
  below_up n m [] up h = tt
  below_up n m (p ∷ pairs) up h = (omega (arith, h.0, up), below_up n m pairs up h.1)

  -- a higher bound
  pub given_up_to : (n m m' : ℕ) (pairs : List (List ℕ × ℕ)) (p q : Option (List ℕ)) (tr r : List ℕ) → m ≤ m' → HaveGiven l s n m pairs p tr q r
      → HaveGiven l s n m' pairs p tr q r
  given_up_to n m m' pairs p q tr r up h = record {
    listed = h.listed;
    fit = h.fit;
    below = below_up m m' pairs up h.below;
    table = h.table;
    rows = h.rows;
  }

  -- an entry that tells of all rows so far is taken
  pub given_entry : (n m row : ℕ) (pairs : List (List ℕ × ℕ)) (p q : Option (List ℕ)) (tr r : List ℕ) → m ≤ n → row ≡ length pairs
      → HaveGiven l s n m pairs p (low_first 8 row ++ tr) q r → HaveGiven l s (n + 1) n pairs p tr q r
  given_entry n m row pairs p q tr r up many h =
      let below = below_up m n pairs up h.below in
      let one : repeated (n + 1 - n) row ≡ low_first 8 row =
      let count : n + 1 - n ≡ 1 = omega arith in
      ap (λ c. repeated c row) count ∙ append-nil (low_first 8 row) in
      let more : begun_table l pairs n ++ low_first 8 row ≡ begun_table l pairs (n + 1) =
      ap (λ (t : List ℕ). begun_table l pairs n ++ t) (sym one) ∙ more_entries l pairs n (n + 1) row below (omega arith) many in
      record {
        listed = h.listed;
        fit = h.fit;
        below = below;
        table = subst (Consumes s.prefix p) (sym (append_assoc (begun_table l pairs n) (low_first 8 row) tr) ∙ ap (λ (t : List ℕ). t ++ tr) more) h.table;
        rows = h.rows;
      }

  -- a row is taken
  module _ (is : IsLayout l) (part : ℕ) (pairs : List (List ℕ × ℕ)) (packed count last : ℕ) where
    abbrev next : List ℕ × ℕ
    next = (unpack l.k packed, count)

    is_pair : 1 ≤ count → count < 256 ^ l.counter → IsPair l.k next
    is_pair some small = record {
      word = (length_unpack l.k packed, codes_unpack l.k packed);
      some = some;
      most = omega (arith, small, few_held l.counter (omega (arith, is.counter)));
    }

    listed_next : AreListed l.k pairs → (1 ≤ length pairs → EndsIn l.k last pairs) → (1 ≤ length pairs → last < packed) → packed < 4 ^ l.k
        → IsPair l.k next → AreListed l.k (pairs ++ next ∷ [])
    listed_next listed ends above fits pair = go pairs listed ends above
      where
        go : (ps : List (List ℕ × ℕ)) → AreListed l.k ps → (1 ≤ length ps → EndsIn l.k last ps) → (1 ≤ length ps → last < packed)
            → AreListed l.k (ps ++ next ∷ [])
        go [] listed ends above = listed_first l.k packed count pair
        go (p ∷ ps) listed ends above =
            let some : 1 ≤ length (p ∷ ps) = omega arith in
            listed_push l.k last packed count (p ∷ ps) listed (ends some) (above some) fits pair

    pub given_row : (p q : Option (List ℕ)) (tr r : List ℕ) → HaveGiven l s (part + 1) (part + 1) pairs p tr q (row_of l next ++ r)
        → (1 ≤ length pairs → EndsIn l.k last pairs) → (1 ≤ length pairs → last < packed) → packed < 4 ^ l.k → first_part l (unpack l.k packed) ≡ part
        → 1 ≤ count → count < 256 ^ l.counter → HaveGiven l s (part + 1) (part + 1) (pairs ++ next ∷ []) p tr q r
    given_row p q tr r h ends above fits first some small = record {
      listed = listed_next h.listed ends above fits (is_pair some small);
      fit = counts_push l pairs next h.fit small;
      below = below_more l (part + 1) (part + 1) pairs next h.below (omega arith) (omega (arith, first));
      table = subst (λ (t : List ℕ). Consumes s.prefix p ((prefix_marker ++ t) ++ tr)) (sym (entries_push l pairs next (part + 1) (omega (arith, first))))
          h.table;
      rows = subst (Consumes s.suffix q)
          (sym (append_assoc (suffix_start l pairs) (row_of l next) r) ∙ ap (λ (t : List ℕ). t ++ r) (rows_push l pairs next)) h.rows;
    }
