-- The row behind those that were read: taken, or at fault.
use Rattle.std.proofs.Common.{◌≡◌, ℕ, ◌+◌, ◌<◌, ◌≤◌, List, length, Option, sym, ap, subst, ◌∙◌, arith}
use Rattle.std.proofs.lemmas.Bool.Decides.{nat_tests}
use Rattle.std.specs.Io.KnownBytes.{IsAtEnd}
use Rattle.std.specs.Ordering.{nat_cmp}
use Rattle.std.specs.declared.cmp.Ordering.TheVariants.{Less}
use Rattle.kmc_base.specs.Packed.{unpack}
use Rattle.kmc_base.specs.Lemmas.Packing.{length_unpack}
use Rattle.kmc_base.specs.Lemmas.Packs.{codes_unpack}
use Rattle.kmc_count.specs.Lemmas.PackedRuns.{cmp_packed}
use Rattle.kmc_sum.specs.Source.{GoesOn}
use Rattle.kmc_database.specs.Given.{HaveGiven, Starts}
use Rattle.kmc_database.specs.Layout.{IsLayout}
use Rattle.kmc_database.specs.Rows.{row_long}
use Rattle.kmc_database.specs.TakenRow.{IsTakenRow, pair_of_row}
use Rattle.kmc_database.specs.UnpackCauses.{IsCutBehind, IsNextRow, IsRowNotRising, IsRowOfNone}
use Rattle.kmc_database.specs.UnpackState.{IsBeforeRow, IsRowRead}
use Rattle.kmc_database.specs.declared.reading.Header.{Header}
use Rattle.kmc_database.specs.declared.row_reading.Row.{Row}
use Rattle.kmc_database.proofs.Given.{given_row, given_rows}

module _ (h : Header) (s : Starts) (part : ℕ) (p : Option (List ℕ)) (tr : List ℕ) (q q' : Option (List ℕ)) (before : List ℕ) (rows last : ℕ)
    (pairs : List (List ℕ × ℕ)) (b : IsBeforeRow h s part p tr q before rows last pairs) where
  -- more was read
  pub read_on : (rest : List ℕ) → GoesOn q q' before rest → HaveGiven h.layout s (part + 1) (part + 1) pairs p tr q' rest
  read_on rest goes = given_rows h.layout s (part + 1) (part + 1) pairs p q q' tr before rest b.given goes

  pub row_cut : (rest : List ℕ) → GoesOn q q' before rest → length rest < row_long h.layout → IsAtEnd q'
      → (ps : List (List ℕ × ℕ)) × (rows + 1 ≡ length ps + 1) × IsCutBehind h s p q' ps
  row_cut rest goes short end = (
    pairs,
    ap (λ n. n + 1) b.count,
    record {
      part = part;
      to = b.to;
      table_rest = tr;
      rest = rest;
      given = read_on rest goes;
      ends = b.ends;
      inside = omega (arith, b.inside, b.count);
      short = short;
      end = end;
    },
  )

  module _ (after : List ℕ) (row : Row) (taken : IsTakenRow h.layout part q q' before after row) where
    next : IsNextRow h s p q' pairs (pair_of_row h.layout row)
    next = record {
      part = part;
      to = b.to;
      table_rest = tr;
      rest = after;
      given = read_on _ taken.goes;
      ends = b.ends;
      inside = omega (arith, b.inside, b.count);
      word = (length_unpack h.layout.k row.packed, codes_unpack h.layout.k row.packed);
      first = taken.first;
    }

    pub row_falls : 1 ≤ rows → row.packed ≤ last → IsRowNotRising h s p q' (rows + 1)
    row_falls some few =
        let ends = b.behind some in
        record {
          pairs = ends.front;
          last = (unpack h.layout.k last, ends.count);
          next = pair_of_row h.layout row;
          number = ap (λ n. n + 1) (b.count ∙ ap length ends.are);
          is = subst (λ (ps : List (List ℕ × ℕ)). IsNextRow h s p q' ps (pair_of_row h.layout row)) ends.are next;
          not_above = λ e.
              let f : nat_cmp last row.packed ≡ Less = sym (cmp_packed h.layout.k last row.packed ends.fits taken.fits) ∙ e in grind (arith, nat_tests);
        }

    pub row_has_none : row.count ≡ 0 → IsRowOfNone h s p q' (rows + 1)
    row_has_none none = record {
      pairs = pairs;
      word = unpack h.layout.k row.packed;
      number = ap (λ n. n + 1) b.count;
      is = subst (λ (c : ℕ). IsNextRow h s p q' pairs (unpack h.layout.k row.packed, c)) none next;
    }

    pub row_read : IsLayout h.layout → (1 ≤ rows → last < row.packed) → 1 ≤ row.count → IsRowRead h s part p tr q' after pairs row
    row_read is above some = record {
      given = given_row h.layout s is part pairs row.packed row.count last p q' tr after (read_on _ taken.goes)
          (λ more. b.behind (omega (arith, more, b.count))) (λ more. above (omega (arith, more, b.count))) taken.fits taken.first some taken.small;
    }
