-- A database, unpacked so far.
use Rattle.std.proofs.Common.{◌≡◌, ℕ, ◌+◌, ◌^◌, ◌<◌, ◌≤◌, List, [], ◌∷◌, ◌++◌, Option, refl, sym, ap, subst, ◌∙◌, arith, length-append}
use Rattle.std.proofs.KnownBytes.{Appends-nil}
use Rattle.std.specs.Io.KnownBytes.{Consumes}
use Rattle.kmc_base.specs.Packed.{unpack}
use Rattle.kmc_device.specs.Device.{AppendsFront, WritesOut}
use Rattle.kmc_lists.specs.Line.{line_of, text_of}
use Rattle.kmc_sum.specs.Source.{GoesOn}
use Rattle.kmc_sum.specs.Lemmas.Gave.{text_push}
use Rattle.kmc_sum.specs.Lemmas.Taken.{front_both, front_gathered}
use Rattle.kmc_sum.specs.Lemmas.Tallies.{rising_none}
use Rattle.kmc_sum.specs.Lemmas.Written.{out_front}
use Rattle.kmc_database.specs.Files.{prefix_marker, suffix_marker}
use Rattle.kmc_database.specs.Given.{EndsAt, HaveGiven, IsUnpackBegun, Starts}
use Rattle.kmc_database.specs.Numbers.{low_first}
use Rattle.kmc_database.specs.UnpackState.{IsBeforeRow, IsRowRead, IsUnpackedSoFar}
use Rattle.kmc_database.specs.declared.layout.Layout.{Layout}
use Rattle.kmc_database.specs.declared.reading.Header.{Header}
use Rattle.kmc_database.specs.declared.row_reading.Row.{Row}
use Rattle.kmc_database.proofs.Gathering.{out_as}
use Rattle.kmc_database.proofs.Given.{given_entry, given_rows, given_table, given_up_to}

-- what is out is a front of a dump
pub begun_with : (l : Layout) (s : Starts) (n m : ℕ) (pairs : List (List ℕ × ℕ)) (p : Option (List ℕ)) (tr : List ℕ) (q : Option (List ℕ))
    (r : List ℕ) (w : Option (List ℕ)) → HaveGiven l s n m pairs p tr q r → AppendsFront s.written w (text_of pairs) → IsUnpackBegun s p q w
begun_with l s n m pairs p tr q r w given front =
    record { layout = l; n = n; m = m; pairs = pairs; table_rest = tr; rest = r; given = given; text = front }

module _ (l : Layout) (s : Starts) (n m : ℕ) (p : Option (List ℕ)) (tr : List ℕ) (q : Option (List ℕ)) (r : List ℕ) (w : Option (List ℕ))
    (held : List ℕ) (row last : ℕ) (so : IsUnpackedSoFar l s n m p tr q r w held row last) where
  pub out_so_far : AppendsFront s.written w (text_of so.pairs)
  out_so_far = front_gathered s.written w (text_of so.pairs) held so.text

  pub begun_so_far : IsUnpackBegun s p q w
  begun_so_far = begun_with l s n m so.pairs p tr q r w so.given out_so_far

  -- more of the prefix file, or of the suffix file, was read
  pub so_table : (p' : Option (List ℕ)) (tr' : List ℕ) → GoesOn p p' tr tr' → IsUnpackedSoFar l s n m p' tr' q r w held row last
  so_table p' tr' goes = record {
    pairs = so.pairs;
    given = given_table l s n m so.pairs p p' q tr tr' r so.given goes;
    count = so.count;
    behind = so.behind;
    text = so.text;
  }

  pub so_rows : (q' : Option (List ℕ)) (r' : List ℕ) → GoesOn q q' r r' → IsUnpackedSoFar l s n m p tr q' r' w held row last
  so_rows q' r' goes = record {
    pairs = so.pairs;
    given = given_rows l s n m so.pairs p q q' tr r r' so.given goes;
    count = so.count;
    behind = so.behind;
    text = so.text;
  }

  pub so_up_to : (m' : ℕ) → m ≤ m' → IsUnpackedSoFar l s n m' p tr q r w held row last
  so_up_to m' up = record {
    pairs = so.pairs;
    given = given_up_to l s n m m' so.pairs p q tr r up so.given;
    count = so.count;
    behind = so.behind;
    text = so.text;
  }

-- an entry that tells of the rows so far is taken
pub so_entry : (l : Layout) (s : Starts) (n m : ℕ) (p : Option (List ℕ)) (tr : List ℕ) (q : Option (List ℕ)) (r : List ℕ) (w : Option (List ℕ))
    (held : List ℕ) (row last : ℕ) → m ≤ n → IsUnpackedSoFar l s n m p (low_first 8 row ++ tr) q r w held row last
    → IsUnpackedSoFar l s (n + 1) n p tr q r w held row last
so_entry l s n m p tr q r w held row last up so = record {
  pairs = so.pairs;
  given = given_entry l s n m row so.pairs p q tr r up so.count so.given;
  count = so.count;
  behind = so.behind;
  text = so.text;
}

-- the rows of one first part
module _ (h : Header) (s : Starts) (part : ℕ) (p : Option (List ℕ)) (tr : List ℕ) (q : Option (List ℕ)) (r : List ℕ) (w : Option (List ℕ))
    (held : List ℕ) (row last : ℕ) (so : IsUnpackedSoFar h.layout s (part + 1) (part + 1) p tr q r w held row last) where
  pub before_row : (to : ℕ) → EndsAt h.layout h.rows part to tr → row < to → IsBeforeRow h s part p tr q r row last so.pairs
  before_row to ends inside = record { given = so.given; count = so.count; behind = so.behind; to = to; ends = ends; inside = inside }

  -- the line of a row is put
  pub so_row : (found : Row) (q' : Option (List ℕ)) (r' : List ℕ) (w' : Option (List ℕ)) (held' word : List ℕ)
      → IsRowRead h s part p tr q' r' so.pairs found → found.packed < 4 ^ h.layout.k → word ≡ unpack h.layout.k found.packed
      → WritesOut w w' (held ++ line_of (word, found.count)) held'
      → IsUnpackedSoFar h.layout s (part + 1) (part + 1) p tr q' r' w' held' (row + 1) found.packed
  so_row found q' r' w' held' word read fits is out =
      let next : List ℕ × ℕ = (unpack h.layout.k found.packed, found.count) in
      record {
        pairs = so.pairs ++ next ∷ [];
        given = read.given;
        count = omega (arith, so.count, length-append so.pairs (next ∷ []));
        behind = λ _. record { front = so.pairs; count = found.count; are = refl; fits = fits };
        text = out_as s.written w w' (text_of so.pairs) held (line_of (word, found.count)) held' (text_of (so.pairs ++ next ∷ []))
            (ap (λ (v : List ℕ). text_of so.pairs ++ line_of (v, found.count)) is ∙ sym (text_push so.pairs next)) so.text out;
      }

  -- a write failed, and so a front of what was held before is out
  pub row_unwritten : (found : Row) (q' : Option (List ℕ)) (r' : List ℕ) (w' : Option (List ℕ)) → IsRowRead h s part p tr q' r' so.pairs found
      → AppendsFront w w' held → IsUnpackBegun s p q' w'
  row_unwritten found q' r' w' read front =
      let next : List ℕ × ℕ = (unpack h.layout.k found.packed, found.count) in
      begun_with h.layout s (part + 1) (part + 1) (so.pairs ++ next ∷ []) p tr q' r' w' read.given
      (front_both s.written w' so.pairs (next ∷ []) (out_front s.written w w' (text_of so.pairs) held so.text front))

-- ---- the first parts, one after the other

-- the entry that tells where the rows of a first part end is taken
pub part_opened : (l : Layout) (s : Starts) (n to : ℕ) (p p' : Option (List ℕ)) (tr tr' : List ℕ) (q : Option (List ℕ)) (r : List ℕ)
    (w : Option (List ℕ)) (held : List ℕ) (row last : ℕ) → GoesOn p p' tr (low_first 8 to ++ tr')
    → IsUnpackedSoFar l s (n + 1) n p tr q r w held row last → IsUnpackedSoFar l s (n + 1) (n + 1) p' (low_first 8 to ++ tr') q r w held row last
part_opened l s n to p p' tr tr' q r w held row last goes so =
    so_up_to l s (n + 1) n p' (low_first 8 to ++ tr') q r w held row last
    (so_table l s (n + 1) n p tr q r w held row last so p' (low_first 8 to ++ tr') goes) (n + 1) (omega arith)

-- the first entry, which is 0
pub first_opened : (l : Layout) (s : Starts) (e : ℕ) (p p' : Option (List ℕ)) (tr tr' : List ℕ) (q : Option (List ℕ)) (r : List ℕ)
    (w : Option (List ℕ)) (held : List ℕ) → e ≡ 0 → GoesOn p p' tr (low_first 8 e ++ tr') → IsUnpackedSoFar l s 0 0 p tr q r w held 0 0
    → IsUnpackedSoFar l s 1 0 p' tr' q r w held e 0
first_opened l s e p p' tr tr' q r w held none goes so =
    let goes' = subst (λ (n : ℕ). GoesOn p p' tr (low_first 8 n ++ tr')) none goes in
    let taken = so_entry l s 0 0 p' tr' q r w held 0 0 (omega arith) (so_table l s 0 0 p tr q r w held 0 0 so p' (low_first 8 0 ++ tr') goes') in
    subst (λ (n : ℕ). IsUnpackedSoFar l s 1 0 p' tr' q r w held n 0) (sym none) taken

-- the rows of the last first part are read
pub all_closed : (l : Layout) (s : Starts) (n parts : ℕ) (p : Option (List ℕ)) (tr : List ℕ) (q : Option (List ℕ)) (r : List ℕ)
    (w : Option (List ℕ)) (held : List ℕ) (row last : ℕ) → n + 1 ≡ parts → IsUnpackedSoFar l s (n + 1) (n + 1) p tr q r w held row last
    → IsUnpackedSoFar l s parts parts p tr q r w held row last
all_closed l s n parts p tr q r w held row last is so = subst (λ (m : ℕ). IsUnpackedSoFar l s m m p tr q r w held row last) is so

-- the markers are taken
pub markers_taken : (l : Layout) (s : Starts) (p q : Option (List ℕ)) (tr r held : List ℕ) → held ≡ [] → GoesOn s.prefix p [] (prefix_marker ++ tr)
    → GoesOn s.suffix q [] (suffix_marker ++ r) → IsUnpackedSoFar l s 0 0 p tr q r s.written held 0 0
markers_taken l s p q tr r held none table rows = record {
  pairs = [];
  given = record {
    listed = record { each = tt; rising = rising_none };
    fit = tt;
    below = tt;
    table = subst (Consumes s.prefix p) (sym table.are) table.gave;
    rows = subst (Consumes s.suffix q) (sym rows.are) rows.gave;
  };
  count = refl;
  behind = λ some. absurd (omega (arith, some));
  text = ([], none, Appends-nil s.written);
}
