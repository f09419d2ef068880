-- The ends of the two files of a database that is unpacked.
use Rattle.std.proofs.Common.{◌≡◌, ℕ, ◌^◌, ◌<◌, ◌⊎◌, inr, List, ◌++◌, length, Option, refl, sym, subst}
use Rattle.std.specs.Prelude.{◌≢◌}
use Rattle.std.specs.Io.KnownBytes.{Appends, Consumes, IsAtEnd}
use Rattle.kmc_device.specs.Lemmas.Devices.{gathered_out}
use Rattle.kmc_lists.specs.Line.{text_of}
use Rattle.kmc_database.specs.Files.{suffix_marker, suffix_start}
use Rattle.kmc_database.specs.Given.{HaveGiven, Starts}
use Rattle.kmc_database.specs.Header.{IsHeaderOf}
use Rattle.kmc_database.specs.Unpacked.{IsReadOut}
use Rattle.kmc_database.specs.UnpackCauses.{EndsOtherwise, HasOtherHeader, IsOtherHeader, IsTableCut}
use Rattle.kmc_database.specs.UnpackState.{IsUnpackedSoFar}
use Rattle.kmc_database.specs.declared.reading.Header.{Header}

module _ (h : Header) (s : Starts) (p : Option (List ℕ)) (tr : List ℕ) (q : Option (List ℕ)) (r : List ℕ) (w : Option (List ℕ)) (held : List ℕ)
    (last : ℕ) (so : IsUnpackedSoFar h.layout s (4 ^ h.layout.prefix) (4 ^ h.layout.prefix) p tr q r w held h.rows last) where
  pub ends_otherwise : r ≢ suffix_marker → (4 < length r) ⊎ IsAtEnd q → EndsOtherwise h s p q
  ends_otherwise other enough =
      record { pairs = so.pairs; table_rest = tr; rest = r; given = so.given; all = sym so.count; other = other; enough = enough }

  pub other_header : r ≡ suffix_marker → IsOtherHeader tr h → (72 < length tr) ⊎ IsAtEnd p → IsTableCut h s p q ⊎ HasOtherHeader h s p q
  other_header is other enough = inr (record {
    pairs = so.pairs;
    table_rest = tr;
    given = subst (λ (t : List ℕ). HaveGiven h.layout s (4 ^ h.layout.prefix) (4 ^ h.layout.prefix) so.pairs p tr q t) is so.given;
    other = other;
    enough = enough;
  })

  pub read_out : r ≡ suffix_marker → IsAtEnd q → IsHeaderOf tr h → IsAtEnd p → (w' : Option (List ℕ)) → Appends w w' held → IsReadOut h s p q w'
  read_out is end header end' w' out = record {
    pairs = so.pairs;
    count = so.count;
    fit = so.given.fit;
    header = tr;
    told = header;
    prefix = (so.given.table, end');
    suffix = (subst (λ (t : List ℕ). Consumes s.suffix q (suffix_start h.layout so.pairs ++ t)) is so.given.rows, end);
    text = text_of so.pairs;
    lists = record { listed = so.given.listed; lines = refl };
    written = gathered_out s.written w w' (text_of so.pairs) held so.text out;
  }
