use Rattle.std.proofs.Common.{arith, drop, length-drop}
use Rattle.std.proofs.lemmas.List.{length-take-le}
use Rattle.kmc_database.specs.Header.{field}
use Rattle.kmc_database.proofs.HeaderParts.{header_parts, is_of}
use Rattle.kmc_database.proofs.reading.read_header.Goals as goal

pub returns-in-Some : goal.returns-in-Some
returns-in-Some c =
    let bytes = c.args.bytes.now in
    let layout = c.in-Some.ensures in record {
      layout = layout.is;
      few = c.number_at-rows.ensures.fits;
      limits = field bytes 16 8;
      limits_long = length-take-le 8 (drop 16 bytes) (omega (arith, length-drop 16 bytes, c.requires));
      strands = field bytes 32 28;
      strands_long = length-take-le 28 (drop 32 bytes) (omega (arith, length-drop 32 bytes, c.requires));
      is = header_parts bytes c.in-Some.layout c.number_at-rows.result c.requires layout.k
          (is_of 4 c.number_at-mode.result 0 (field bytes 4 4) c.number_at-mode.ensures.bytes c.if-mode-ne0.false) layout.counter layout.prefix
          (is_of 8 c.number_at-rows.result c.number_at-rows.result (field bytes 24 8) c.number_at-rows.ensures.bytes (λ _. c.number_at-rows.result))
          (is_of 4 c.number_at-version.result 0 (field bytes 60 4) c.number_at-version.ensures.bytes c.if-version-ne0.false)
          (is_of 4 c.number_at-size.result 64 (field bytes 64 4) c.number_at-size.ensures.bytes c.if-size-ne-SIZE.false)
          (is_of 4 c.number_at-marker.result 1346587979 (field bytes 68 4) c.number_at-marker.ensures.bytes c.if-marker-ne-MARKER.false);
    }
