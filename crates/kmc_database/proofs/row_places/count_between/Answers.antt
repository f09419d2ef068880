use Rattle.std.proofs.Common.{ℕ, ◌+◌, ◌-◌, ◌/◌, ◌<◌, ◌≤◌, length, Some, sym, ap, ◌∙◌, arith}
use Rattle.kmc_base.specs.Words.{kmer_cmp}
use Rattle.kmc_database.specs.Part.{IsRowAt, row_place}
use Rattle.kmc_database.specs.Rows.{row_long}
use Rattle.kmc_database.proofs.Entries.{match_none, match_some}
use Rattle.kmc_database.proofs.Parts.{found_before, found_behind, found_here, none_narrowed, part_long, row_before}
use Rattle.kmc_database.proofs.row_places.count_between.Goals as goal

pub returns-in_default-clause-ok : goal.returns-in_default-clause-ok
returns-in_default-clause-ok g c = λ bytes pairs known h.
    let l = c.args.layout.now in
    let part = c.args.part in
    let low = c.loop-low.low in
    let high = c.loop-low.high in
    let inv = c.loop-low.invariant in
    let middle = low + (high - low) / 2 in
    let most : middle < c.args.to = omega (arith, c.loop-low-test.true, inv.most) in
    let short : length bytes < row_place l middle + row_long l =
    match_none c.in_ok-row.field-0 (length bytes < row_place l middle + row_long l) (IsRowAt l part bytes middle) c.in_default.is
    (c.in_ok-row.ensures.ok bytes (inv.bytes ∙ known)) in
    let before : row_place l middle + row_long l ≤ row_place l c.args.to = row_before l middle c.args.to most in
    let some : c.args.from < c.args.to = omega (arith, c.loop-low-test.true, inv.most, inv.least) in
    absurd (omega (arith, short, before, part_long l c.requires.layout part bytes c.args.from c.args.to pairs h some))

pub returns-in_default-clause-short : goal.returns-in_default-clause-short
returns-in_default-clause-short g c = λ bytes known same.
    let l = c.args.layout.now in
    let part = c.args.part in
    let low = c.loop-low.low in
    let high = c.loop-low.high in
    let inv = c.loop-low.invariant in
    let middle = low + (high - low) / 2 in
    let most : middle < c.args.to = omega (arith, c.loop-low-test.true, inv.most) in
    let short : length bytes < row_place l middle + row_long l =
    match_none c.in_ok-row.field-0 (length bytes < row_place l middle + row_long l) (IsRowAt l part bytes middle) c.in_default.is
    (c.in_ok-row.ensures.ok bytes (inv.bytes ∙ known)) in
    let before : row_place l middle + row_long l ≤ row_place l c.args.to = row_before l middle c.args.to most in
    omega (arith, short, before)

pub loop-low-preserved-in-Less : goal.loop-low-preserved-in-Less
loop-low-preserved-in-Less g c =
    let l = c.args.layout.now in
    let part = c.args.part in
    let low = c.loop-low.low in
    let high = c.loop-low.high in
    let inv = c.loop-low.invariant in
    let middle = low + (high - low) / 2 in
    let row = c.in-Some.row in
    let key = c.args.key.now in
    let is = c.requires.layout in
    let least : low ≤ middle = omega arith in
    let most : middle < high = omega (arith, c.loop-low-test.true) in
    record {
      bytes = c.in_ok-row.ensures.bytes ∙ inv.bytes;
      kept = c.in_ok-row.ensures.kept ∙ inv.kept;
      least = omega (arith, least, inv.least);
      order = omega (arith, most);
      most = inv.most;
      narrowed = λ bytes pairs known h.
          found_behind l is part bytes low high pairs key middle row (inv.narrowed bytes pairs known h) least most
          (match_some c.in_ok-row.field-0 row (length bytes < row_place l middle + row_long l) (IsRowAt l part bytes middle) c.in-Some.is
          (c.in_ok-row.ensures.ok bytes (inv.bytes ∙ known))) (ap (λ w. kmer_cmp w key) (sym c.of_packed.ensures) ∙ sym c.cmp.ensures ∙ c.in-Less.is);
    }

pub returns-in-Equal-clause-ok : goal.returns-in-Equal-clause-ok
returns-in-Equal-clause-ok g c = λ bytes pairs known h.
    let l = c.args.layout.now in
    let part = c.args.part in
    let low = c.loop-low.low in
    let high = c.loop-low.high in
    let inv = c.loop-low.invariant in
    let middle = low + (high - low) / 2 in
    let row = c.in-Some.row in
    let key = c.args.key.now in
    let is = c.requires.layout in
    let least : low ≤ middle = omega arith in
    let most : middle < high = omega (arith, c.loop-low-test.true) in
    ap (λ (n : ℕ). Some n) (found_here l is part bytes low high pairs key middle row (inv.narrowed bytes pairs known h) least most
    (match_some c.in_ok-row.field-0 row (length bytes < row_place l middle + row_long l) (IsRowAt l part bytes middle) c.in-Some.is
    (c.in_ok-row.ensures.ok bytes (inv.bytes ∙ known))) (ap (λ w. kmer_cmp w key) (sym c.of_packed.ensures) ∙ sym c.cmp.ensures ∙ c.in-Equal.is))

pub loop-low-preserved : goal.loop-low-preserved
loop-low-preserved g c =
    let l = c.args.layout.now in
    let part = c.args.part in
    let low = c.loop-low.low in
    let high = c.loop-low.high in
    let inv = c.loop-low.invariant in
    let middle = low + (high - low) / 2 in
    let row = c.in-Some.row in
    let key = c.args.key.now in
    let is = c.requires.layout in
    let least : low ≤ middle = omega arith in
    let most : middle < high = omega (arith, c.loop-low-test.true) in
    record {
      bytes = c.in_ok-row.ensures.bytes ∙ inv.bytes;
      kept = c.in_ok-row.ensures.kept ∙ inv.kept;
      least = inv.least;
      order = least;
      most = omega (arith, most, inv.most);
      narrowed = λ bytes pairs known h.
          found_before l is part bytes low high pairs key middle row (inv.narrowed bytes pairs known h) least most
          (match_some c.in_ok-row.field-0 row (length bytes < row_place l middle + row_long l) (IsRowAt l part bytes middle) c.in-Some.is
          (c.in_ok-row.ensures.ok bytes (inv.bytes ∙ known))) (ap (λ w. kmer_cmp w key) (sym c.of_packed.ensures) ∙ sym c.cmp.ensures ∙ c.in-Greater.is);
    }

pub returns-clause-ok : goal.returns-clause-ok
returns-clause-ok g c = λ bytes pairs known h.
    let l = c.args.layout.now in
    let part = c.args.part in
    let low = c.loop-low.low in
    let high = c.loop-low.high in
    let inv = c.loop-low.invariant in
    ap (λ (n : ℕ). Some n) (none_narrowed l part bytes low high pairs c.args.key.now (inv.narrowed bytes pairs known h) c.loop-low-test.false)
