use Rattle.std.proofs.Common.{◌≡◌, ◌+◌, ◌-◌, ◌*◌, ◌/◌, ◌^◌, ◌<◌, length, take, refl, subst, ◌∙◌, arith, take_all}
use Rattle.std.specs.Int.{bytes_high_first}
use Rattle.kmc_database.proofs.RowBytes.{bytes_kept, fits_whole, part_kept, part_whole, word_fits, word_room}
use Rattle.kmc_database.proofs.row_reading.word_at.Goals as goal

pub loop-i-init : goal.loop-i-init
loop-i-init c =
    let l = c.args.layout.now in
    let none : l.prefix ≡ l.prefix + 4 * 0 = omega arith in
    record {
      fits = subst (λ (e : _). c.from-packed.result < 4 ^ e) none (omega (arith, c.from-packed.ensures, c.requires.part));
      part = omega (arith, c.from-packed.ensures);
      rest = refl;
    }

pub overflow_mul-packed : goal.overflow_mul-packed
overflow_mul-packed c =
    let l = c.args.layout.now in
    let i = c.loop-i.i in
    let room = word_room l c.requires.layout i c.loop-i.packed 0 (omega (arith, c.loop-i-test.true, c.requires.whole)) c.loop-i.invariant.fits (omega arith) in
    omega (arith, room)

pub overflow_add-packed : goal.overflow_add-packed
overflow_add-packed c =
    let l = c.args.layout.now in
    let i = c.loop-i.i in
    let small : c.from.result < 256 = omega (arith, c.from.ensures, c.type_inv.bytes i) in
    omega (
      arith,
      word_room l c.requires.layout i c.loop-i.packed c.from.result (omega (arith, c.loop-i-test.true, c.requires.whole))
          c.loop-i.invariant.fits small,
    )

pub loop-i-preserved : goal.loop-i-preserved
loop-i-preserved c =
    let l = c.args.layout.now in
    let i = c.loop-i.i in
    let n = c.loop-i.packed in
    let b = c.from.result in
    let small : b < 256 = omega (arith, c.from.ensures, c.type_inv.bytes i) in
    record {
      fits = word_fits l c.requires.layout i n b c.loop-i.invariant.fits small;
      part = part_kept i n b small ∙ c.loop-i.invariant.part;
      rest = bytes_kept i n b c.args.bytes.now small c.loop-i-test.true c.from.ensures c.loop-i.invariant.rest;
    }

pub returns-clause-fits : goal.returns-clause-fits
returns-clause-fits c =
    let l = c.args.layout.now in
    let end : c.loop-i.i ≡ (l.k - l.prefix) / 4 = omega (arith, c.loop-i.auto, c.loop-i-test.false, c.requires.whole) in
    fits_whole l c.requires.layout c.loop-i.packed (subst (λ (i : _). c.loop-i.packed < 4 ^ (l.prefix + 4 * i)) end c.loop-i.invariant.fits)

pub returns-clause-part : goal.returns-clause-part
returns-clause-part c =
    let l = c.args.layout.now in
    let end : c.loop-i.i ≡ (l.k - l.prefix) / 4 = omega (arith, c.loop-i.auto, c.loop-i-test.false, c.requires.whole) in
    part_whole l c.requires.layout c.loop-i.packed c.args.part
    (subst (λ (i : _). c.loop-i.packed / 256 ^ i ≡ c.args.part) end c.loop-i.invariant.part)

pub returns-clause-rest : goal.returns-clause-rest
returns-clause-rest c =
    let bytes = c.args.bytes.now in
    let end : c.loop-i.i ≡ length bytes = omega (arith, c.loop-i.auto, c.loop-i-test.false) in
    subst (λ (i : _). bytes_high_first i c.loop-i.packed ≡ take i bytes) end c.loop-i.invariant.rest ∙ take_all (length bytes) bytes (omega arith)
