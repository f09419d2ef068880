use Rattle.std.proofs.Common.{◌≡◌, ◌+◌, ◌-◌, ◌*◌, ◌/◌, ◌%◌, ◌≤◌, length, refl, arith}
use Rattle.kmc_base.specs.Record.{codes_in}
use Rattle.kmc_base.specs.Lemmas.Codes.{length_codes}
use Rattle.kmc_base.proofs.Copied.{copied_more, copied_all}
use Rattle.kmc_base.proofs.copying.push_long_record.Goals as goal

pub loop-j-preserved : goal.loop-j-preserved
loop-j-preserved c =
    let start = c.args.start in
    let symbols = c.args.symbols in
    let packed = c.args.packed.now in
    let j = c.loop-j.j in (
      copied_more (codes_in packed) start symbols (start / 4) (start % 4) (omega arith) (omega (arith, length_codes packed)) c.args.out.now.items
          (symbols - c.args.k) _ _ j 4 (4 * (j + 1)) c.byte_from.result (omega arith) (omega (arith, c.loop-j-test.true)) c.byte_from.ensures
          c.loop-j.invariant.0 c.push_reserved-in-loop-j.ensures.items,
      omega (arith, c.loop-j.invariant.1, c.push_reserved-in-loop-j.ensures.len, c.push_reserved-in-loop-j.ensures.capacity, c.loop-j-test.true),
    )

pub returns-clause-ok : goal.returns-clause-ok
returns-clause-ok c =
    let start = c.args.start in
    let symbols = c.args.symbols in
    let packed = c.args.packed.now in
    let j = c.loop-j.j in
    let at : (symbols - 1) / 4 ≡ j = omega (arith, c.loop-j-test.false, c.loop-j.auto.j-end) in
    let within : start + symbols ≤ length (codes_in packed) = omega (arith, length_codes packed) in
    let place : start ≡ 4 * (start / 4) + start % 4 = omega arith in
    copied_all (codes_in packed) start symbols (start / 4) (start % 4) place within c.args.out.now.items (symbols - c.args.k) c.args.k _ refl
    (copied_more (codes_in packed) start symbols (start / 4) (start % 4) place within c.args.out.now.items (symbols - c.args.k) _ _ j
    (symbols - 4 * j) symbols c.last_byte_from.result (omega (arith, at)) (omega arith) (rw at at c.last_byte_from.ensures)
    c.loop-j.invariant.0 c.push_reserved-2.ensures.items)
