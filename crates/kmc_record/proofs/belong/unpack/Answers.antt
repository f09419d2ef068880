use Rattle.std.proofs.Common.{◌≡◌, ◌/◌, ◌%◌, ◌*◌, ◌+◌, slice_index, set, length-set, sym, ◌∙◌, refl, arith}
use Rattle.std.proofs.lemmas.List.{take_all}
use Rattle.kmc_base.specs.Record.{codes_in}
use Rattle.kmc_base.specs.Lemmas.Codes.{length_codes}
use Rattle.kmc_record.proofs.Quarters.{four_more}
use Rattle.kmc_record.proofs.belong.unpack.Goals as goal

pub loop-j-preserved : goal.loop-j-preserved
loop-j-preserved c =
    let bs = c.args.bytes.now in
    let j = c.loop-j.j in
    let out = c.loop-j.codes in
    let b = slice_index bs j in
    let small : b / 64 ≡ b / 64 % 4 = omega (arith, c.type_inv.bytes j) in
    let one = set out (4 * j) (b / 64) in
    let two = set one (4 * j + 1) (b / 16 % 4) in
    let three = set two (4 * j + 2) (b / 4 % 4) in (
      length-set three (4 * j + 3) (b % 4) ∙ length-set two (4 * j + 2) (b / 4 % 4) ∙ length-set one (4 * j + 1) (b / 16 % 4)
          ∙ length-set out (4 * j) (b / 64) ∙ c.loop-j.invariant.0,
      four_more out bs j (b / 64) (b / 16 % 4) (b / 4 % 4) (b % 4) c.loop-j-test.true c.loop-j.invariant.0 small refl refl refl c.loop-j.invariant.1,
    )

pub returns : goal.returns
returns c =
    let bs = c.args.bytes.now in
    let j = c.loop-j.j in
    let long = c.loop-j.invariant.0 in
    sym (take_all (4 * j) c.loop-j.codes (omega arith)) ∙ c.loop-j.invariant.1 ∙ take_all (4 * j) (codes_in bs) (omega (arith, length_codes bs))
