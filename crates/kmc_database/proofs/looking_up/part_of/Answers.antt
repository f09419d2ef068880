use Rattle.std.proofs.Common.{◌<◌, ◌∙◌, length, arith}
use Rattle.kmc_database.proofs.Parts.{part_fits_on, part_on, part_room}
use Rattle.kmc_database.proofs.looking_up.part_of.Goals as goal

pub overflow_mul-number : goal.overflow_mul-number
overflow_mul-number c =
    let l = c.args.layout.now in
    let room = part_room l.prefix c.loop-i.i c.loop-i.number 0 c.requires.layout.most (omega arith) c.loop-i.invariant.1 (omega arith) in
    omega (arith, room)

pub overflow_add-number : goal.overflow_add-number
overflow_add-number c =
    let l = c.args.layout.now in
    let room = part_room l.prefix c.loop-i.i c.loop-i.number c.from.result c.requires.layout.most (omega arith) c.loop-i.invariant.1 (omega arith) in
    omega (arith, room)

pub loop-i-preserved : goal.loop-i-preserved
loop-i-preserved c =
    let w = c.args.word.now in
    let inside : c.loop-i.i < length w = omega arith in
    let small : c.from.result < 4 = omega arith in (
      part_on c.loop-i.i c.loop-i.number c.from.result w inside c.loop-i.invariant.0 (c.from.ensures ∙ c.code_at.ensures.is),
      part_fits_on c.loop-i.i c.loop-i.number c.from.result c.loop-i.invariant.1 small,
    )
