use Rattle.std.proofs.Common.{◌<◌, ◌+◌, arith, ◌∙◌}
use Rattle.kmc_base.proofs.Written.{code_small, byte_is, gathered}
use Rattle.kmc_base.proofs.spell.whole_byte_at.Goals as goal

pub returns : goal.returns
returns c =
    let codes = c.args.codes.now in
    let i = c.args.i in
    let small = c.requires.codes in
    let a : c.from-a.result < 4 = omega (arith, c.from-a.ensures, code_small codes i small) in
    let b : c.from-b.result < 4 = omega (arith, c.from-b.ensures, code_small codes (i + 1) small) in
    let d : c.from-c.result < 4 = omega (arith, c.from-c.ensures, code_small codes (i + 2) small) in
    let e : c.from-d.result < 4 = omega (arith, c.from-d.ensures, code_small codes (i + 3) small) in
    gathered c.from-a.result c.from-b.result c.from-c.result c.from-d.result a b d e
    ∙ byte_is codes i c.from-a.result c.from-b.result c.from-c.result c.from-d.result
    (omega arith) c.from-a.ensures c.from-b.ensures c.from-c.ensures c.from-d.ensures
