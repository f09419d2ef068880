use Rattle.std.proofs.Common.{ℕ, ◌+◌, ◌<◌, ◌≤◌, map, slice_index, sym, ◌∙◌, arith}
use Rattle.kmc_split.specs.Minima.{low}
use Rattle.kmc_split.specs.Lemmas.Numbers.{read_is}
use Rattle.kmc_split.proofs.MinimaOfParts.{part_low}
use Rattle.kmc_split.proofs.Sliding.{low_comes, low_stays}
use Rattle.kmc_split.proofs.belonging.next_low.Goals as goal

pub returns-then-to_u32 : goal.returns-then-to_u32
returns-then-to_u32 g c =
    let f = g.V.Mmer.number in
    let values = c.args.values.now in
    let at : ℕ → ℕ = slice_index (map f values) in
    let w = c.args.width in
    let i = c.args.i in
    let new = read_is f values (i + w) c.index-values-i.result c.requires.inside c.index-values-i.is in
    let small : at (i + w) ≤ low at w i = omega (arith, new, c.to_u32.ensures, c.to_u32-2.ensures, c.if-to_u32.true, c.requires.least) in
    new ∙ sym (low_comes at w i c.requires.some small)

pub returns-then-to_u32-2 : goal.returns-then-to_u32-2
returns-then-to_u32-2 g c =
    let f = g.V.Mmer.number in
    let values = c.args.values.now in
    let at : ℕ → ℕ = slice_index (map f values) in
    let w = c.args.width in
    let i = c.args.i in
    let new = read_is f values (i + w) c.index-values-i.result c.requires.inside c.index-values-i.is in
    let old = read_is f values i c.index-values-i-else-to_u32.result (omega (arith, c.requires.inside)) c.index-values-i-else-to_u32.is in
    let comes : low at w i < at (i + w) = omega (arith, new, c.to_u32.ensures, c.to_u32-2.ensures, c.if-to_u32.false, c.requires.least) in
    let leaves : low at w i < at i = omega (arith, old, c.to_u32-else-to_u32.ensures, c.to_u32-else-to_u32-2.ensures, c.if-to_u32-2.true, c.requires.least) in
    c.requires.least ∙ sym (low_stays at w i c.requires.some leaves comes)

pub returns-else-to_u32-2 : goal.returns-else-to_u32-2
returns-else-to_u32-2 g c =
    part_low g.V.Mmer.number c.args.values.now (c.args.i + 1) (c.args.i + 1 + c.args.width) c.args.width _ c.requires.some (omega arith)
    (omega (arith, c.requires.inside)) c.lowest.ensures
