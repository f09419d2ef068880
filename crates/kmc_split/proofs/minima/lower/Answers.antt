use Rattle.std.proofs.Common.{◌≡◌, ℕ, ◌+◌, ◌<◌, length, map, min, slice_index, ◌∙◌, arith}
use Rattle.kmc_split.specs.Lemmas.Numbers.{read_is, set_one_more}
use Rattle.kmc_split.proofs.minima.lower.Goals as goal

pub loop-i-preserved : goal.loop-i-preserved
loop-i-preserved g c =
    let f = g.V.Mmer.number in
    let i = c.loop-i.i in
    let d = c.args.d in
    let values = c.args.values.now in
    let inside : i < length c.loop-i.out = omega (arith, c.requires.written) in
    let here = read_is f values i c.index-values-i.result (omega (arith, c.requires.read)) c.index-values-i.is in
    let later = read_is f values (i + d) c.index-values-i-in-loop-i.result (omega (arith, c.requires.read)) c.index-values-i-in-loop-i.is in
    set_one_more f (λ (j x : ℕ). x ≡ min (slice_index (map f values) j) (slice_index (map f values) (j + d))) c.loop-i.out i c.lesser.result inside
    (c.lesser.ensures ∙ (λ t. min (here t) (later t))) c.loop-i.invariant
