use Rattle.std.proofs.Common.{◌≡◌, ℕ, ◌+◌, ◌*◌, ◌<◌, length, map, min, slice_index, ◌∙◌, arith}
use Rattle.kmc_split.specs.Lemmas.Numbers.{read_is, set_one_more}
use Rattle.kmc_split.proofs.minima.lower_of_four.Goals as goal

pub loop-i-preserved : goal.loop-i-preserved
loop-i-preserved g c =
    let f = g.V.Mmer.number in
    let i = c.loop-i.i in
    let d = c.args.d in
    let values = c.args.values.now in
    let at : ℕ → ℕ = slice_index (map f values) in
    let inside : i < length c.loop-i.out = omega (arith, c.requires.written) in
    let one = read_is f values i c.index-values-i.result (omega (arith, c.requires.read)) c.index-values-i.is in
    let two = read_is f values (i + d) c.index-values-i-in-loop-i.result (omega (arith, c.requires.read)) c.index-values-i-in-loop-i.is in
    let three = read_is f values (i + 2 * d) c.index-values-i-in-loop-i-2.result (omega (arith, c.requires.read)) c.index-values-i-in-loop-i-2.is in
    let four = read_is f values (i + 3 * d) c.index-values-i-in-loop-i-3.result (omega (arith, c.requires.read)) c.index-values-i-in-loop-i-3.is in
    let is : f c.lesser.result ≡ min (min (at i) (at (i + d))) (min (at (i + 2 * d)) (at (i + 3 * d))) =
    c.lesser.ensures ∙ (λ t. min (c.lesser-front.ensures t) (c.lesser-behind.ensures t))
    ∙ (λ t. min (min (one t) (two t)) (min (three t) (four t))) in
    set_one_more f (λ (j x : ℕ). x ≡ min (min (at j) (at (j + d))) (min (at (j + 2 * d)) (at (j + 3 * d)))) c.loop-i.out i c.lesser.result inside is c.loop-i.invariant
