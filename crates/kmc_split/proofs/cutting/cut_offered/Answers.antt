use Rattle.std.proofs.Common.{ℕ, ◌-◌, ◌<◌, ◌^◌, length, map, take, slice_index, ◌∙◌, ap, subst, sym, arith}
use Rattle.std.proofs.lemmas.List.{length-map, length-take-le}
use Rattle.std.proofs.lemmas.List.Elements.{recursion_from_All}
use Rattle.std.proofs.lemmas.Result.{on_ok_weaker}
use Rattle.kmc_split.specs.Cut.{AreRuns}
use Rattle.kmc_split.specs.Candidates.{unmarked}
use Rattle.kmc_split.specs.Lemmas.Lowest.{low_is}
use Rattle.kmc_split.specs.Lemmas.Least.{cut_is}
use Rattle.kmc_split.proofs.Fronts.{taken_number}
use Rattle.kmc_split.proofs.cutting.cut_offered.Goals as goal

pub group-requires-clause-fit : goal.group-requires-clause-fit
group-requires-clause-fit g c = λ i inside.
    let f = g.V.Mmer.number in
    let m = c.args.m in
    let n = c.in_ok-count.count in
    let lows = c.in_ok-count.ensures in
    let at : ℕ → ℕ = slice_index (map f c.args.values.now.items) in
    let long = length-take-le n c.deref.result.now (omega (arith, lows.within, ap length c.deref.ensures.value)) in
    let less : i < n = omega arith in
    let found = low_is at (c.args.k - (m - 1)) i (omega arith) in
    let is = taken_number f c.deref.result.now c.window_minima.new.values.items n i less c.deref.ensures.value ∙ lows.each i less ∙ found.3 in
    subst (λ (x : ℕ). x < 4 ^ m) (sym is) (c.requires.are.fit found.0 (omega (arith, lows.count)))

pub returns : goal.returns
returns g c =
    let f = g.V.Mmer.number in
    let m = c.args.m in
    let n = c.in_ok-count.count in
    let codes = c.args.codes.now in
    let lows = c.in_ok-count.ensures in
    let lowest = take n c.deref.result.now in
    let runs = c.group.new.runs.items in
    let long = length-take-le n c.deref.result.now (omega (arith, lows.within, ap length c.deref.ensures.value)) in
    let of_lowest = length-map lowest f in
    on_ok_weaker c.group.result
    (λ h. cut_is m c.args.k codes (map f c.args.values.now.items) (map f lowest) runs c.requires.some c.requires.within c.requires.long
    (recursion_from_All (λ (x : ℕ). x < 4) codes c.requires.codes) c.requires.are (omega (arith, lows.count))
    (λ i inside.
    let less : i < n = omega arith in
    taken_number f c.deref.result.now c.window_minima.new.values.items n i less c.deref.ensures.value ∙ lows.each i less)
    (subst (λ (e : ℕ). AreRuns (λ i. unmarked m (slice_index (map f lowest) i)) 0 e runs) (sym of_lowest) h))
    c.group.ensures
