use Rattle.std.proofs.Common.{ℕ, ◌<◌, map, arith}
use Rattle.std.proofs.lemmas.List.{length-map}
use Rattle.std.proofs.lemmas.List.Elements.{recursion_from_All}
use Rattle.kmc_split.proofs.Bins.{bins_are}
use Rattle.kmc_split.proofs.belonging.candidates_in_bin.Goals as goal

pub returns : goal.returns
returns g c =
    let f = g.V.Mmer.number in
    let out = c.candidates.new.out in
    let codes = c.args.codes.now in
    let count = length-map out f in
    let e = c.least_in_bin.ensures in
    let b = bins_are c.args.m c.args.k c.args.n c.args.bin codes (map f out) c.requires.some
    (recursion_from_All (λ (x : ℕ). x < 4) codes c.requires.codes) c.requires.within c.requires.inside (omega arith)
    (λ i inside. c.candidates.ensures.each i (omega arith)) (λ i inside. c.candidates.ensures.fit i (omega arith)) in
    ((λ h. b.0 (λ i inside. e.0 h i (omega arith))), (λ all. e.1 (λ i inside. b.1 all i (omega arith))))
