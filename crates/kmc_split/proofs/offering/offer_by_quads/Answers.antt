use Rattle.std.proofs.Common.{ℕ, ◌<◌, arith}
use Rattle.std.proofs.lemmas.List.Elements.{recursion_from_All}
use Rattle.kmc_split.proofs.Overlaps.{are_candidates}
use Rattle.kmc_split.proofs.offering.offer_by_quads.Goals as goal

pub returns : goal.returns
returns c =
    let codes = c.args.codes.now in
    are_candidates codes (recursion_from_All (λ (x : ℕ). x < 4) codes c.requires.codes) c.fill_quads.new.quads c.fill_quads.new.turned c.fill_quads.ensures
    c.args.m c.whole_rows.result c.judge_quads.new.out c.requires.some c.requires.most (omega (arith, c.requires.some, c.whole_rows.ensures.least))
    c.judge_quads.ensures
