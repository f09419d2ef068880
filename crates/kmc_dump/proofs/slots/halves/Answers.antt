use Rattle.std.proofs.Common.{ℕ, ◌/◌, ◌<◌, ◌^◌, ◌++◌, ◌∙◌}
use Rattle.std.proofs.lemmas.List.{take-append-drop}
use Rattle.kmc_dump.proofs.Gathered.{first_are, others_are}
use Rattle.kmc_dump.proofs.slots.halves.Goals as goal

pub returns-clause-low : goal.returns-clause-low
returns-clause-low g c =
    let front = c.split_at.ensures.front in
    let back = c.split_at.ensures.back in
    let w = 2 ^ c.args.shift in
    record {
      inside = first_are (λ (p : ℕ × ℕ). p.0 / w < c.args.slots) c.split_at.result.0.now c.split_at.result.1.now c.args.lists.now
          ((λ i. front i ++ back i) ∙ take-append-drop _ c.args.lists.now) c.requires.inside;
    }

pub returns-clause-high : goal.returns-clause-high
returns-clause-high g c =
    let front = c.split_at.ensures.front in
    let back = c.split_at.ensures.back in
    let w = 2 ^ c.args.shift in
    record {
      inside = others_are (λ (p : ℕ × ℕ). p.0 / w < c.args.slots) c.split_at.result.0.now c.split_at.result.1.now c.args.lists.now
          ((λ i. front i ++ back i) ∙ take-append-drop _ c.args.lists.now) c.requires.inside;
    }
