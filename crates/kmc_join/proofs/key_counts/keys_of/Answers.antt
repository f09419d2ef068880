use Rattle.std.proofs.Common.{◌≤◌, List, ℕ, length, map, sym, ap, subst, ◌∙◌, arith}
use Rattle.std.specs.Prelude.{Contains}
use Rattle.std.proofs.lemmas.List.{take_all}
use Rattle.std.proofs.lemmas.List.Sorted.{Contains-permutation}
use Rattle.kmc_base.specs.Strands.{key}
use Rattle.kmc_join.proofs.KeyOrders.{key_stands}
use Rattle.kmc_join.proofs.key_counts.keys_of.Goals as goal

pub returns-clause-all : goal.returns-clause-all
returns-clause-all c = λ w there.
    let all : length c.args.words.now ≤ c.loop-word.word-index = omega arith in
    Contains-permutation _ _ _ c.sort.ensures.permutation
    (subst (λ (ks : List (List ℕ)). Contains ks (key c.args.strands w))
    (sym (c.loop-word.invariant ∙ ap (map (key c.args.strands)) (take_all c.loop-word.word-index c.args.words.now all)))
    (key_stands (key c.args.strands) c.args.words.now w there))
