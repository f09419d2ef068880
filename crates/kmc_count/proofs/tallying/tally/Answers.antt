use Rattle.std.proofs.Common.{◌≡◌, ℕ, List, [], map, subst, arith}
use Rattle.std.proofs.lemmas.Result.{on_ok_weaker}
use Rattle.kmc_base.specs.Weights.{items}
use Rattle.kmc_count.specs.Bundles.{weight_of_both}
use Rattle.kmc_count.specs.Dump.{IsDump}
use Rattle.kmc_count.specs.Occurrences.{weight_of}
use Rattle.kmc_count.proofs.tallying.tally.Goals as goal

-- no bundles
alone : (ps : List (List ℕ × ℕ)) (x : List ℕ) → weight_of_both 1 ps [] x ≡ weight_of ps x
alone ps x = omega arith

pub returns-clause-dump : goal.returns-clause-dump
returns-clause-dump g c =
    let ps = items c.args.form.rule.k c.args.form.bits (map g.W.PackedKmer.number c.args.words.now) in
    on_ok_weaker c.tally_both.result
    (λ dump. subst (λ count. IsDump count c.args.limits.now (g.L.PairList.pairs c.tally_both.new.pairs)) (λ i x. alone ps x i) dump)
    c.tally_both.ensures.dump
