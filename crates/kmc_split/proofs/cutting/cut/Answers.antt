use Rattle.std.proofs.Common.{◌≡◌, ℕ, subst, arith}
use Rattle.std.specs.List.{All}
use Rattle.std.proofs.lemmas.Result.{on_ok_weaker}
use Rattle.kmc_split.specs.Cut.{IsRunOf}
use Rattle.kmc_split.proofs.Kept.{words_are, runs_are}
use Rattle.kmc_split.proofs.cutting.cut.Goals as goal

pub returns-then-m-eq0-clause-each : goal.returns-then-m-eq0-clause-each
returns-then-m-eq0-clause-each c =
    let none : 0 ≡ c.args.m = omega arith in
    on_ok_weaker c.cut_whole.result
    (λ h. subst (λ (m : ℕ). All (IsRunOf c.args.k m c.args.codes.now) c.cut_whole.new.runs.items) none
    (runs_are c.args.k 0 c.args.codes.now _ c.requires.some c.requires.long h)) (c.cut_whole.ensures c.args.k c.args.codes.now (omega arith))

pub returns-then-m-eq0-clause-words : goal.returns-then-m-eq0-clause-words
returns-then-m-eq0-clause-words c = on_ok_weaker c.cut_whole.result (λ h. words_are c.args.k 0 c.args.codes.now _ c.requires.some c.requires.long h) (c.cut_whole.ensures c.args.k c.args.codes.now (omega arith))

pub returns-then-m-le-MOST_SHORT-clause-each : goal.returns-then-m-le-MOST_SHORT-clause-each
returns-then-m-le-MOST_SHORT-clause-each c = on_ok_weaker c.cut_short.result (λ h. runs_are c.args.k c.args.m c.args.codes.now _ c.requires.some c.requires.long h) c.cut_short.ensures

pub returns-then-m-le-MOST_SHORT-clause-words : goal.returns-then-m-le-MOST_SHORT-clause-words
returns-then-m-le-MOST_SHORT-clause-words c = on_ok_weaker c.cut_short.result (λ h. words_are c.args.k c.args.m c.args.codes.now _ c.requires.some c.requires.long h) c.cut_short.ensures

pub returns-else-m-le-MOST_SHORT-clause-each : goal.returns-else-m-le-MOST_SHORT-clause-each
returns-else-m-le-MOST_SHORT-clause-each c = on_ok_weaker c.cut_wide.result (λ h. runs_are c.args.k c.args.m c.args.codes.now _ c.requires.some c.requires.long h) c.cut_wide.ensures

pub returns-else-m-le-MOST_SHORT-clause-words : goal.returns-else-m-le-MOST_SHORT-clause-words
returns-else-m-le-MOST_SHORT-clause-words c = on_ok_weaker c.cut_wide.result (λ h. words_are c.args.k c.args.m c.args.codes.now _ c.requires.some c.requires.long h) c.cut_wide.ensures
