use Rattle.std.proofs.Common.{sym, subst, ◌∙◌}
use Rattle.std.proofs.lemmas.Result.{on_ok_weaker}
use Rattle.kmc_reads.specs.Standing.{Keeps}
use Rattle.kmc_reads.proofs.Feeding.{return_back}
use Rattle.kmc_reads.proofs.Walking.{take_whole}
use Rattle.kmc_reads.proofs.scan.Scan.release.Goals as goal

pub returns-then-self-clause-keeps : goal.returns-then-self-clause-keeps
returns-then-self-clause-keeps c = λ rows spot front at.
    on_ok_weaker c.add.result (subst (λ t. Keeps rows spot t c.add.new.self) (return_back front (sym at.held ∙ c.if-self.true)))
    (c.add.ensures.keeps rows spot _ at.keeps)

pub returns-clause-bytes : goal.returns-clause-bytes
returns-clause-bytes c = take_whole _
