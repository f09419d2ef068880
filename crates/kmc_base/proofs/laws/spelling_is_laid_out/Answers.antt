use Rattle.kmc_base.proofs.LaidOut.{laid_out}
use Rattle.kmc_base.proofs.laws.spelling_is_laid_out.Goals as goal

pub returns : goal.returns
returns c = λ k s h. laid_out k s h
