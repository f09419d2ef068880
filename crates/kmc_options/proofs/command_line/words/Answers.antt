use Rattle.std.proofs.Common.{arith}
use Rattle.std.proofs.lemmas.Grind.{common_steps}
use Rattle.kmc_options.proofs.command_line.words.Goals as goal

pub loop-word-preserved : goal.loop-word-preserved
loop-word-preserved c = grind (arith, common_steps)
