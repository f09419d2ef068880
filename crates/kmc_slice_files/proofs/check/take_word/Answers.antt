use Rattle.std.proofs.Common.{ap, ◌∙◌}
use Rattle.kmc_slice_files.specs.Check.{times, folded, mixed}
use Rattle.kmc_slice_files.proofs.check.take_word.Goals as goal

pub returns : goal.returns
returns c = c.mix.ensures ∙ ap (mixed c.args.state) (c.multiply-2.ensures ∙ ap times (c.fold.ensures ∙ ap folded c.multiply.ensures))
