use Rattle.std.proofs.Common.{rules}
use Rattle.kmc_options.proofs.command_line.settings.Goals as goal

pub returns-in_err-asked-clause-answer : goal.returns-in_err-asked-clause-answer
returns-in_err-asked-clause-answer c = search rules

pub returns-in_err-asked-clause-complete : goal.returns-in_err-asked-clause-complete
returns-in_err-asked-clause-complete c = search rules

pub returns-clause-answer : goal.returns-clause-answer
returns-clause-answer c = search rules
