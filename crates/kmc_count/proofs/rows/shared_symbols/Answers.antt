use Rattle.std.proofs.Common.{arith}
use Rattle.kmc_count.proofs.Fronts.{alike_front}
use Rattle.kmc_count.proofs.rows.shared_symbols.Goals as goal

pub returns-then-one-behind-clause-alike : goal.returns-then-one-behind-clause-alike
returns-then-one-behind-clause-alike c =
    alike_front c.min-most.result c.args.one c.args.other (omega (arith, c.min-most.ensures)) c.if-one-behind.true
