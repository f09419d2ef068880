use Rattle.std.proofs.Common.{rules}
use Rattle.kmc_record.proofs.shape.Shape.new.Goals as goal

pub returns-then-n-le-MOST_BINS : goal.returns-then-n-le-MOST_BINS
returns-then-n-le-MOST_BINS c = search rules
