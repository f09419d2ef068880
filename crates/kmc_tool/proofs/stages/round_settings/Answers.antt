use Rattle.std.proofs.Common.{sym, subst}
use Rattle.kmc_record.specs.Shapes.{Sizes, IsShape}
use Rattle.kmc_tool.proofs.Settings.{shape_is}
use Rattle.kmc_tool.proofs.stages.round_settings.Goals as goal
