use Rattle.std.proofs.Common.{sym, arith}
use Rattle.kmc_base.specs.Packed.{unpack}
use Rattle.kmc_base.specs.Lemmas.Packing.{length_unpack}
use Rattle.kmc_split.specs.Lemmas.Allowed.{short_is_allowed}
use Rattle.kmc_split.proofs.mmer.U16Mmer.is_allowed_with.Goals as goal

pub returns-then-m-lt-HEAD : goal.returns-then-m-lt-HEAD
returns-then-m-lt-HEAD c = sym (short_is_allowed (unpack c.args.m c.args.self) (omega (arith, length_unpack c.args.m c.args.self)))
