use Rattle.std.proofs.Common.{arith}
use Rattle.kmc_database.proofs.HandedOut.{front_set}
use Rattle.kmc_database.proofs.line_buffer.LineBuffer.hold_fault.Goals as goal

pub returns : goal.returns
returns c = front_set c.self.inside.room 0 (omega (arith, c.self.told))
