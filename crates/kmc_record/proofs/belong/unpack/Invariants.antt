use Rattle.std.proofs.Common.{◌≡◌, ◌*◌, length, take}
use Rattle.kmc_base.specs.Record.{codes_in}
use Rattle.kmc_record.proofs.belong.unpack.Given as goal

-- the codes of the bytes so far
abbrev pub invariant-loop-j : goal.invariant-loop-j
invariant-loop-j l = (length l.codes ≡ 4 * length l.bytes) × (take (4 * l.j) l.codes ≡ take (4 * l.j) (codes_in l.bytes))
