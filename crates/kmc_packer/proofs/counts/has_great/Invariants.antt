use Rattle.std.proofs.Common.{◌^◌, ◌<◌, take}
use Rattle.std.specs.Prelude.{All}
use Rattle.kmc_packer.proofs.counts.has_great.Given as goal

-- the counts so far are held
abbrev pub invariant-loop-i : goal.invariant-loop-i
invariant-loop-i g l = record { held : All (λ p. p.1 < 256 ^ l.layout.counter) (take l.i l.list.packed) }
