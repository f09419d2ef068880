use Rattle.std.proofs.Common.{◌^◌, ◌<◌, take}
use Rattle.std.specs.Prelude.{All}
use Rattle.kmc_lists.specs.Ordered.{joined, packs}
use Rattle.kmc_packer.proofs.counts.have_great.Given as goal

-- the counts of the lists so far are held
abbrev pub invariant-loop-list : goal.invariant-loop-list
invariant-loop-list g l = record { held : All (λ p. p.1 < 256 ^ l.layout.counter) (joined (packs (take l.list-index l.lists))) }
