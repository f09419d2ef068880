use Rattle.std.proofs.Common.{◌*◌, ◌^◌}
use Rattle.kmc_dump.specs.Ranges.{ArePartedTo}
use Rattle.kmc_dump.proofs.parting.join_slots.Given as goal

abbrev pub invariant-loop-slot : goal.invariant-loop-slot
invariant-loop-slot g l = ArePartedTo (2 ^ l.fine) l.joined.widest l.joined.bounds.items (l.slot * l.step) l.joined.pending l.lists
