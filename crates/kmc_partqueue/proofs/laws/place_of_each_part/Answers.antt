use Rattle.kmc_partqueue.proofs.PartPlaces.{part_place_law, held_slot_law}
use Rattle.kmc_partqueue.proofs.laws.place_of_each_part.Goals as goal

pub returns-clause-part : goal.returns-clause-part
returns-clause-part g c = part_place_law _

pub returns-clause-slot : goal.returns-clause-slot
returns-clause-slot g c = held_slot_law _
