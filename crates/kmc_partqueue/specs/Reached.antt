-- The rule that the table of a queue keeps between any two atomic steps: the steps of its seats lead there.
use Rattle.std.specs.Prelude.{◌+◌, ◌*◌, Option, None, replicate}
use Rattle.atomic_table.specs.Table.{State, opening}
use Rattle.kmc_partcore.specs.declared.shape.QueueShape.{QueueShape}
use Rattle.kmc_partcore.specs.History.{History}
use Rattle.kmc_partqueue.specs.declared.views.View.{View}
use Rattle.kmc_partqueue.specs.Dealing.{all_seats}
use Rattle.kmc_partqueue.specs.Steps.{AreSteps}

module _ {T : Type 0} (k : QueueShape) where
  -- all words are 0, all slots are empty, and one seat has all writers and all readers
  abbrev pub opened : State (Option T) (View T)
  opened = opening (replicate (2 * k.writers + k.writers * k.per_writer) 0) (replicate (k.writers * k.per_writer) None) (all_seats k)

  -- a list of steps, which made these entries, leads from the opening state to this one
  pub record IsReached (s : State (Option T) (View T)) : Type 0 where
    pub entries : History T
    pub steps : AreSteps k opened s entries
