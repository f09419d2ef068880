use Rattle.std.proofs.Common.{◌≡◌, ◌++◌, length}
use Rattle.kmc_partcore.specs.Legal.{IsLegal, history_of}
use Rattle.kmc_partcore.specs.CoreState.{Holds}
use Rattle.kmc_partcore.proofs.replay.run.Given as goal

abbrev pub invariant-loop-event : goal.invariant-loop-event
invariant-loop-event g l = record {
  shape : l.core.shape ≡ l.fn.shape;
  all : length l.replies.items ≡ length l.yielded;
  whole : l.yielded
      ++ l.event-iterator.rest.items ≡ l.fn.events.items;
  legal : IsLegal l.fn.shape (history_of l.yielded l.replies.items);
  holds : Holds l.core
      (history_of l.yielded l.replies.items);
}
