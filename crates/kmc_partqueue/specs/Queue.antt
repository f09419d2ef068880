-- Which queue a seat is of.
use Rattle.atomic_table.specs.Seated.{TableId}
use Rattle.kmc_partqueue.specs.declared.lanes.Lanes.{Lanes}

-- the identity of a queue, which each of its seats keeps
abbrev pub identity : {T : Type 0} → Lanes T → TableId
identity lanes = lanes.table.shared.table_id
