-- When a storer ends without its result.
use Rattle.kmc_partqueue.specs.declared.refusal.GivenUp.{GivenUp}
use Rattle.kmc_partqueue.specs.declared.refusal.GivenUp.TheVariants.{Memory, NumbersSpent, Stopped}

-- a storer puts nothing, so it spends no numbers
abbrev pub IsStorersCause : GivenUp → Type 0
IsStorersCause NumbersSpent = ⊥
IsStorersCause Memory = Unit {0}
IsStorersCause Stopped = Unit {0}
