use Rattle.kmc_database.specs.DumpReader.{rest_of, steps_of}
use Rattle.kmc_database.specs.LeftOf.{StaysKnown}
use Rattle.kmc_database.proofs.reader.DatabaseReaderLineRead.take_line.Given as goal

-- nothing is lost
abbrev pub invariant-loop-self : goal.invariant-loop-self
invariant-loop-self g l = StaysKnown (rest_of g.R.Read.remaining l.initial.self) (rest_of g.R.Read.remaining l.self)

abbrev pub decreases-loop-self : goal.decreases-loop-self
decreases-loop-self g l = steps_of l.self
