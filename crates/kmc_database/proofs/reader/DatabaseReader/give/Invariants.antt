use Rattle.std.proofs.Common.{◌+◌, ◌-◌, ◌≤◌, length, take}
use Rattle.std.specs.Io.KnownBytes.{Consumes}
use Rattle.kmc_database.specs.DumpReader.{rest_of, steps_of}
use Rattle.kmc_database.proofs.reader.DatabaseReader.give.Given as goal

-- a part of the text was given
abbrev pub invariant-loop-given : goal.invariant-loop-given
invariant-loop-given g l = record {
  within : l.given ≤ length l.buf;
  gave : Consumes (rest_of g.R.Read.remaining l.initial.self) (rest_of g.R.Read.remaining l.self) (take l.given l.buf);
}

abbrev pub decreases-loop-given : goal.decreases-loop-given
decreases-loop-given g l = (length l.buf - l.given) + steps_of l.self
