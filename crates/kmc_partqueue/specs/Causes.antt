-- Which of two refusals is answered, and what callers are told of it.
use Rattle.std.specs.Prelude.{Result, Ok, Err}
use Rattle.kmc_partqueue.specs.declared.refusal.GivenUp.{GivenUp}
use Rattle.kmc_partqueue.specs.declared.refusal.GivenUp.TheVariants.{Memory, NumbersSpent, Stopped}
use Rattle.kmc_partqueue.specs.declared.refusal.Refusal.{Refusal}
use Rattle.kmc_partqueue.specs.declared.refusal.Refusal.TheVariants as refusal

-- want of memory before spent numbers, and either before a stop
abbrev pub earlier : GivenUp → GivenUp → GivenUp
earlier Memory other = Memory
earlier NumbersSpent Memory = Memory
earlier NumbersSpent NumbersSpent = NumbersSpent
earlier NumbersSpent Stopped = NumbersSpent
earlier Stopped other = other

-- what two workers hand back
abbrev pub both : {A B : Type 0} → Result A GivenUp → Result B GivenUp → Result (A × B) GivenUp
both (Ok a) (Ok b) = Ok (a, b)
both (Ok a) (Err cause) = Err cause
both (Err cause) (Ok b) = Err cause
both (Err cause) (Err other) = Err (earlier cause other)

-- a stop that has no other cause is told as want of memory
abbrev pub told : GivenUp → Refusal
told Memory = refusal.Memory
told NumbersSpent = refusal.NumbersSpent
told Stopped = refusal.Memory
