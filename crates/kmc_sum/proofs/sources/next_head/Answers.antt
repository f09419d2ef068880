use Rattle.std.proofs.Common.{◌≡◌, ◌++◌, Err, refl, ap, subst, arith}
use Rattle.std.proofs.lemmas.Grind.{common_steps}
use Rattle.kmc_base.specs.Lemmas.Powers.{pow_some}
use Rattle.kmc_sum.specs.Lemmas.Gave.{source_ends, ends_some, lost_front}
use Rattle.kmc_sum.specs.Heads.{pending}
use Rattle.kmc_sum.specs.Faults.{IsFaultAt, line_after}
use Rattle.kmc_sum.proofs.sources.next_head.Goals as goal

pub returns-in-Err-clause-lost : goal.returns-in-Err-clause-lost
returns-in-Err-clause-lost g c = λ start head taken source. let lost = c.in-Err.ensures.lost in
    lost_front c.args.k start _ _ c.args.room.now head taken lost.0 lost.1 source

pub returns-in-Err-clause-fault : goal.returns-in-Err-clause-fault
returns-in-Err-clause-fault g c = λ line fault is start head taken live packed source.
    let here = c.in-Err.ensures.fault line fault (ap Err is) in
    let pairs = taken ++ pending c.args.k head in
    let number : line_after pairs ≡ line = omega (arith, here.0, source.lines) in
    let ends = source_ends c.args.k c.args.packed start _ c.args.room.now head taken live packed source in (
      subst (λ n. IsFaultAt c.args.k start (g.R.Read.remaining c.next_pair.new.reader.inner) n fault) number (here.1 start pairs ends source.gave),
      omega (arith, number, ends_some c.args.k c.args.packed pairs ends),
    )

pub returns-in-Err-clause-read : goal.returns-in-Err-clause-read
returns-in-Err-clause-read g c = λ is. c.in-Err.ensures.read (ap Err is)

pub returns-in-Ok-None-clause-behind : goal.returns-in-Ok-None-clause-behind
returns-in-Ok-None-clause-behind g c = (refl, omega arith, pow_some c.args.k)

pub returns-in-Ok-Some-clause-ok : goal.returns-in-Ok-Some-clause-ok
returns-in-Ok-Some-clause-ok g c = grind (arith, common_steps)
