use Rattle.kmc_dump.proofs.bins.write_pairs.Goals as goal

pub returns-clause-ok : goal.returns-clause-ok
returns-clause-ok g c = c.write_sized.ensures.ok

pub returns-clause-pairs : goal.returns-clause-pairs
returns-clause-pairs g c = c.write_sized.ensures.lines

pub returns-clause-kept : goal.returns-clause-kept
returns-clause-kept g c = c.write_sized.ensures.kept

pub returns-clause-failed : goal.returns-clause-failed
returns-clause-failed g c = c.write_sized.ensures.failed

pub returns-clause-front : goal.returns-clause-front
returns-clause-front g c = c.write_sized.ensures.front

pub returns-clause-silent : goal.returns-clause-silent
returns-clause-silent g c = c.write_sized.ensures.silent
