use Rattle.kmc_dump.proofs.bins.write_bins.Goals as goal

pub returns-clause-ok : goal.returns-clause-ok
returns-clause-ok g c = c.write_pairs.ensures.ok

pub returns-clause-lines : goal.returns-clause-lines
returns-clause-lines g c = c.write_pairs.ensures.pairs

pub returns-clause-kept : goal.returns-clause-kept
returns-clause-kept g c = c.write_pairs.ensures.kept

pub returns-clause-failed : goal.returns-clause-failed
returns-clause-failed g c = c.write_pairs.ensures.failed

pub returns-clause-front : goal.returns-clause-front
returns-clause-front g c = c.write_pairs.ensures.front

pub returns-clause-silent : goal.returns-clause-silent
returns-clause-silent g c = c.write_pairs.ensures.silent
