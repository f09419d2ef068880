use Rattle.kmc_slices.proofs.programs.listing.list_readers.Goals as goal

pub returns-in-Err-clause-failed : goal.returns-in-Err-clause-failed
returns-in-Err-clause-failed g c = λ _. (c.in-Err.fault, c.in-Err.ensures.fault)
