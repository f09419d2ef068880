use Rattle.kmc_dump.proofs.output.write_range.Goals as goal

pub returns-clause-gets : goal.returns-clause-gets
returns-clause-gets g c = λ line r lists more. c.take_full.ensures.gets line r lists (record { all = more.all })
