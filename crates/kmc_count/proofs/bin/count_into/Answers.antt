use Rattle.std.proofs.Common.{inr}
use Rattle.kmc_count.specs.Lemmas.PassedOn.{passed_on}
use Rattle.kmc_count.proofs.Refused.{given, no_damage, refused}
use Rattle.kmc_count.proofs.bin.count_into.Goals as goal

pub returns-in_err-take_items-clause-damaged : goal.returns-in_err-take_items-clause-damaged
returns-in_err-take_items-clause-damaged g c = λ fault offset is.
    c.take_items.ensures.damaged fault offset
    (passed_on c.take_items.result c.from_residual.result _ _ c.in_err-take_items.was c.from_residual.ensures.1 is)

pub returns-in_err-take_items-clause-takes : goal.returns-in_err-take_items-clause-takes
returns-in_err-take_items-clause-takes g c = refused _ c.from_residual.result c.from_residual.ensures.0

pub returns-in_err-take_items-clause-ok : goal.returns-in_err-take_items-clause-ok
returns-in_err-take_items-clause-ok g c = refused _ c.from_residual.result c.from_residual.ensures.0

pub returns-in_err-take_items-clause-memory : goal.returns-in_err-take_items-clause-memory
returns-in_err-take_items-clause-memory g c = λ is.
    c.take_items.ensures.memory (passed_on c.take_items.result c.from_residual.result _ _ c.in_err-take_items.was c.from_residual.ensures.1 is)

pub dump_items-requires-clause-takes : goal.dump_items-requires-clause-takes
dump_items-requires-clause-takes g c = c.requires.takes

pub dump_items-requires-clause-empty : goal.dump_items-requires-clause-empty
dump_items-requires-clause-empty g c = c.requires.empty

pub dump_items-requires-clause-wide : goal.dump_items-requires-clause-wide
dump_items-requires-clause-wide g c = c.requires.wide

pub dump_items-requires-clause-fit : goal.dump_items-requires-clause-fit
dump_items-requires-clause-fit g c = c.in_ok-take_items.ensures.ok.fit

pub returns-in_err-dump_items-clause-takes : goal.returns-in_err-dump_items-clause-takes
returns-in_err-dump_items-clause-takes g c = refused _ c.from_residual-in_err-dump_items.result c.from_residual-in_err-dump_items.ensures.0

pub returns-in_err-dump_items-clause-ok : goal.returns-in_err-dump_items-clause-ok
returns-in_err-dump_items-clause-ok g c = refused _ c.from_residual-in_err-dump_items.result c.from_residual-in_err-dump_items.ensures.0

pub returns-in_err-dump_items-clause-damaged : goal.returns-in_err-dump_items-clause-damaged
returns-in_err-dump_items-clause-damaged g c = λ fault offset.
    no_damage _ c.from_residual-in_err-dump_items.result fault offset c.from_residual-in_err-dump_items.ensures.1

pub returns-in_err-dump_items-clause-memory : goal.returns-in_err-dump_items-clause-memory
returns-in_err-dump_items-clause-memory g c = λ _. inr (c.in_ok-take_items.ensures.ok.super_kmers, c.in_ok-take_items.ensures.ok.records)

pub returns-clause-takes : goal.returns-clause-takes
returns-clause-takes g c = c.in_ok-dump_items.ensures.takes

pub returns-clause-ok : goal.returns-clause-ok
returns-clause-ok g c = c.in_ok-dump_items.ensures.ok c.args.body.now c.in_ok-take_items.ensures.ok

pub returns-clause-damaged : goal.returns-clause-damaged
returns-clause-damaged g c = λ fault offset. given _ _ _

pub returns-clause-memory : goal.returns-clause-memory
returns-clause-memory g c = given _ _ _
