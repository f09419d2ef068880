use Rattle.std.proofs.Common.{length, arith}
use Rattle.kmc_device.specs.Lemmas.Devices.{on_ok_then}
use Rattle.kmc_slice_files.proofs.Each.{one_round}
use Rattle.kmc_slice_files.proofs.files.write_files.Goals as goal

pub write_round-requires-clause-bins : goal.write_round-requires-clause-bins
write_round-requires-clause-bins g c = omega (arith, c.requires.bins, c.n-bins.ensures.shape.most_n)

pub returns-clause-ok : goal.returns-clause-ok
returns-clause-ok g c =
    on_ok_then c.end_files.result _ _
    (one_round c.args.shape (length c.args.bodies.now) (length c.args.writers.now) _ _ _ _ _ _ _ _ _ c.n-bins.ensures.shape c.requires.few
    c.requires.bins (omega (arith, c.begin_files.auto.writers)) (omega (arith, c.begin_files.auto.writers, c.write_round.auto.writers))
    c.in_ok-begin_files.ensures.ok c.in_ok-begin_files.ensures.none
    c.in_ok-write_round.ensures.ok) c.end_files.ensures.ok
