use Rattle.std.proofs.Common.{◌≡◌, [], ◌++◌, length, map, sym, subst}
use Rattle.kmc_device.specs.Device.{Watched}
use Rattle.kmc_device.specs.Lemmas.Devices.{on_err}
use Rattle.kmc_record.specs.Shapes.{Sizes}
use Rattle.kmc_store.specs.Bins.{BinList, empty_bins}
use Rattle.kmc_store.specs.Holds.{HoldsReads}
use Rattle.kmc_stage_one.specs.Rounds.{HoldsPieces}
use Rattle.kmc_slices.specs.Rounds.{AreRounds, AreUnended}
use Rattle.kmc_slices.proofs.Rounds.{rounds_unended}
use Rattle.kmc_slices.proofs.Told.{told_last}
use Rattle.kmc_slices.proofs.cutting.cut_last_round.Goals as goal

pub returns-in_err-bins-clause-left : goal.returns-in_err-bins-clause-left
returns-in_err-bins-clause-left g c = λ taken olds before.
    on_err c.from_residual.result _ (rounds_unended c.args.dealing.now.settings.shape c.args.dealing.now.limit
    (length c.args.writers.now) olds taken _ c.args.counts.now before)

pub returns-in-Err-clause-cause : goal.returns-in-Err-clause-cause
returns-in-Err-clause-cause g c = λ format text taken s. told_last format text c.in-Err.e c.from.result c.told.result c.from.ensures c.told.ensures
    (c.in-Err.ensures.cause format text taken s)

pub returns-in-Err-clause-left : goal.returns-in-Err-clause-left
returns-in-Err-clause-left g c = λ taken olds before.
    rounds_unended c.args.dealing.now.settings.shape c.args.dealing.now.limit (length c.args.writers.now) olds taken _ c.args.counts.now before

pub returns-in-Ok-write_bins-clause-ok : goal.returns-in-Ok-write_bins-clause-ok
returns-in-Ok-write_bins-clause-ok g c = λ format text taken olds s before.
    let dealing = c.args.dealing.now in let shape = dealing.settings.shape in let S = length c.args.writers.now in
    let held = λ (w : Watched g.row.W.Denot). g.W.Write.contents w.inner in
    let mids = map held c.args.writers.now in let news = map held c.write_bins.new.writers in
    let bins = c.in-Ok.bins in let shaped : bins.shape ≡ shape = c.in-Ok.ensures.shape in
    let empty : c.in_ok-bins.bins ≡ empty_bins shape = c.in_ok-bins.ensures in
    let none = subst (λ (b : BinList). HoldsReads shape [] b.bodies) (sym empty) (c.empty_bins_hold_no_reads.ensures shape) in
    let all = c.in-Ok.ensures.holds format text taken [] s none in
    let wrote = c.in-Ok-write_bins.ensures.ok dealing.limit taken all.1 olds
    (subst (λ (t : Sizes). AreRounds t dealing.limit S taken olds mids c.args.counts.now) (sym shaped) before)
    (subst (λ (t : Sizes). HoldsPieces t dealing.limit all.1 bins.bodies) (sym shaped) all.4) in
    record {
      reads = all.0;
      are_reads = all.2;
      cuts = taken ++ all.1;
      cut = all.3;
      rounds = subst (λ (t : Sizes). AreRounds t dealing.limit S (taken ++ all.1) olds news c.write_bins.new.counts) shaped wrote;
    }

pub returns-clause-left : goal.returns-clause-left
returns-clause-left g c = λ taken olds before.
    let dealing = c.args.dealing.now in let shape = dealing.settings.shape in let S = length c.args.writers.now in
    let held = λ (w : Watched g.row.W.Denot). g.W.Write.contents w.inner in
    let mids = map held c.args.writers.now in let news = map held c.write_bins.new.writers in
    let shaped : c.in-Ok.bins.shape ≡ shape = c.in-Ok.ensures.shape in
    subst (λ (t : Sizes). AreUnended t S olds news) shaped
    (c.in-Err-write_bins.ensures.left dealing.limit taken olds
    (subst (λ (t : Sizes). AreRounds t dealing.limit S taken olds mids c.args.counts.now) (sym shaped) before))
