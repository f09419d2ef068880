use Rattle.std.proofs.Common.{◌≡◌, ◌-◌, [], ◌++◌, OnOk, sym, subst}
use Rattle.kmc_store.specs.Bins.{BinList, empty_bins}
use Rattle.kmc_store.specs.Holds.{HoldsReads}
use Rattle.kmc_stage_one.specs.Fed.{IsFedBy}
use Rattle.kmc_stage_one.specs.Rounds.{HoldsPieces}
use Rattle.kmc_base.specs.Lemmas.PassedOn.{passed_on}
use Rattle.kmc_slices.proofs.round.next_bins.Goals as goal

pub returns-in_err-more-clause-cause : goal.returns-in_err-more-clause-cause
returns-in_err-more-clause-cause g c = λ format text taken s.
    let to = c.from_residual-in_err-more in let round = c.in_ok-round.round in
    let old = c.args.reader.now in let new = c.feed_round-stored.new.reader in
    let fed = c.feed_round-stored.ensures.fed (c.args.dealing.now.settings.shape.k - 1) format text (taken ++ round)
    (c.in_ok-round.ensures.stands format text taken s) in
    passed_on _ to.result c.in_err-more.field-0.0 to.ensures.1 (record {
      round = round;
      fed = subst (λ r. IsFedBy (c.args.dealing.now.settings.shape.k - 1) format (g.R.Read.remaining old.inner) (g.R.Read.remaining new.inner)
          old.reads new.reads text (taken ++ round) c.feed_round-stored.new.feeder r) c.in_err-more.was fed;
    })

pub returns-clause-round : goal.returns-clause-round
returns-clause-round g c = λ format text taken s.
    let dealing = c.args.dealing.now in let shape = dealing.settings.shape in let round = c.in_ok-round.round in
    let old = c.args.reader.now in let new = c.feed_round-stored.new.reader in
    let empty : c.in_ok-bins.bins ≡ empty_bins shape =
    subst (λ t. c.in_ok-bins.bins ≡ empty_bins t) c.requires.shape c.in_ok-bins.ensures in
    let none = subst (λ (b : BinList). HoldsReads shape [] b.bodies) (sym empty) (c.empty_bins_hold_no_reads.ensures shape) in
    let fed = c.feed_round-stored.ensures.fed (dealing.settings.shape.k - 1) format text (taken ++ round)
    (c.in_ok-round.ensures.stands format text taken s) in
    record {
      round = round;
      holds = subst (λ o. OnOk o (HoldsPieces shape dealing.limit round c.feed_round-stored.new.bins.bodies)) c.in_ok-stored.was
          (c.feed_round-stored.ensures.holds [] none);
      fed = subst (λ r. IsFedBy (dealing.settings.shape.k - 1) format (g.R.Read.remaining old.inner) (g.R.Read.remaining new.inner)
          old.reads new.reads text (taken ++ round) c.feed_round-stored.new.feeder r) c.in_ok-more.was fed;
    }
