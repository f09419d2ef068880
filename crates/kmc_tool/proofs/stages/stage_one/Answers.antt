use Rattle.std.proofs.Common.{◌≡◌, ℕ, List, [], Bor, IfOk, map, sym, subst}
use Rattle.kmc_record.specs.Shapes.{Sizes}
use Rattle.kmc_store.specs.Bins.{BinList, empty_bins}
use Rattle.kmc_store.specs.Holds.{HoldsReads}
use Rattle.kmc_tool.proofs.stages.stage_one.Goals as goal

pub returns-clause-shape : goal.returns-clause-shape
returns-clause-shape g c = subst (λ (s : Sizes). IfOk c.store_reads.result (λ b. b.shape ≡ s)) c.round_settings-settings.ensures.1 c.store_reads.ensures.shape

pub returns-clause-holds : goal.returns-clause-holds
returns-clause-holds g c =
    let shape = c.round_settings-settings.result.shape in
    let none = subst (λ (b : BinList). HoldsReads shape [] b.bodies) (sym c.in_ok-bins.ensures) (c.empty_bins_hold_no_reads.ensures shape) in
    let reads = map (λ (r : Bor (List ℕ)). r.now) c.args.reads.now in
    subst (λ (s : Sizes). IfOk c.store_reads.result (λ b. HoldsReads s reads b.bodies)) c.round_settings-settings.ensures.1 (c.store_reads.ensures.holds [] none)
