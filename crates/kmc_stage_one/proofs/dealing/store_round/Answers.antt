use Rattle.std.proofs.Common.{◌++◌, Bor, List, ℕ, map, sym, ap, subst, ◌∙◌}
use Rattle.std.specs.List.{flat_map}
use Rattle.std.proofs.lemmas.Grind.{flat_map-append}
use Rattle.kmc_base.specs.Pieces.{pieces}
use Rattle.kmc_store.specs.Bins.{BinList}
use Rattle.kmc_store.specs.Holds.{HoldsReads}
use Rattle.kmc_stage_one.proofs.dealing.store_round.Goals as goal

pub returns-clause-holds : goal.returns-clause-holds
returns-clause-holds g c = λ held h.
    let dealing = c.args.dealing.now in let shape = dealing.settings.shape in
    let cut : List (List ℕ) → List (List ℕ) = flat_map (pieces shape.k dealing.limit) in
    let before = subst (λ (b : BinList). HoldsReads shape (cut held) b.bodies) (sym c.replace-before.ensures.value) h in
    subst (λ reads. HoldsReads shape reads c.in_ok-more.more.bodies)
    (ap (λ reads. cut held ++ reads) (ap (map (λ (r : Bor (List ℕ)). r.now)) c.deref.ensures.value ∙ c.in_ok-pieces.ensures
    ∙ ap (λ (k : ℕ). flat_map (pieces k dealing.limit) c.args.round.now) c.k.ensures.is) ∙ sym
    (flat_map-append (pieces shape.k dealing.limit) held c.args.round.now))
    (c.in_ok-more.ensures.holds (cut held) before)
