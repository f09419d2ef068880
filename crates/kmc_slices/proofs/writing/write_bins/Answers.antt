use Rattle.std.proofs.Common.{◌≡◌, ℕ, List, length, map, Vec, Global, sym, ap, subst, ◌∙◌}
use Rattle.std.proofs.lemmas.List.{length-map}
use Rattle.kmc_device.specs.Device.{Watched}
use Rattle.kmc_device.specs.Lemmas.Devices.{on_err_then, on_ok_then}
use Rattle.kmc_slice_files.specs.Writes.{AreFramed, AreBegun}
use Rattle.kmc_slices.proofs.Rounds.{rounds_more, round_unended}
use Rattle.kmc_slices.proofs.writing.write_bins.Goals as goal

pub returns-clause-ok : goal.returns-clause-ok
returns-clause-ok g c = λ limit taken round olds before holds.
    let bins = c.args.bins.now in let S = length c.args.writers.now in
    let held = λ (w : Watched g.row.W.Denot). g.W.Write.contents w.inner in
    let mids = map held c.args.writers.now in let news = map held c.write_round.new.writers in
    let items = λ (v : Vec ℕ Global). v.items in
    let wide : length c.bodies-2.result.now ≡ bins.shape.n =
    sym (length-map c.bodies-2.result.now items) ∙ ap length c.bodies-2.ensures.are ∙ c.bodies-2.ensures.kept.wide in
    on_ok_then c.write_round.result _ _ (λ framed.
    rounds_more bins.shape limit S olds taken round bins.bodies bins.words mids news
    c.args.counts.now c.write_round.new.counts before c.bodies-2.ensures.kept holds
    (subst (λ (b : List (List ℕ)). AreFramed bins.shape.n S bins.shape.n b mids news c.args.counts.now c.write_round.new.counts)
    c.bodies-2.ensures.are
    (subst (λ n. AreFramed n S n (map items c.bodies-2.result.now) mids news c.args.counts.now c.write_round.new.counts) wide framed)))
    c.write_round.ensures.ok

pub returns-clause-left : goal.returns-clause-left
returns-clause-left g c = λ limit taken olds before.
    let bins = c.args.bins.now in let S = length c.args.writers.now in
    let held = λ (w : Watched g.row.W.Denot). g.W.Write.contents w.inner in
    let mids = map held c.args.writers.now in let news = map held c.write_round.new.writers in
    let wide : length c.bodies-2.result.now ≡ bins.shape.n =
    sym (length-map c.bodies-2.result.now (λ (v : Vec ℕ Global). v.items)) ∙ ap length c.bodies-2.ensures.are ∙ c.bodies-2.ensures.kept.wide in
    on_err_then c.write_round.result _ _ (λ begun.
    round_unended bins.shape limit S olds taken mids news c.args.counts.now before (subst (λ n. AreBegun n S mids news) wide begun))
    c.write_round.ensures.begun
