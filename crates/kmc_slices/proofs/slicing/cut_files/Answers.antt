use Rattle.std.proofs.Common.{◌≡◌, [], OnErr, length, map, inl, inr, refl, sym, subst}
use Rattle.kmc_device.specs.Device.{Watched}
use Rattle.kmc_slices.specs.Rounds.{AreRounds, AreUnended}
use Rattle.kmc_slices.proofs.Rounds.{began_all, header_unended, left_so, rounds_none, wrote_all}
use Rattle.kmc_slices.proofs.slicing.cut_files.Goals as goal

pub returns-in-Err-clause-left : goal.returns-in-Err-clause-left
returns-in-Err-clause-left g c =
    let dealing = c.args.dealing.now in let shape = dealing.settings.shape in let S = length c.args.writers.now in
    let held = λ (w : Watched g.row.W.Denot). g.W.Write.contents w.inner in
    let olds = map held c.args.writers.now in let news = map held c.begin_files.new.writers in
    inl (header_unended shape dealing.limit S olds news
    c.in-Err.ensures.begun)

pub returns-in_err-cut_rounds-clause-left : goal.returns-in_err-cut_rounds-clause-left
returns-in_err-cut_rounds-clause-left g c =
    let dealing = c.args.dealing.now in let shape = dealing.settings.shape in let S = length c.args.writers.now in
    let held = λ (w : Watched g.row.W.Denot). g.W.Write.contents w.inner in
    let olds = map held c.args.writers.now in let mids = map held c.begin_files.new.writers in let news = map held c.cut_rounds.new.writers in
    let none = rounds_none shape dealing.limit S olds mids c.begin_files.new.counts
    c.in-Ok.ensures.ok c.in-Ok.ensures.none in
    let wide : length c.begin_files.new.writers ≡ S = c.begin_files.auto.writers in
    let left = c.cut_rounds.ensures.left olds (subst (λ n. AreRounds shape dealing.limit n [] olds mids c.begin_files.new.counts) (sym wide) none) in
    left_so dealing.settings.format shape dealing.limit S _ _ olds news c.cut_rounds.result c.in_err-cut_rounds.field-0.0 c.from_residual.result
    c.in_err-cut_rounds.was c.from_residual.ensures.1 (subst (λ n. OnErr c.cut_rounds.result (AreUnended shape n olds news)) wide left)

pub returns-in-Ok-end_files-clause-ok : goal.returns-in-Ok-end_files-clause-ok
returns-in-Ok-end_files-clause-ok g c =
    wrote_all c.merged_bins_hold_both.ensures c.empty_bins_hold_no_reads.ensures _ _ _ _ (length c.args.writers.now) _ _ _ _
    (map (λ (w : Watched g.row.W.Denot). g.W.Write.contents w.inner) c.args.writers.now) _ _ _ _ c.in_ok-cut_rounds.ensures.ok
    c.args.dealing.now.settings.bounds c.requires.few refl c.begin_files.auto.writers c.cut_rounds.auto.writers
    c.in-Ok.ensures.ok c.in-Ok.ensures.none _ c.in-Ok-end_files.ensures.ok

pub returns-in-Err-end_files-clause-left : goal.returns-in-Err-end_files-clause-left
returns-in-Err-end_files-clause-left g c = inr
    (began_all c.merged_bins_hold_both.ensures c.empty_bins_hold_no_reads.ensures _ _ _ _ (length c.args.writers.now) _ _ _ _
    (map (λ (w : Watched g.row.W.Denot). g.W.Write.contents w.inner) c.args.writers.now) _ _ _ _ c.in_ok-cut_rounds.ensures.ok
    c.args.dealing.now.settings.bounds c.requires.few refl c.begin_files.auto.writers c.cut_rounds.auto.writers
    c.in-Ok.ensures.ok c.in-Ok.ensures.none _ c.in-Err-end_files.ensures.begun)
