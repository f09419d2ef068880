use Rattle.std.proofs.Common.{◌≡◌, ℕ, List, [], ◌∷◌, ◌++◌, length, map, sym, ap, subst, ◌∙◌}
use Rattle.std.proofs.lemmas.List.{length-map, with_items_is}
use Rattle.kmc_device.specs.Lemmas.Devices.{on_ok_then}
use Rattle.kmc_slice_files.specs.Whole.{GaveFile}
use Rattle.kmc_slices.specs.Gathered.{AreGathered, Records}
use Rattle.kmc_slices.proofs.FilesRead.{gathered_more}
use Rattle.kmc_slices.proofs.gathering.SliceRecords.add.Goals as goal

pub returns-clause-ok : goal.returns-clause-ok
returns-clause-ok g c = λ readings have.
    let at = c.self.inside.slicing in
    let bodies : List (List ℕ) = map (λ v. v.items) c.self.inside.bodies.items in
    let now : Records = record { shape = at.shape; slices = at.slices; slice = at.slice; bodies = bodies } in
    let left = g.R.Read.remaining in
    let old = left c.args.reader.now.inner in
    let new = left c.read_slice.new.reader.inner in
    let after : List (List ℕ) = map (λ v. v.items) c.read_slice.new.bodies in
    let same = ap (map (λ v. v.items)) c.as_mut_slice.ensures.value in
    let v = c.self.inside.bodies in
    on_ok_then c.read_slice.result _ _ (λ gave.
    let more = gathered_more readings now old new after c.self.invariant.wide (subst (AreGathered readings) (sym c.self.view_is) have)
    (subst (λ before. GaveFile at.shape at.slices at.slice old new before after) same gave) in
    let kept : length after ≡ length (map (λ b. b.items) c.as_mut_slice.result.now) = gave.bodies.wide in
    let many : length c.read_slice.new.bodies ≡ v.len =
    sym (length-map c.read_slice.new.bodies (λ b. b.items)) ∙ kept ∙ length-map c.as_mut_slice.result.now (λ b. b.items)
    ∙ ap length c.as_mut_slice.ensures.value ∙ sym v.ok.0 in
    subst (λ (bs : List (List ℕ)). AreGathered (readings ++ (old, new) ∷ [])
    record { shape = at.shape; slices = at.slices; slice = at.slice; bodies = bs })
    (sym (ap (map (λ b. b.items)) (with_items_is v c.read_slice.new.bodies many))) more) c.read_slice.ensures.ok
