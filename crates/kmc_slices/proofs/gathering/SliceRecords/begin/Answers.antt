use Rattle.std.proofs.Common.{◌≡◌, ℕ, List, [], ◌∷◌, length, map, replicate, sym, ap, subst, ◌∙◌}
use Rattle.std.proofs.lemmas.List.{length-map, length-replicate, with_items_is}
use Rattle.kmc_slice_files.specs.Whole.{GaveFrames}
use Rattle.kmc_slices.specs.Gathered.{AreGathered}
use Rattle.kmc_slices.proofs.FilesRead.{gathered_first}
use Rattle.kmc_slices.proofs.gathering.SliceRecords.begin.Goals as goal

pub returns-in-Ok-read_frames-clause-ok : goal.returns-in-Ok-read_frames-clause-ok
returns-in-Ok-read_frames-clause-ok g c =
    let at = c.in-Ok.slicing in
    let before : List (List ℕ) = map (λ v. v.items) c.as_mut_slice.result.now in
    let empty : before ≡ replicate at.shape.n [] =
    ap (map (λ v. v.items)) c.as_mut_slice.ensures.value ∙ c.into_bodies-bodies.ensures.are ∙ ap (λ b. b.bodies) c.in_ok-new.ensures in
    let wide : length before ≡ at.shape.n = ap length empty ∙ length-replicate at.shape.n [] in
    let long : length c.as_mut_slice.result.now ≡ at.shape.n = sym (length-map c.as_mut_slice.result.now (λ v. v.items)) ∙ wide in
    let left = g.R.Read.remaining in
    let mid = left c.read_header.new.reader.inner in
    let new = left c.read_frames.new.reader.inner in
    let after : List (List ℕ) = map (λ v. v.items) c.read_frames.new.bodies in
    let v = c.into_bodies-bodies.result in
    let kept : length after ≡ length before = c.in-Ok-read_frames.ensures.ok.bodies.wide in
    let same : length c.read_frames.new.bodies ≡ v.len =
    sym (length-map c.read_frames.new.bodies (λ b. b.items)) ∙ kept ∙ length-map c.as_mut_slice.result.now (λ b. b.items)
    ∙ ap length c.as_mut_slice.ensures.value ∙ sym v.ok.0 in
    let written = ap (map (λ v. v.items)) (with_items_is v c.read_frames.new.bodies same) in
    subst (λ (bodies : List (List ℕ)). AreGathered ((left c.args.reader.now.inner, new) ∷ []) record { shape = at.shape; slices = at.slices; slice = at.slice; bodies = bodies })
    (sym written)
    (gathered_first at.shape at.slices at.slice (left c.args.reader.now.inner) mid new before after c.in-Ok.ensures.ok.1 empty wide
    (subst (λ n. GaveFrames n at.slices at.slice mid new before after) long c.in-Ok-read_frames.ensures.ok))
