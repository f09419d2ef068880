use Rattle.std.proofs.Common.{ℕ, ◌+◌, length, map, sym, subst, ◌∙◌, arith}
use Rattle.std.proofs.lemmas.List.{length-map}
use Rattle.std.specs.declared.vec.Vec.{Vec}
use Rattle.std.specs.declared.alloc.Global.{Global}
use Rattle.kmc_slice_files.specs.Whole.{TookFrames}
use Rattle.kmc_slice_files.proofs.Wholes.{place, frame_behind, held_behind}
use Rattle.kmc_slice_files.proofs.frames.take_frames.Goals as goal

pub returns-in-Err-clause-held : goal.returns-in-Err-clause-held
returns-in-Err-clause-held g c =
    let items = λ (v : Vec ℕ Global). v.items in
    held_behind _ _ _ _ _ _ _ _ _ (map items c.args.bodies.now) (map items c.loop-frames.bodies) (map items c.read_frame.new.bodies)
    c.loop-frames.invariant.took c.in-Err.ensures.held

pub loop-frames-preserved : goal.loop-frames-preserved
loop-frames-preserved g c =
    let inv = c.loop-frames.invariant in
    let items = λ (v : Vec ℕ Global). v.items in
    record {
      same = c.in-Ok-Some.ensures.kept ∙ inv.same;
      took =
          subst (λ x. TookFrames (length c.args.bodies.now) c.args.slices c.args.slice (g.R.Read.remaining c.args.reader.now.inner)
          (g.R.Read.remaining c.read_frame.new.reader.inner)
          (map items c.args.bodies.now) (map items c.read_frame.new.bodies) (place (c.loop-frames.frames + 1) x))
          (omega (arith, c.saturating_add-byte.ensures, c.from.ensures))
          (frame_behind (length c.args.bodies.now) (length c.loop-frames.bodies) c.args.slices c.args.slice c.loop-frames.frames c.loop-frames.byte
          c.in-Ok-Some.long _ _ _
          (map items c.args.bodies.now) (map items c.loop-frames.bodies) (map items c.read_frame.new.bodies)
          (sym (length-map c.args.bodies.now items)) (sym (length-map c.loop-frames.bodies items))
          inv.took c.in-Ok-Some.field-0 c.in-Ok-Some.field-0-is c.in-Ok-Some.ensures.ok);
    }
