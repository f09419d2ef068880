use Rattle.std.proofs.Common.{ℕ, map}
use Rattle.std.specs.declared.vec.Vec.{Vec}
use Rattle.std.specs.declared.alloc.Global.{Global}
use Rattle.kmc_slice_files.proofs.Wholes.{held_at_end}
use Rattle.kmc_slice_files.proofs.frames.read_frames.Goals as goal

pub returns-in-Err-clause-held : goal.returns-in-Err-clause-held
returns-in-Err-clause-held g c =
    let items = λ (v : Vec ℕ Global). v.items in
    held_at_end _ _ _ _ _ _ _ (map items c.args.bodies.now) (map items c.take_frames.new.bodies) _ c.in_ok-place.ensures.ok c.in-Err.why
    c.in-Err.ensures.fault
