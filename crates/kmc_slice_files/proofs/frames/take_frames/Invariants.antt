use Rattle.std.proofs.Common.{◌≡◌, length, map}
use Rattle.kmc_slice_files.specs.Whole.{TookFrames}
use Rattle.kmc_slice_files.proofs.Wholes.{place}
use Rattle.kmc_slice_files.proofs.frames.take_frames.Given as goal

abbrev pub invariant-loop-frames : goal.invariant-loop-frames
invariant-loop-frames g l = record {
  same : l.reader.failures ≡ l.initial.reader.failures;
  took : TookFrames (length l.initial.bodies) l.slices l.slice (g.R.Read.remaining l.initial.reader.inner) (g.R.Read.remaining l.reader.inner)
      (map (λ v. v.items) l.initial.bodies) (map (λ v. v.items) l.bodies) (place l.frames l.byte);
}
