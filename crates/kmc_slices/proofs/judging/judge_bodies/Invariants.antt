use Rattle.std.proofs.Common.{ℕ, ◌<◌, map}
use Rattle.kmc_record.specs.Bodies.{AreRecordsOfBin}
use Rattle.kmc_store.specs.Bins.{body_at}
use Rattle.kmc_slices.proofs.judging.judge_bodies.Given as goal

-- the bodies so far are records of their bins
abbrev pub invariant-loop-bin : goal.invariant-loop-bin
invariant-loop-bin l = (i : ℕ) → i < l.bin → AreRecordsOfBin i l.shape (body_at (map (λ b. b.items) l.bodies) i)
