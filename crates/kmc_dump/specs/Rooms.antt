-- Room for a range.
use Rattle.std.specs.Prelude.{ℕ, ◌*◌, ◌≤◌, vec_capacity}
use Rattle.kmc_dump.specs.declared.buffers.Buffer.{Buffer}

-- the buffer has room for so many pairs, and for as many lines of at most so many bytes
pub record HasRoomForRange {W : Type 0} (most line : ℕ) (b : Buffer W) : Type 0 where
  pub pairs : most ≤ vec_capacity b.pairs
  pub text : most * line ≤ vec_capacity b.text
