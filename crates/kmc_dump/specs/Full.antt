-- Buffers that hold the texts of ranges.
use Rattle.std.specs.Prelude.{◌≡◌, ℕ, ◌+◌, ◌^◌, ◌<◌, ◌≤◌, List, length, take, slice_index_or}
use Rattle.kmc_lists.specs.Listed.{Listed}
use Rattle.kmc_dump.specs.Ranges.{range_text}
use Rattle.kmc_dump.specs.declared.buffers.Buffer.{Buffer}
use Rattle.kmc_dump.specs.declared.ranges.Ranges.{Ranges}

-- what is filled of a buffer is the text of the range that it names
pub record IsFull {W : Type 0} (line : List ℕ × ℕ → List ℕ) (r : Ranges) (lists : List Listed) (b : Buffer W) : Type 0 where
  pub inside : b.range + 1 < length r.bounds.items
  pub within : b.filled ≤ length b.text.items
  pub text : take b.filled b.text.items ≡ range_text line r.k (2 ^ r.shift) (slice_index_or r.bounds.items b.range 0)
      (slice_index_or r.bounds.items (b.range + 1) 0) lists
