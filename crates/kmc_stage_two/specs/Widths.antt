-- How many bytes a pair of a list takes.
use Rattle.std.specs.Prelude.{ℕ, ◌^◌, ◌<◌, ◌≤◌}
use Rattle.kmc_lists.specs.declared.bin_lists.SizedLists.{SizedLists}
use Rattle.kmc_lists.specs.declared.bin_lists.SizedLists.TheVariants.{U8, U32, U64}
use Rattle.kmc_lists.specs.declared.bin_lists.BinLists.{BinLists}
use Rattle.kmc_lists.specs.declared.bin_lists.BinLists.TheVariants.{Narrow, Wide}

-- counts take the fewest of 1, 4 and 8 bytes that hold cs
abbrev pub HaveNarrowCounts : {W : Type 0} → ℕ → SizedLists W → Type 0
HaveNarrowCounts cs (U8 v) = cs < 2 ^ 8
HaveNarrowCounts cs (U32 v) = (2 ^ 8 ≤ cs) × (cs < 2 ^ 32)
HaveNarrowCounts cs (U64 v) = 2 ^ 32 ≤ cs

-- and words take 8 bytes up to k = 32, and 16 above
abbrev pub AreNarrow : ℕ → ℕ → BinLists → Type 0
AreNarrow k cs (Narrow lists) = (k ≤ 32) × HaveNarrowCounts cs lists
AreNarrow k cs (Wide lists) = (32 < k) × HaveNarrowCounts cs lists
