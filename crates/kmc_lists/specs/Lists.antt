-- The lists of bins, whatever their widths.
use Rattle.std.specs.Prelude.{List}
use Rattle.kmc_lists.specs.Listed.{Listed}
use Rattle.kmc_lists.specs.declared.bin_lists.SizedLists.{SizedLists}
use Rattle.kmc_lists.specs.declared.bin_lists.SizedLists.TheVariants.{U8, U32, U64}
use Rattle.kmc_lists.specs.declared.bin_lists.BinLists.{BinLists}
use Rattle.kmc_lists.specs.declared.bin_lists.BinLists.TheVariants.{Narrow, Wide}

abbrev pub sized_lists : {W : Type 0} → SizedLists W → List Listed
sized_lists (U8 v) = v.items
sized_lists (U32 v) = v.items
sized_lists (U64 v) = v.items

abbrev pub lists_of : BinLists → List Listed
lists_of (Narrow lists) = sized_lists lists
lists_of (Wide lists) = sized_lists lists
