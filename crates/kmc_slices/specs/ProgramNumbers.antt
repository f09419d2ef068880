-- The numbers of the refusals.
use Rattle.std.specs.Prelude.{ℕ}
use Rattle.kmc_slices.specs.declared.programs.cut_fault.CutFault.{CutFault}
use Rattle.kmc_slices.specs.declared.programs.cut_fault.CutFault.TheVariants as cut_fault
use Rattle.kmc_slices.specs.declared.programs.list_fault.ListFault.{ListFault}
use Rattle.kmc_slices.specs.declared.programs.list_fault.ListFault.TheVariants as list_fault

abbrev pub number_of_cut_fault : CutFault → ℕ
number_of_cut_fault (cut_fault.Request _) = 1
number_of_cut_fault (cut_fault.NotMade _) = 2
number_of_cut_fault (cut_fault.Cut _) = 3

abbrev pub number_of_list_fault : ListFault → ℕ
number_of_list_fault (list_fault.Request _) = 1
number_of_list_fault (list_fault.NotOpened _) = 2
number_of_list_fault (list_fault.File _ _) = 3
number_of_list_fault (list_fault.Dump _) = 4
