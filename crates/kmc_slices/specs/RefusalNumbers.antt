-- The numbers of the refusals.
use Rattle.std.specs.Prelude.{ℕ}
use Rattle.kmc_slices.specs.declared.error.CutError.{CutError}
use Rattle.kmc_slices.specs.declared.error.CutError.TheVariants as cut_error
use Rattle.kmc_slices.specs.declared.bin_fault.JudgeError.{JudgeError}
use Rattle.kmc_slices.specs.declared.bin_fault.JudgeError.TheVariants as judge_error
use Rattle.kmc_slices.specs.declared.listing.ListError.{ListError}
use Rattle.kmc_slices.specs.declared.listing.ListError.TheVariants as list_error
use Rattle.kmc_slices.specs.declared.gathering.GatherError.{GatherError}
use Rattle.kmc_slices.specs.declared.gathering.GatherError.TheVariants as gather_error

abbrev pub number_of_cut_error : CutError → ℕ
number_of_cut_error cut_error.Memory = 1
number_of_cut_error cut_error.Read = 2
number_of_cut_error (cut_error.Write _) = 3
number_of_cut_error (cut_error.Input _) = 4
number_of_cut_error cut_error.TooLong = 5

abbrev pub number_of_judge_error : JudgeError → ℕ
number_of_judge_error (judge_error.Foreign _) = 1
number_of_judge_error judge_error.Memory = 2

abbrev pub number_of_list_error : ListError → ℕ
number_of_list_error (list_error.Foreign _) = 1
number_of_list_error list_error.Memory = 2
number_of_list_error list_error.Write = 3

abbrev pub number_of_gather_error : GatherError → ℕ
number_of_gather_error gather_error.Memory = 1
number_of_gather_error (gather_error.File _) = 2
