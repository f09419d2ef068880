-- The numbers of the refusals.
use Rattle.std.specs.Prelude.{ℕ}
use Rattle.kmc_options.specs.declared.slices.cutting.CutRequestError.{CutRequestError}
use Rattle.kmc_options.specs.declared.slices.cutting.CutRequestError.TheVariants as cut_request_error
use Rattle.kmc_options.specs.declared.slices.listing.ListRequestError.{ListRequestError}
use Rattle.kmc_options.specs.declared.slices.listing.ListRequestError.TheVariants as list_request_error

abbrev pub number_of_cut_request_error : CutRequestError → ℕ
number_of_cut_request_error cut_request_error.Usage = 1
number_of_cut_request_error (cut_request_error.OutOfRange _) = 2
number_of_cut_request_error cut_request_error.Slices = 3
number_of_cut_request_error cut_request_error.Memory = 4

abbrev pub number_of_list_request_error : ListRequestError → ℕ
number_of_list_request_error list_request_error.Usage = 1
number_of_list_request_error (list_request_error.OutOfRange _) = 2
number_of_list_request_error list_request_error.Memory = 3
