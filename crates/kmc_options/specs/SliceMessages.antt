-- What a user is told of words that ask for no cut or for no list.
use Rattle.std.specs.Prelude.{ℕ, List, ◌++◌, codes}
use Rattle.kmc_options.specs.Names.{name_of, usage_of}
use Rattle.kmc_options.specs.declared.program.Program.TheVariants.{KmcCut, KmcList}
use Rattle.kmc_options.specs.declared.slices.cutting.CutRequestError.{CutRequestError}
use Rattle.kmc_options.specs.declared.slices.cutting.CutRequestError.TheVariants as no_cut
use Rattle.kmc_options.specs.declared.slices.listing.ListRequestError.{ListRequestError}
use Rattle.kmc_options.specs.declared.slices.listing.ListRequestError.TheVariants as no_list

abbrev pub text_of_no_cut : CutRequestError → List ℕ
text_of_no_cut no_cut.Usage = usage_of KmcCut
text_of_no_cut (no_cut.OutOfRange s) = codes "kmc_cut: value of -" ++ name_of s ++ codes " is out of range"
text_of_no_cut no_cut.Slices = codes "kmc_cut: value of -slices is out of range"
text_of_no_cut no_cut.Memory = codes "kmc_cut: out of memory"

abbrev pub text_of_no_list : ListRequestError → List ℕ
text_of_no_list no_list.Usage = usage_of KmcList
text_of_no_list (no_list.OutOfRange s) = codes "kmc_list: value of -" ++ name_of s ++ codes " is out of range"
text_of_no_list no_list.Memory = codes "kmc_list: out of memory"
