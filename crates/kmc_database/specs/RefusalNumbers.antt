-- The numbers of the refusals.
use Rattle.std.specs.Prelude.{ℕ}
use Rattle.kmc_database.specs.declared.error.PackError.{PackError}
use Rattle.kmc_database.specs.declared.error.PackError.TheVariants.{Source, Empty, Prefix, TooGreat, WritePrefix, WriteSuffix, Memory, TooLong}
use Rattle.kmc_database.specs.declared.look_up_error.LookUpError.{LookUpError}
use Rattle.kmc_database.specs.declared.look_up_error.LookUpError.TheVariants as look_up
use Rattle.kmc_database.specs.declared.open_error.OpenError.{OpenError}
use Rattle.kmc_database.specs.declared.open_error.OpenError.TheVariants as open_error
use Rattle.kmc_database.specs.declared.reading.FormFault.{FormFault}
use Rattle.kmc_database.specs.declared.reading.FormFault.TheVariants.{Marker, Newer, Version, Size, Mode, NoLayout}
use Rattle.kmc_database.specs.declared.search_error.SearchError.{SearchError}
use Rattle.kmc_database.specs.declared.search_error.SearchError.TheVariants as search_error
use Rattle.kmc_database.specs.declared.strands.StrandsError.{StrandsError}
use Rattle.kmc_database.specs.declared.strands.StrandsError.TheVariants.{Unlike}
use Rattle.kmc_database.specs.declared.unpack_error.UnpackError.{UnpackError}
use Rattle.kmc_database.specs.declared.unpack_error.UnpackError.TheVariants as unpack

abbrev pub number_of_pack_error : PackError → ℕ
number_of_pack_error (Source _) = 1
number_of_pack_error Empty = 2
number_of_pack_error (Prefix _) = 3
number_of_pack_error (TooGreat _) = 4
number_of_pack_error WritePrefix = 5
number_of_pack_error WriteSuffix = 6
number_of_pack_error Memory = 7
number_of_pack_error TooLong = 8

abbrev pub number_of_form_fault : FormFault → ℕ
number_of_form_fault Marker = 1
number_of_form_fault Newer = 2
number_of_form_fault Version = 3
number_of_form_fault Size = 4
number_of_form_fault Mode = 5
number_of_form_fault NoLayout = 6

abbrev pub number_of_unpack_error : UnpackError → ℕ
number_of_unpack_error (unpack.Form _) = 1
number_of_unpack_error unpack.Length = 2
number_of_unpack_error unpack.PrefixMarker = 3
number_of_unpack_error unpack.SuffixMarker = 4
number_of_unpack_error (unpack.Entry _) = 5
number_of_unpack_error (unpack.Cut _) = 6
number_of_unpack_error (unpack.NotRising _) = 7
number_of_unpack_error (unpack.ZeroCount _) = 8
number_of_unpack_error unpack.SuffixEnd = 9
number_of_unpack_error unpack.Changed = 10
number_of_unpack_error unpack.ReadPrefix = 11
number_of_unpack_error unpack.ReadSuffix = 12
number_of_unpack_error unpack.Write = 13
number_of_unpack_error unpack.Memory = 14

abbrev pub number_of_look_up_error : LookUpError → ℕ
number_of_look_up_error (look_up.Entry _) = 1
number_of_look_up_error look_up.Changed = 2
number_of_look_up_error look_up.ReadPrefix = 3
number_of_look_up_error look_up.ReadSuffix = 4

abbrev pub number_of_open_error : OpenError → ℕ
number_of_open_error (open_error.Form _) = 1
number_of_open_error open_error.PrefixLength = 2
number_of_open_error open_error.Strands = 3
number_of_open_error open_error.PrefixMarker = 4
number_of_open_error open_error.SuffixLength = 5
number_of_open_error open_error.SuffixMarker = 6
number_of_open_error open_error.Changed = 7
number_of_open_error open_error.ReadPrefix = 8
number_of_open_error open_error.ReadSuffix = 9

abbrev pub number_of_search_error : SearchError → ℕ
number_of_search_error (search_error.Open _) = 1
number_of_search_error search_error.OneStrand = 2
number_of_search_error (search_error.Words _) = 3
number_of_search_error search_error.OtherLength = 4
number_of_search_error (search_error.LookUp _) = 5
number_of_search_error search_error.Write = 6

abbrev pub number_of_strands_error : StrandsError → ℕ
number_of_strands_error Unlike = 1
