-- The numbers of the refusals.
use Rattle.std.specs.Prelude.{ℕ}
use Rattle.kmc_packer.specs.declared.error.PackReadsError.{PackReadsError}
use Rattle.kmc_packer.specs.declared.error.PackReadsError.TheVariants.{Prefix, Count, TooGreat, WritePrefix, WriteSuffix, Memory}
use Rattle.kmc_packer.specs.declared.lists_error.PackListsError.{PackListsError}
use Rattle.kmc_packer.specs.declared.lists_error.PackListsError.TheVariants as lists

-- in the order in which they can come
abbrev pub number_of_pack_reads_error : PackReadsError → ℕ
number_of_pack_reads_error (Prefix _) = 1
number_of_pack_reads_error (Count _) = 2
number_of_pack_reads_error TooGreat = 3
number_of_pack_reads_error WritePrefix = 4
number_of_pack_reads_error WriteSuffix = 5
number_of_pack_reads_error Memory = 6

abbrev pub number_of_pack_lists_error : PackListsError → ℕ
number_of_pack_lists_error lists.TooGreat = 1
number_of_pack_lists_error lists.WritePrefix = 2
number_of_pack_lists_error lists.WriteSuffix = 3
number_of_pack_lists_error lists.Memory = 4
