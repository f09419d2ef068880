-- How it is told that the lists of what was counted are not packed.
use Rattle.kmc_packer.specs.declared.error.PackReadsError.{PackReadsError}
use Rattle.kmc_packer.specs.declared.error.PackReadsError.TheVariants as reads
use Rattle.kmc_packer.specs.declared.lists_error.PackListsError.{PackListsError}
use Rattle.kmc_packer.specs.declared.lists_error.PackListsError.TheVariants.{TooGreat, WritePrefix, WriteSuffix, Memory}

-- the same refusal
abbrev pub reads_error : PackListsError → PackReadsError
reads_error TooGreat = reads.TooGreat
reads_error WritePrefix = reads.WritePrefix
reads_error WriteSuffix = reads.WriteSuffix
reads_error Memory = reads.Memory
