-- Why a slice is not listed.
use Rattle.kmc_dump.specs.declared.write.DumpError.{DumpError}
use Rattle.kmc_dump.specs.declared.write.DumpError.TheVariants.{Memory, Write}
use Rattle.kmc_slices.specs.declared.listing.ListError.{ListError}
use Rattle.kmc_slices.specs.declared.listing.ListError.TheVariants.{Memory as NoMemory, Write as NoWrite}

abbrev pub list_error : DumpError → ListError
list_error Memory = NoMemory
list_error Write = NoWrite
