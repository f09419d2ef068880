-- How a run tells why its dump was not written.
use Rattle.kmc_dump.specs.declared.write.DumpError.{DumpError}
use Rattle.kmc_dump.specs.declared.write.DumpError.TheVariants.{Memory, Write}
use Rattle.kmc_options.specs.declared.run_error.RunError.{RunError}
use Rattle.kmc_options.specs.declared.run_error.RunError.TheVariants as run

abbrev pub write_error : DumpError → RunError
write_error Memory = run.Memory
write_error Write = run.Write
