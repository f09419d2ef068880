-- Files that are made.
use Rattle.std.specs.Prelude.{ℕ, ◌<◌}
use Rattle.kmc_slice_files.specs.declared.opening.CreateFault.{CreateFault}
use Rattle.kmc_slice_files.specs.declared.opening.CreateFault.TheVariants.{File, Memory}

-- the file that was not made is one of the slices'
abbrev pub IsCreateFault : ℕ → CreateFault → Type 0
IsCreateFault slices (File s) = s < slices
IsCreateFault slices Memory = Unit {0}
