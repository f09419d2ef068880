-- No option so far is out of range, so the search goes on among those that are left.
use Rattle.std.proofs.Common.{◌≡◌, drop}
use Rattle.std.specs.Prelude.{find, is_some, not}
use Rattle.clap.specs.Matches.{found_of}
use Rattle.clap.specs.Walk.{rows_of}
use Rattle.kmc_options.specs.CommandLine.{value_of}
use Rattle.kmc_options.specs.Options.{first_out_of_range}
use Rattle.kmc_options.proofs.given.first_out_of_range.Given as goal

abbrev pub invariant-loop-setting : goal.invariant-loop-setting
invariant-loop-setting l =
    let rows = rows_of (found_of l.matches) in
    first_out_of_range rows ≡ find (λ s. not (is_some (value_of rows s))) (drop l.setting-index l.setting-items)
