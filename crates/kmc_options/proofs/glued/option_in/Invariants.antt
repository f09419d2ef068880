-- No option so far has a value in the word, so the search goes on among those that are left.
use Rattle.std.proofs.Common.{◌≡◌, drop}
use Rattle.std.specs.Prelude.{find, is_some}
use Rattle.kmc_options.specs.Glued.{option_in, value_in}
use Rattle.kmc_options.proofs.glued.option_in.Given as goal

abbrev pub invariant-loop-setting : goal.invariant-loop-setting
invariant-loop-setting l = option_in l.word ≡ find (λ s. is_some (value_in s l.word)) (drop l.setting-index l.setting-items)
