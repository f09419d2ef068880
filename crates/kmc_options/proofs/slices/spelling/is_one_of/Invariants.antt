use Rattle.std.proofs.Common.{◌≡◌, map, take}
use Rattle.std.specs.List.{list_any}
use Rattle.std.specs.Str.{bytes_eq}
use Rattle.kmc_options.proofs.slices.spelling.is_one_of.Given as goal

-- whether it is one of those so far
abbrev pub invariant-loop-one : goal.invariant-loop-one
invariant-loop-one l = l.found ≡ list_any (bytes_eq l.word) (map (λ a. a.now) (take l.one-index l.all))
