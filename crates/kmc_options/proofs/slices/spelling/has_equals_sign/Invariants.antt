-- whether one of the bytes so far is an equals sign
use Rattle.std.proofs.Common.{◌≡◌, take, nat_eq}
use Rattle.std.specs.List.{list_any}
use Rattle.kmc_options.proofs.slices.spelling.has_equals_sign.Given as goal

abbrev pub invariant-loop-byte : goal.invariant-loop-byte
invariant-loop-byte l = l.found ≡ list_any (nat_eq 61) (take l.byte-index l.word)
