use Rattle.std.proofs.Common.{◌≡◌, ◌^◌}
use Rattle.kmc_split.proofs.rolling.weight.Given as goal

abbrev pub invariant-loop-i : goal.invariant-loop-i
invariant-loop-i l = l.power ≡ 4 ^ l._i
