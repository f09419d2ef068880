use Rattle.std.proofs.Common.{◌≡◌}
use Rattle.try_hostile.proofs.growths.words.push_pairs.Given as goal

abbrev pub invariant-loop-word : goal.invariant-loop-word
invariant-loop-word g l = l.list.k ≡ 4
