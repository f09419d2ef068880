use Rattle.std.proofs.Common.{map}
use Rattle.kmc_count.proofs.Tabled.{HasPushed}
use Rattle.kmc_count.proofs.adding.push_counters.Given as goal

-- the counters so far became items
abbrev pub invariant-loop-place : goal.invariant-loop-place
invariant-loop-place g l = HasPushed l.form.rule.k l.form.bits l.table (map g.W.PackedKmer.number l.initial.out.items) (map g.W.PackedKmer.number l.out.items) l.place
