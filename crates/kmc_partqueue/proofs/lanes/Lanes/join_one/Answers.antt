use Rattle.std.proofs.Common.{ℕ, ◌+◌, ◌*◌, ◌<◌, sym, subst, arith}
use Rattle.kmc_partqueue.proofs.Allowed.{joins_seat}
use Rattle.kmc_partqueue.proofs.lanes.Lanes.join_one.Goals as goal

pub join_seat-requires : goal.join_seat-requires
join_seat-requires g c =
    let me = c.args.self.now in let all : ℕ = me.shape.writers * me.shape.per_writer in
    let some : 0 < me.shape.writers = me.shape.within.0 in
    let words : 0 < me.table.shared.table_id.words =
    subst (λ (z : ℕ). 0 < z) (sym me.sized.0) (let x : 0 < 2 * me.shape.writers + all = omega arith in x) in
    (c.requires.0, c.requires.1, c.requires.2, words, joins_seat me.table.shared.key _ _ _ _)
