use Rattle.std.proofs.Common.{arith, sym, ℕ, ◌+◌, ◌*◌, ◌%◌, ◌<◌, subst, mod-lt}
use Rattle.kmc_partqueue.proofs.Turns.{lane_within}
use Rattle.kmc_partqueue.proofs.lanes.Lanes.place.Goals as goal

pub returns-clause-inside : goal.returns-clause-inside
returns-clause-inside g c =
    let me = c.args.self.now in let n : ℕ = c.args.number in let i : ℕ = n % me.shape.per_writer in
    let slot : ℕ = c.args.lane * me.shape.per_writer + i in let all : ℕ = me.shape.writers * me.shape.per_writer in
    let inside : slot < all = lane_within me.shape.per_writer c.args.lane me.shape.writers i c.requires.0 (mod-lt n me.shape.within.2) in
    subst (λ (z : ℕ). 2 * me.shape.writers + slot < z) (sym me.sized.0) (let x : 2 * me.shape.writers + slot < 2 * me.shape.writers + all = omega arith in x)
