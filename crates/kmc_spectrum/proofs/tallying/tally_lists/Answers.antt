use Rattle.std.proofs.Common.{ℕ, ◌<◌, ◌^◌, List, sym, subst, take, arith}
use Rattle.kmc_lists.specs.Ordered.{joined, packs}
use Rattle.kmc_join.specs.Tally.{seen}
use Rattle.kmc_spectrum.proofs.SeenPairs.{few}
use Rattle.kmc_spectrum.proofs.tallying.tally_lists.Goals as goal

pub put_small-requires-clause-room : goal.put_small-requires-clause-room
put_small-requires-clause-room g c = λ n.
    let i = c.loop-list.invariant in
    let pairs = joined (packs (take c.loop-list.list-index c.args.lists.now)) in
    subst (λ (s : List ℕ). seen s c.loop-list.tally n < 2 ^ 64) (sym c.as_slice.ensures.value)
    (omega (arith, i.counts n, few pairs n, i.many, i.fits))
