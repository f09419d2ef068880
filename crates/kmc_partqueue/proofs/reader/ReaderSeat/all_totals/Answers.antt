use Rattle.std.proofs.Common.{ℕ, ◌<◌, take, length-set, sym, ap, ◌∙◌, subst, arith, slice_get, Some, None}
use Rattle.kmc_partqueue.specs.Seats.{AreKeptTotals}
use Rattle.kmc_partqueue.specs.Lemmas.Sums.{get_at}
use Rattle.kmc_partqueue.proofs.Counted.{counts_more, counts_first, not_ended}
use Rattle.kmc_partqueue.proofs.reader.ReaderSeat.all_totals.Goals as goal

pub unreachable-requires : goal.unreachable-requires
unreachable-requires g c =
    let inv = c.self.invariant in let vi = c.self.view_is in let lane : ℕ = c.loop-lane.lane in
    let near : lane < c.args.self.now.writers = subst (λ (z : ℕ). lane < z) (ap (λ v. v.writers) vi) c.loop-lane-test.true in
    let t = c.requires lane near in
    not_ended c.self.inside.totals lane t.0 (let lt = c.loop-lane-test.true in let few = inv.few in let long = inv.long in omega arith) c.in-None.is
    (ap (λ v. slice_get v.totals lane) vi ∙ t.1)

pub loop-lane-preserved : goal.loop-lane-preserved
loop-lane-preserved g c =
    let inv = c.self.invariant in let vi = c.self.view_is in let lane : ℕ = c.loop-lane.lane in
    let li = c.loop-lane.invariant in let lt = c.loop-lane-test.true in let few = inv.few in let long = inv.long in
    let wide = li.0 in (
      length-set c.loop-lane.counts lane c.in-Some.total ∙ li.0,
      counts_more c.args.self.now.totals lane c.in-Some.total c.loop-lane.counts li.1
          (omega arith) (sym (ap (λ v. slice_get v.totals lane) vi) ∙ get_at c.self.inside.totals lane None (omega arith) ∙ ap Some c.in-Some.is),
    )

pub returns : goal.returns
returns g c =
    let inv = c.self.invariant in let vi = c.self.view_is in let li = c.loop-lane.invariant in let few = inv.few in
    let wide = li.0 in let n : ℕ = c.self.inside.writers in let end = c.loop-lane-test.false in
    let is = ap (λ v. v.writers) vi in
    let first = counts_first c.args.self.now.totals n c.loop-lane.lane c.loop-lane.counts li.1 end (omega arith) in
    subst (AreKeptTotals c.args.self.now.writers c.args.self.now.totals) (sym c.new.ensures)
    (subst (λ (z : ℕ). AreKeptTotals z c.args.self.now.totals (take n c.loop-lane.counts)) is first)
