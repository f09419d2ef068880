use Rattle.std.proofs.Common.{refl, sym, subst, ◌∙◌, arith, inl, inr}
use Rattle.std.proofs.lemmas.List.{length-set}
use Rattle.std.proofs.lemmas.Grind.{common_steps}
use Rattle.kmc_device.specs.Device.{Watched}
use Rattle.kmc_device.specs.Lemmas.Devices.{on_err}
use Rattle.kmc_sum.specs.Sources.{AreReady}
use Rattle.kmc_sum.specs.Lemmas.Advances.{failed_at, failed_after, kept_at}
use Rattle.kmc_sum.proofs.Openings.{all_ready, all_sources, begun_next, fault_opened, reader_opened, reader_lost}
use Rattle.kmc_sum.specs.Lemmas.Causes.{handed_on}
use Rattle.kmc_sum.proofs.opening.open.Goals as goal

pub loop-i-preserved : goal.loop-i-preserved
loop-i-preserved g c =
    let readers = c.loop-i.readers in
    let i = c.loop-i.i in
    let inv = c.loop-i.invariant in
    record {
      many = length-set readers i c.first_head.new.reader ∙ inv.many;
      same = kept_at readers i c.index-readers-i.result c.first_head.new.reader (omega (arith, inv.many, c.loop-i-test.true))
          c.in_ok-head.ensures.kept ∙ inv.same;
      most = c.in_ok-head.ensures.length.1;
      begun = begun_next (λ
          (r : Watched g.row.R.Denot). g.R.Read.remaining r.inner) readers c.index-readers-i.result c.first_head.new.reader _ _ i _ _ _ inv.opened
          c.index-rooms-i.result c.loop-i-test.true
          c.in_ok-head.found c.in_ok-head.ensures.begins inv.begun;
      opened = reader_opened
          (λ (r : Watched g.row.R.Denot). g.R.Read.remaining r.inner) readers c.index-readers-i.result c.first_head.new.reader _ _ i _ _ _
          inv.opened c.index-rooms-i.result c.loop-i-test.true
          c.in_ok-head.found c.first_head.new.room c.in_ok-head.head c.in_ok-head.ensures.length.2 c.in_ok-head.ensures.room
          c.in_ok-head.ensures.length.0 c.in_ok-head.ensures.fits c.in_ok-head.ensures.ok;
    }

pub returns-in_err-head-clause-fault : goal.returns-in_err-head-clause-fault
returns-in_err-head-clause-fault g c = handed_on c.from_residual.result _ _ c.from_residual.ensures.1
    (fault_opened (λ (r : Watched g.row.R.Denot). g.R.Read.remaining r.inner) c.loop-i.readers c.index-readers-i.result c.first_head.new.reader _ _
    _ _ _ _
    c.loop-i.invariant.opened c.index-rooms-i.result c.loop-i-test.true _ _ _ _ c.in_err-head.ensures.source c.in_err-head.ensures.fault
    c.loop-i.invariant.begun (λ is. failed_after _ _ _ _ c.loop-i.invariant.same
    (failed_at c.loop-i.readers c.loop-i.i c.index-readers-i.result c.first_head.new.reader
    (omega (arith, c.loop-i.invariant.many, c.loop-i-test.true))
    _ c.in_err-head.ensures.source (c.in_err-head.ensures.read is))))

pub returns-in_err-head-clause-lost : goal.returns-in_err-head-clause-lost
returns-in_err-head-clause-lost g c = on_err c.from_residual.result _ (λ m.
    reader_lost (λ (r : Watched g.row.R.Denot). g.R.Read.remaining r.inner) c.loop-i.readers c.index-readers-i.result
    c.first_head.new.reader _ _ _ _ _ _ c.loop-i.invariant.opened c.index-rooms-i.result c.loop-i-test.true m
    (c.in_err-head.ensures.lost m))

pub returns-then-k-eq0-clause-ready : goal.returns-then-k-eq0-clause-ready
returns-then-k-eq0-clause-ready g c =
    let inv = c.loop-i.invariant in
    subst (λ n. AreReady 1 n c.loop-i.rooms c.loop-i.heads) (sym inv.many)
    (all_ready _ 1 _ _ _ _ _ _ (omega (arith, c.loop-i-test.false, c.loop-i.auto.i-end)) inv.opened (inl c.if-k-eq0.true))

pub returns-then-k-eq0-clause-sources : goal.returns-then-k-eq0-clause-sources
returns-then-k-eq0-clause-sources g c = all_sources _ 1 _ _ _ _ _ _ (omega
    (arith, c.loop-i-test.false, c.loop-i.auto.i-end)) c.loop-i.invariant.opened (inl c.if-k-eq0.true)

pub returns-else-k-eq0-clause-ready : goal.returns-else-k-eq0-clause-ready
returns-else-k-eq0-clause-ready g c =
    let inv = c.loop-i.invariant in
    subst (λ n. AreReady c.loop-i.k n c.loop-i.rooms c.loop-i.heads) (sym inv.many)
    (all_ready _ c.loop-i.k _ _ _ _ _ _ (omega (arith, c.loop-i-test.false, c.loop-i.auto.i-end)) inv.opened (inr refl))

pub returns-else-k-eq0-clause-sources : goal.returns-else-k-eq0-clause-sources
returns-else-k-eq0-clause-sources g c = all_sources _ c.loop-i.k _ _ _ _ _ _
    (omega (arith, c.loop-i-test.false, c.loop-i.auto.i-end)) c.loop-i.invariant.opened (inr refl)

pub returns-then-k-eq0-clause-kept : goal.returns-then-k-eq0-clause-kept
returns-then-k-eq0-clause-kept g c = c.loop-i.invariant.same

pub returns-else-k-eq0-clause-kept : goal.returns-else-k-eq0-clause-kept
returns-else-k-eq0-clause-kept g c = c.loop-i.invariant.same

pub loop-i-init : goal.loop-i-init
loop-i-init g c = grind (arith, common_steps)
