use Rattle.std.proofs.Common.{◌≡◌, ◌^◌, length, set, cond, refl, sym, ap, subst, arith}
use Rattle.std.proofs.lemmas.List.{length-set}
use Rattle.kmc_device.specs.Device.{Watched}
use Rattle.kmc_device.specs.Lemmas.Devices.{on_err}
use Rattle.kmc_sum.specs.Heads.{rank, head_at}
use Rattle.kmc_sum.specs.Sources.{AreReady}
use Rattle.kmc_sum.specs.Lemmas.Advances.{inside_after, settled_after, ready_after, behind_after, failed_at, kept_at, source_was, sources_went_on, source_at_fault, source_lost}
use Rattle.kmc_sum.proofs.Answers.{by_fault}
use Rattle.kmc_sum.specs.Lemmas.Causes.{handed_on}
use Rattle.kmc_sum.proofs.sources.advance.Goals as goal

pub next_head-requires : goal.next_head-requires
next_head-requires g c = c.requires.ready.rooms_are _ _ c.requires.inside

pub mend-requires-clause-inside : goal.mend-requires-clause-inside
mend-requires-clause-inside g c =
    inside_after c.args.k (length c.args.readers.now) c.args.rooms.now c.args.heads.now c.requires.ready c.requires.tree c.requires.some
    c.in_ok-head.head

pub mend-requires-clause-others : goal.mend-requires-clause-others
mend-requires-clause-others g c =
    settled_after c.args.k (length c.args.readers.now) c.args.rooms.now c.args.heads.now c.requires.ready c.requires.tree c.requires.some
    c.in_ok-head.head

pub returns-clause-ready : goal.returns-clause-ready
returns-clause-ready g c =
    subst (λ n. AreReady c.args.k n (set c.args.rooms.now (head_at c.args.heads.now 1).source c.next_head.new.room) c.mend.new.heads)
    (sym (length-set c.args.readers.now (head_at c.args.heads.now 1).source c.next_head.new.reader))
    (ready_after c.args.k (length c.args.readers.now) c.args.rooms.now c.args.heads.now c.requires.ready c.requires.tree c.requires.some
    c.in_ok-head.head c.mend.new.heads c.mend.auto.heads c.mend.ensures.leaves
    c.next_head.new.room c.in_ok-head.ensures.room c.in_ok-head.ensures.behind.0 c.in_ok-head.ensures.behind.2)

pub returns-clause-sources : goal.returns-clause-sources
returns-clause-sources g c = λ starts lists are.
    let left = λ (r : Watched g.row.R.Denot). g.R.Read.remaining r.inner in
    let old = source_was left c.args.readers.now c.index-readers-source.result c.next_head.new.reader _ _ _ c.requires.ready c.requires.tree
    c.requires.some c.index-rooms-source.result starts lists are in
    sources_went_on left c.args.readers.now c.index-readers-source.result c.next_head.new.reader _ _ _ c.requires.ready c.requires.tree
    c.requires.some c.index-rooms-source.result starts lists are c.in_ok-head.head c.mend.new.heads c.mend.auto.heads c.mend.ensures.leaves
    c.next_head.new.room (c.in_ok-head.ensures.ok _ _ _ c.requires.live refl old)

pub returns-clause-behind : goal.returns-clause-behind
returns-clause-behind g c =
    let heads = c.args.heads.now in
    let top : rank (head_at heads 1) ≡ (head_at heads 1).packed = ap (λ b. cond b (head_at heads 1).packed (2 ^ 128)) c.requires.live in
    behind_after c.args.k (length c.args.readers.now) c.args.rooms.now heads c.requires.ready c.requires.tree c.requires.some
    c.in_ok-head.head c.mend.new.heads c.mend.auto.heads c.mend.ensures.leaves (head_at heads 1).packed
    c.in_ok-head.ensures.behind.1 (omega (arith, top))

pub returns-in_err-head-clause-fault : goal.returns-in_err-head-clause-fault
returns-in_err-head-clause-fault g c = handed_on c.from_residual.result _ _ c.from_residual.ensures.1 (λ starts lists are.
    let left = λ (r : Watched g.row.R.Denot). g.R.Read.remaining r.inner in
    let old = source_was left c.args.readers.now c.index-readers-source.result c.next_head.new.reader _ _ _ c.requires.ready c.requires.tree
    c.requires.some c.index-rooms-source.result starts lists are in
    by_fault c.args.k starts _ _ _ _ _ (λ line fault is.
    let at_fault = c.in_err-head.ensures.fault line fault is _ _ _ c.requires.live refl old in
    source_at_fault left c.args.readers.now c.index-readers-source.result c.next_head.new.reader _ _ _ c.requires.ready c.requires.tree
    c.requires.some c.index-rooms-source.result starts lists are _ line fault c.in_err-head.ensures.source at_fault.1 at_fault.0)
    (λ is. failed_at c.args.readers.now (head_at c.args.heads.now 1).source c.index-readers-source.result c.next_head.new.reader c.requires.inside _
    c.in_err-head.ensures.source (c.in_err-head.ensures.read is)))

pub returns-clause-kept : goal.returns-clause-kept
returns-clause-kept g c =
    kept_at c.args.readers.now (head_at c.args.heads.now 1).source c.index-readers-source.result c.next_head.new.reader c.requires.inside
    c.in_ok-head.ensures.kept

pub returns-in_err-head-clause-lost : goal.returns-in_err-head-clause-lost
returns-in_err-head-clause-lost g c = on_err c.from_residual.result _ (λ starts lists are.
    let left = λ (r : Watched g.row.R.Denot). g.R.Read.remaining r.inner in
    let old = source_was left c.args.readers.now c.index-readers-source.result c.next_head.new.reader _ _ _ c.requires.ready c.requires.tree
    c.requires.some c.index-rooms-source.result starts lists are in
    source_lost left c.args.readers.now c.index-readers-source.result c.next_head.new.reader _ _ _ c.requires.ready c.requires.tree
    c.requires.some c.index-rooms-source.result starts lists are (c.in_err-head.ensures.lost _ _ _ old))
