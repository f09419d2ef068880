use Rattle.std.proofs.Common.{length, sym, ap, subst, arith}
use Rattle.std.proofs.lemmas.List.{with_items_is}
use Rattle.std.proofs.lemmas.Result.{on_ok_weaker}
use Rattle.kmc_split.specs.Candidates.{AreCandidates}
use Rattle.kmc_split.proofs.Fronts.{own_numbers}
use Rattle.kmc_split.proofs.offering.offer_short.Goals as goal

pub returns-then-m-lt-QUAD-clause-are : goal.returns-then-m-lt-QUAD-clause-are
returns-then-m-lt-QUAD-clause-are c =
    on_ok_weaker c.offer.result (λ h. subst (AreCandidates c.args.m c.args.codes.now) (own_numbers c.offer.new.values.items) h) c.offer.ensures.are

pub returns-clause-room : goal.returns-clause-room
returns-clause-room c =
    let room = c.grow-3.new.room in
    let same = with_items_is room c.offer_by_quads.new.room (omega (arith, room.ok.0, c.offer_by_quads.auto.room, c.deref_mut-3.ensures.len)) in
    omega (arith, ap length same, room.ok.0, c.offer_by_quads.auto.room, c.deref_mut-3.ensures.len, c.in_ok-grow-3.ensures, c.requires.some)

pub returns-clause-are : goal.returns-clause-are
returns-clause-are c =
    let room = c.grow-3.new.room in
    subst (AreCandidates c.args.m c.args.codes.now)
    (sym (with_items_is room c.offer_by_quads.new.room (omega (arith, room.ok.0, c.offer_by_quads.auto.room, c.deref_mut-3.ensures.len))))
    c.offer_by_quads.ensures
