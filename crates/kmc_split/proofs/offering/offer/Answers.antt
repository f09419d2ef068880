use Rattle.std.proofs.Common.{List, length, map, subst, sym, ap, arith}
use Rattle.std.proofs.lemmas.List.{with_items_is}
use Rattle.kmc_base.specs.Lemmas.Powers.{pow_some}
use Rattle.kmc_split.specs.Candidates.{AreCandidates}
use Rattle.kmc_split.proofs.offering.offer.Goals as goal

pub of_packed-requires : goal.of_packed-requires
of_packed-requires g c = omega (arith, pow_some g.V.Mmer.most)

pub returns-clause-room : goal.returns-clause-room
returns-clause-room g c =
    let room = c.grow.new.room in
    let same = with_items_is room c.offer_in.new.room (omega (arith, room.ok.0, c.offer_in.auto.room, c.deref_mut.ensures.len)) in
    omega (arith, ap length same, room.ok.0, c.offer_in.auto.room, c.deref_mut.ensures.len, c.in_ok-grow.ensures, c.requires.some)

pub returns-clause-are : goal.returns-clause-are
returns-clause-are g c =
    let room = c.grow.new.room in
    subst (λ (l : List g.row.V.Denot). AreCandidates c.args.m c.args.codes.now (map g.V.Mmer.number l))
    (sym (with_items_is room c.offer_in.new.room (omega (arith, room.ok.0, c.offer_in.auto.room, c.deref_mut.ensures.len))))
    c.offer_in.ensures
