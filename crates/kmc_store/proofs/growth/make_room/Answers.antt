use Rattle.std.proofs.Common.{◌≡◌, ◌<◌, OnErr, length, get_or, ap, sym, subst, ◌∙◌, arith, le_refl}
use Rattle.std.proofs.lemmas.List.{length-set}
use Rattle.std.proofs.lemmas.Result.{err_from_is_err_and}
use Rattle.kmc_store.specs.Lemmas.Places.{Bytes, set_keeps, left_more, room_more}
use Rattle.kmc_store.specs.Growing.{HasRoomForBodies, HaveRoom}
use Rattle.kmc_store.proofs.growth.make_room.Goals as goal

pub returns-in_err-make_room_for-clause-kept : goal.returns-in_err-make_room_for-clause-kept
returns-in_err-make_room_for-clause-kept c =
    set_keeps c.loop-i.own.items c.loop-i.i c.index_mut.result.now c.make_room_for.new.own c.index_mut.ensures.value c.make_room_for.ensures.kept
    ∙ c.loop-i.invariant.kept

pub loop-i-preserved : goal.loop-i-preserved
loop-i-preserved c =
    let own = c.loop-i.own.items in
    let i = c.loop-i.i in
    let v = c.make_room_for.new.own in
    record {
      wide = length-set own i v ∙ c.loop-i.invariant.wide;
      kept = set_keeps own i c.index_mut.result.now v c.index_mut.ensures.value c.make_room_for.ensures.kept ∙ c.loop-i.invariant.kept;
      room = room_more own c.args.more.now i v c.index-more-i.result _
          (omega (arith, c.loop-i.invariant.wide, c.loop-i-test.true)) c.loop-i-test.true c.index-more-i.is (ap length c.deref.ensures.value)
          c.in_ok-make_room_for.ensures.ok c.loop-i.invariant.room;
      left = left_more own c.args.own.now.items i v c.loop-i.invariant.left;
    }

pub returns-in_err-make_room_for-clause-full : goal.returns-in_err-make_room_for-clause-full
returns-in_err-make_room_for-clause-full c =
    let start = c.args.own.now.items in
    let i = c.loop-i.i in
    let x = c.index_mut.result.now in
    let w = c.index-more-i.result in
    let own_is : x ≡ get_or start i x = c.index_mut.ensures.value ∙ c.loop-i.invariant.left i x (le_refl i) in
    let size_is = ap length c.deref.ensures.value ∙ ap (λ (z : Bytes). length z.items) c.index-more-i.is in
    let inside : i < length start = omega (arith, c.loop-i-test.true, c.requires) in
    let full : ¬ (HaveRoom start c.args.more.now) =
    λ have. c.in_err-make_room_for.ensures.full
    (subst (λ (z : Bytes). HasRoomForBodies z (length c.deref.result.now)) (sym own_is) (subst (HasRoomForBodies (get_or start i x)) (sym size_is) (have i x w inside))) in
    let made = err_from_is_err_and c.from_residual.result c.from_residual.ensures.1 in
    subst (λ r. OnErr r (¬ (HaveRoom start c.args.more.now))) (sym made.1) full
