use Rattle.std.proofs.Common.{◌+◌, map, ap, sym, ◌∙◌, arith, rules}
use Rattle.std.proofs.lemmas.List.{length-map}
use Rattle.std.proofs.lemmas.Grind.{common_steps}
use Rattle.std.specs.Prelude.{slice_index}
use Rattle.kmc_record.specs.Parts.{capped}
use Rattle.kmc_store.specs.Bins.{BinList}
use Rattle.kmc_store.specs.Lemmas.Places.{bytes_of, grown_with_room}
use Rattle.kmc_store.specs.Lemmas.Filling.{bins_merge, merged_is}
use Rattle.kmc_store.proofs.bins.Bins.merge.Goals as goal

pub invariant_of-self-2 : goal.invariant_of-self-2
invariant_of-self-2 c =
    let vs = c.self.inside.bodies.items in
    let ws = c.other.inside.bodies.items in
    let new = c.append_bodies.new.own.items in
    let grown = grown_with_room vs c.make_room.new.own.items ws new c.make_room.ensures.kept c.append_bodies.ensures.wide c.append_bodies.ensures.each in
    bins_merge c.self.inside.shape c.other.inside.shape (map bytes_of vs) (map bytes_of ws)
    (map bytes_of new) c.self.inside.words.items c.other.inside.words.items c.add_words.new.own.items
    (ap (λ (b : BinList). b.shape) c.other.view_is ∙ c.requires ∙ sym (ap (λ (b : BinList). b.shape) c.self.view_is)) c.self.invariant c.other.invariant
    (length-map new bytes_of ∙ grown.0 ∙ sym (length-map vs bytes_of)) c.add_words.ensures.wide (λ i l. grown.1 i (omega (arith, length-map vs bytes_of)))
    (λ i l. c.add_words.ensures.each i l ∙ ap (λ us. capped (slice_index c.self.inside.words.items i + slice_index us i)) c.deref-2.ensures.value)

pub returns-clause-ok : goal.returns-clause-ok
returns-clause-ok c =
    let vs = c.self.inside.bodies.items in
    let ws = c.other.inside.bodies.items in
    let new = c.append_bodies.new.own.items in
    let grown = grown_with_room vs c.make_room.new.own.items ws new c.make_room.ensures.kept c.append_bodies.ensures.wide c.append_bodies.ensures.each in
    merged_is c.args.self.now c.args.other c.self.inside.shape c.other.inside.shape vs ws new c.self.inside.words.items c.other.inside.words.items c.add_words.new.own.items
    c.self.view_is c.other.view_is grown.0 c.add_words.ensures.wide grown.1
    (λ i l. c.add_words.ensures.each i l ∙ ap (λ us. capped (slice_index c.self.inside.words.items i + slice_index us i)) c.deref-2.ensures.value)

pub make_room-requires : goal.make_room-requires
make_room-requires c = grind (arith, common_steps)

pub append_bodies-requires-clause-same : goal.append_bodies-requires-clause-same
append_bodies-requires-clause-same c = grind (arith, common_steps)

pub invariant_of-self : goal.invariant_of-self
invariant_of-self c = search rules

pub returns-in-Err-clause-err : goal.returns-in-Err-clause-err
returns-in-Err-clause-err c = search rules
