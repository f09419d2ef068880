use Rattle.std.proofs.Common.{◌≡◌, List, [], ◌∷◌, ◌++◌, map, sym, ap, subst, ◌∙◌, append_assoc, length-append, arith}
use Rattle.std.proofs.lemmas.List.{map-append}
use Rattle.std.proofs.lemmas.Grind.{common_steps}
use Rattle.std.specs.Vec.Iter.{into_iter_items}
use Rattle.kmc_record.specs.Parts.{Parcel}
use Rattle.kmc_partqueue.specs.Counts.{Each}
use Rattle.kmc_partqueue.specs.Seats.{ReaderState}
use Rattle.kmc_store.specs.Bins.{BinList}
use Rattle.kmc_store.specs.Bodies.{AreAdded}
use Rattle.kmc_stage_one.specs.declared.shard.Shard.{Shard}
use Rattle.kmc_partqueue.specs.SameSeats.{items_of}
use Rattle.kmc_stage_one.specs.Shards.{AreGrown, all_got}
use Rattle.kmc_stage_one.proofs.Merges.{all_before, next_shape, grown_rest, one_more, before_next}
use Rattle.kmc_stage_one.proofs.merging.merge_shards.Goals as goal

pub loop-shard-preserved : goal.loop-shard-preserved
loop-shard-preserved c =
    let before = c.loop-shard.invariant in let shard = c.in-Some.shard in let shape = c.args.shape in let seen = c.loop-shard.yielded in
    let left = subst (Each (λ (h : Shard). h.bins.shape ≡ shape)) c.in-Some.ensures.steps.0 before.left in
    let all : c.args.shards.items ≡ seen ++ shard ∷ into_iter_items c.next.new.self = before.seen ∙ ap
    (λ (l : List Shard). seen ++ l) c.in-Some.ensures.steps.0 in
    record {
      seen = all ∙ sym (append_assoc seen (shard ∷ []) (into_iter_items c.next.new.self));
      left = left.1;
      shaped = c.in-Ok.ensures.ok.shape ∙ before.shaped;
      seats =
          c.in_ok-push.ensures.items
          ∙ ap (λ (l : List (ReaderState Parcel)). l ++ shard.seat ∷ []) before.seats
          ∙ sym (map-append (λ (h : Shard). h.seat) seen (shard ∷ []));
      added = λ bins shaped grown.
          let rest = grown_rest seen (shard ∷ into_iter_items c.next.new.self) bins (subst (AreGrown bins) all grown) in
          let own = subst (λ s. AreAdded s (before_next seen bins).bodies shard.bins.bodies (items_of shard.seat.got)) (next_shape seen bins) rest.1 in
          let merged = one_more c.merged_parts_are_added.ensures seen shard bins c.loop-shard.bins c.merge.new.self
          (before.added bins shaped grown) own c.in-Ok.ensures.ok in
          subst (λ (b : BinList). AreAdded bins.shape b.bodies c.merge.new.self.bodies (all_got (map (λ (s : Shard). s.seat) (seen ++ shard ∷ []))))
          (sym (all_before (seen ++ shard ∷ []) bins (omega (arith, length-append seen (shard ∷ []))))) merged;
    }

pub loop-shard-init : goal.loop-shard-init
loop-shard-init c = grind (arith, common_steps)

pub returns-clause-seats : goal.returns-clause-seats
returns-clause-seats c = grind (arith, common_steps)
