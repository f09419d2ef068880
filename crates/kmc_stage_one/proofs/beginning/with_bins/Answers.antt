use Rattle.std.proofs.Common.{[], ◌∷◌, ◌++◌, List, sym, ap, ◌∙◌, append_assoc, arith}
use Rattle.std.proofs.lemmas.Grind.{common_steps}
use Rattle.std.specs.Vec.Iter.{into_iter_items}
use Rattle.kmc_record.specs.Parts.{Parcel}
use Rattle.kmc_partqueue.specs.Seats.{ReaderState}
use Rattle.kmc_store.specs.Bins.{BinList, empty_bins}
use Rattle.kmc_stage_one.specs.declared.shard.Shard.{Shard}
use Rattle.kmc_stage_one.specs.Shards.{begun}
use Rattle.kmc_stage_one.proofs.Merges.{begun_more, next_more}
use Rattle.kmc_stage_one.proofs.beginning.with_bins.Goals as goal

pub loop-seat-preserved : goal.loop-seat-preserved
loop-seat-preserved c =
    let inv = c.loop-seat.invariant in let seen = c.loop-seat.yielded in let seat = c.in-Some.seat in let bins = c.args.bins in
    record {
      seen = inv.seen ∙ ap (λ (l : List (ReaderState Parcel)). seen ++ l) c.in-Some.ensures.steps.0 ∙ sym
          (append_assoc seen (seat ∷ []) (into_iter_items c.next.new.self));
      made =
          c.in_ok-push.ensures.items
          ∙ ap (λ (l : List Shard). l ++ record { seat = seat; bins = c.replace.result } ∷ []) inv.made
          ∙ ap (λ (b : BinList). begun bins seen ++ record { seat = seat; bins = b } ∷ []) (c.replace.ensures.value ∙ inv.next)
          ∙ sym (begun_more bins seen seat);
      next = c.replace.ensures.after ∙ c.in_ok-empty.ensures ∙ ap empty_bins c.shape-shape.ensures.is ∙ sym (next_more seen seat bins);
    }

pub returns : goal.returns
returns c = grind (arith, common_steps)
