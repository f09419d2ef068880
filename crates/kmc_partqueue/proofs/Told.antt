-- The history that the gathered seats tell of.
use Rattle.std.proofs.Common.{◌≡◌, ℕ, ◌<◌, ◌++◌, true, List, length, sym, ap, ◌∙◌, subst}
use mathlib.Core.Option.{some}
use lib.ListN.{get_elem?}
use Rattle.std.specs.Prelude.{Some, slice_get}
use Rattle.kmc_partcore.specs.declared.event.Received.{Received}
use Rattle.kmc_partcore.specs.declared.shape.QueueShape.{QueueShape}
use Rattle.kmc_partcore.specs.History.{History, accepted, left, has_completed}
use Rattle.kmc_partcore.specs.State.{state_of}
use Rattle.kmc_partqueue.specs.declared.views.Reading.{Reading}
use Rattle.kmc_partqueue.specs.declared.views.Ending.{Ending}
use Rattle.kmc_partqueue.specs.declared.views.View.{View}
use Rattle.kmc_partqueue.specs.Counts.{Each, total_of, same, Among}
use Rattle.kmc_partqueue.specs.Ends.{SawAllEnds, AreSeenTotals}
use Rattle.kmc_partqueue.specs.Seats.{WriterState, ReaderState, AllEnded, AreKeptTotals, Noted}
use Rattle.kmc_partqueue.specs.Shown.{WriterShows, ReaderShows}
use Rattle.kmc_partqueue.specs.Steps.{was_finished}
use Rattle.kmc_partqueue.specs.Gathered.{Tells, Pairs, WriterPairs}
use Rattle.kmc_partqueue.specs.Laws.{registrations}
use Rattle.kmc_partqueue.specs.Reached.{IsReached}
use Rattle.kmc_partqueue.specs.Told.{times_finished, HistoryOfWriter, HistoryOfReader, IsHistoryOf}
use Rattle.kmc_partqueue.specs.Lemmas.Sums.{each_map, each_both}
use Rattle.kmc_partqueue.proofs.Frame.{St}
use Rattle.kmc_partqueue.proofs.Kept.{rule_of}
use Rattle.kmc_partqueue.proofs.Final.{each_at, pairs_each, writers_each, OfLane, of_lanes, full}
use Rattle.kmc_partqueue.proofs.Finishes.{FinishTold, reached_tells}
use Rattle.kmc_partqueue.proofs.Moving.{steps_law}

-- the seat keeps the totals that its view has seen
module _ (n : ℕ) (ends : List Ending) (totals : List _) (noted : Noted ends totals) where
  seen_kept : AllEnded n totals → SawAllEnds n ends
  seen_kept all w near = let t = all w near in (t.0, noted.kept w t.0 t.1)

  kept_is : (w t : ℕ) → Among record { writer = w; total = t } ends → slice_get totals w ≡ Some (Some t)
  kept_is w t at =
      each_at (λ (e : Ending). slice_get totals e.writer ≡ Some (Some e.total)) ends noted.all at.0 record { writer = w; total = t } at.1

  kept_seen : SawAllEnds n ends → AllEnded n totals
  kept_seen all w near = let t = all w near in (t.0, kept_is w t.0 t.1)

  counts_kept : (counts : List ℕ) → AreSeenTotals n ends counts → AreKeptTotals n totals counts
  counts_kept counts are = (are.0, λ w near. let t = are.1 w near in (t.0, kept_is w t.0 t.1, t.2))

module _ {T : Type 0} (k : QueueShape) (h : History T) where
  abbrev Got : ℕ → List (Received T) → Type 0
  Got r = Each (λ (e : Received T). get_elem? (left e.writer h) e.number ≡ some (r, e.number, e.item))

  reader_told : (b : Reading T) (r : ReaderState T) → Tells b r → ReaderShows (state_of h) b × FinishTold k h b → HistoryOfReader k h r
  reader_told b r is p = let n : ℕ = k.writers in let same_reader = is.number in record {
    got = subst (λ (z : ℕ). Got z r.got) is.number (subst (Got b.number) is.got p.0);
    told = λ all. let t = p.1.told (seen_kept n b.ends r.totals is.noted all) in
        (t.0, counts_kept n b.ends r.totals is.noted t.0 t.1, subst (λ (z : ℕ). Among (was_finished z t.0) h) is.number t.2);
    told_once = λ all. ap (λ (z : ℕ). times_finished z h) (sym is.number) ∙ p.1.once (seen_kept n b.ends r.totals is.noted all);
    never_told = λ few. ap (λ (z : ℕ). times_finished z h) (sym is.number) ∙ p.1.never (λ all. few (kept_seen n b.ends r.totals is.noted all));
  }

pub told : {T : Type 0} (k : QueueShape) (s : St T) (r : IsReached k s) (id : ℕ) (v : View T) (at : get_elem? s.views id ≡ some v)
    (writers : List (WriterState T)) (readers : List (ReaderState T)) (ws : WriterPairs v.writers writers) (bs : Pairs v.readers readers)
    (each_writer : (w : ℕ) → w < k.writers → total_of (λ (x : WriterState T). same x.number w) writers ≡ 1)
    (each_reader : (q : ℕ) → q < k.readers → total_of (λ (x : ReaderState T). same x.number q) readers ≡ 1)
    (last : ReaderState T) (among : Among last readers) (ended : AllEnded k.writers last.totals)
    → (h : History T) × IsHistoryOf k writers readers h
told {T} k s r id v at writers readers ws bs each_writer each_reader last among ended =
    let law = steps_law T k s r.entries r.steps in let h : History T = r.entries ++ registrations k.writers in
    let shows = law.2 in let rule = rule_of k s r in
    let Lane = OfLane k s rule id v at writers readers ws bs each_writer each_reader last among ended in
    let lanes = of_lanes k s rule id v at writers readers ws bs each_writer each_reader last among ended in
    let lane_full = full k s rule id v at writers readers ws bs each_writer each_reader last among ended in
    let IsIn : WriterState T → Type 0 = λ x. (accepted x.number h ≡ x.sent) × (has_completed x.number h ≡ true) in
    let shown = writers_each (WriterShows (state_of h)) IsIn (λ a x t p. (
      ap (λ (n : ℕ). accepted n h) (sym t.number) ∙ sym p.0 ∙ t.sent,
      ap
          (λ (n : ℕ). has_completed n h) (sym t.number) ∙ sym p.1 ∙ t.done,
    )) v.writers writers ws (shows.writers id v at) in (
      h,
      record {
        legal = law.1;
        of_writers = each_map (λ (x : WriterState T). Lane x × IsIn x) (HistoryOfWriter h)
            (λ x p. record {
              put = p.1.0;
              completed = p.1.1;
              all_left = shows.heads x.number p.0.0 ∙ (lane_full x.number p.0.0).1 ∙ ap length
                  (sym p.0.1);
            }) writers (each_both Lane IsIn writers lanes shown);
        of_readers =
            pairs_each (λ (b : Reading T). ReaderShows (state_of h) b × FinishTold k h b) (HistoryOfReader k h) (reader_told k h) v.readers readers bs
            (each_both (ReaderShows (state_of h)) (FinishTold k h) v.readers (shows.readers id v at) (reached_tells k s r id v at));
      },
    )
