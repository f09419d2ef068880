use Rattle.std.proofs.Common.{◌≡◌, ◌+◌, ◌<◌, ◌≤◌, ◌^◌, ◌-◌, length, map, refl, sym, ap, subst, ◌∙◌, arith, cond, true}
use Rattle.std.proofs.lemmas.List.{length-map}
use Rattle.kmc_base.specs.Lemmas.Powers.{pow_some}
use Rattle.kmc_base.specs.Packed.{unpack}
use Rattle.kmc_device.specs.Device.{Watched, RisesByOne}
use Rattle.kmc_device.specs.Lemmas.Devices.{gathered_out}
use Rattle.kmc_sum.specs.Heads.{rank, head_at}
use Rattle.kmc_sum.specs.Sources.{AreReady}
use Rattle.kmc_sum.specs.State.{IsBegun}
use Rattle.kmc_sum.specs.Lemmas.Advances.{first_inside, first_leaf, first_fits}
use Rattle.kmc_sum.proofs.Answers.{given_up}
use Rattle.kmc_sum.specs.Lemmas.Causes.{fault_since}
use Rattle.kmc_sum.proofs.Merges.{sum_written}
use Rattle.kmc_sum.specs.Lemmas.Counted.{taken_more, too_many}
use Rattle.kmc_sum.specs.Lemmas.Gave.{less_packed}
use Rattle.kmc_sum.specs.Lemmas.Written.{out_front, out_more}
use Rattle.kmc_sum.specs.Lemmas.Taken.{room_of}
use Rattle.kmc_sum.proofs.Steps.{so_same, so_next, so_start, so_like, begun_before, begun_put, ends_before, ends_in_front, ends_after, written}
use Rattle.kmc_sum.proofs.merging.drain.Goals as goal
use Rattle.kmc_sum.proofs.merging.drain.Goals.{then-next-packed, else-next-packed+in-Ok, else-loop-step-test, then-loop-step-test+then-not-heads}

pub advance-requires-clause-inside : goal.advance-requires-clause-inside
advance-requires-clause-inside g c =
    let i = c.loop-step.invariant in
    first_inside c.args.k (length c.loop-step.readers) c.loop-step.rooms c.loop-step.heads i.ready i.tree (omega (arith, i.many, c.requires.some))

pub loop-step-init : goal.loop-step-init
loop-step-init g c = record {
  many = refl;
  same = refl;
  ready = c.requires.ready;
  tree = c.requires.tree;
  fits = pow_some c.args.k;
  kept = refl;
  lines = omega arith;
  behind = λ j low high. omega arith;
  so = λ starts lists are none. so_start c.args.k c.args.limits.now starts _ c.args.rooms.now c.args.heads.now (unpack c.args.k 0) _ _ lists
      c.new-buffer.ensures are none;
  taken = λ starts lists are. record { lists = lists; sources = are; many = omega arith };
}

pub returns-in-Err : goal.returns-in-Err
returns-in-Err g c = λ starts lists are none.
    let i = c.loop-step.invariant in
    let so = i.so starts lists are none in
    record {
      ok = tt;
      sound = tt;
      cause = subst (λ n. RisesByOne n c.put_pair.new.writer.failures) i.kept c.in-Err.ensures.failed;
      begun = (
        c.args.k,
        ends_in_front _ _ c.args.limits.now.in_range.1 _ _ _ _ _ _ _ _ _ _ so _ (length-map c.loop-step.readers _) i.ready _
            (out_front _ _ _ _ _ so.out c.in-Err.ensures.front),
      );
    }

pub returns-in_err-advance : goal.returns-in_err-advance
returns-in_err-advance g c = λ starts lists are none.
    let i = c.loop-step.invariant in
    let k = c.args.k in
    let so = i.so starts lists are none in
    let left = λ (r : Watched g.row.R.Denot). g.R.Read.remaining r.inner in
    let l = c.args.limits.now in
    let nows = map left c.advance.new.readers in
    let gave = c.in_err-advance.ensures.lost starts so.lists so.sources in
    let fault = c.in_err-advance.ensures.fault starts so.lists so.sources in
    given_up _ _ l starts c.args.readers.now _ _ _ c.from_residual.result _ c.from_residual.ensures.1
    (k, c.requires.long, fault_since k starts _ _ _ _ _ _ i.same fault) (
      k,
      elim c.if-next-packed.branch [
        | then-next-packed w ↦
            subst (λ (v : Watched g.row.W.Denot). IsBegun k l starts nows (g.W.Write.contents c.args.writer.now.inner)
            (g.W.Write.contents v.inner)) (sym w.writer-is)
            (begun_before k l l.in_range.1 starts _ _ _ _ c.loop-step.count c.loop-step.lines _ _ _ so nows gave)
        | else-next-packed+in-Ok w ↦
            subst (λ (v : Watched g.row.W.Denot). IsBegun k l starts nows (g.W.Write.contents c.args.writer.now.inner)
            (g.W.Write.contents v.inner)) (sym w.writer-is)
            (begun_put k l l.in_range.1 starts _ _ _ _ c.loop-step.count c.loop-step.lines _ _ _ so nows _ _ gave
            (out_more _ _ _ _ _ _ _ so.out w.in-Ok.ensures.text))
      ],
    )

pub loop-step-preserved : goal.loop-step-preserved
loop-step-preserved g c =
    let i = c.loop-step.invariant in
    let k = c.args.k in
    let l = c.args.limits.now in
    let heads = c.loop-step.heads in
    let top = head_at heads 1 in
    let left = λ (r : Watched g.row.R.Denot). g.R.Read.remaining r.inner in
    let n = length c.loop-step.readers in
    let some : 1 ≤ n = omega (arith, i.many, c.requires.some) in
    let inside = first_inside k n c.loop-step.rooms heads i.ready i.tree some in
    let live : top.live ≡ true = c.if-not-heads.false in
    let rises : rank (head_at heads (n + top.source)) ≡ top.packed = ap rank (first_leaf k n c.loop-step.rooms heads i.ready i.tree some) ∙ ap
    (λ b. cond b top.packed (2 ^ 128)) live in
    let above : c.loop-step.packed ≤ top.packed = omega (arith, rises, i.behind (n + top.source) (omega arith) (omega (arith, inside))) in
    let more = c.in_ok-advance.ensures.behind in
    elim c.if-next-packed.branch [
      | then-next-packed w ↦ record {
        many = c.advance.auto.readers ∙ i.many;
        same = c.in_ok-advance.ensures.kept ∙ i.same;
        ready = c.in_ok-advance.ensures.ready;
        tree = c.in_ok-advance.ensures.tree;
        fits = subst (λ p. p < 4 ^ k) (sym w.packed-is) i.fits;
        kept = ap (λ (v : Watched g.row.W.Denot). v.failures) w.writer-is ∙ i.kept;
        lines = omega (arith, i.lines, w.lines-is);
        behind = λ j low high. omega (
          arith,
          more j (omega (arith, c.advance.auto.readers)) (omega (arith, c.advance.auto.readers)),
          w.packed-is,
          w.if-next-packed.true,
        );
        so = λ starts lists are none.
            let so = i.so starts lists are none in
            so_like k l starts _ _ _ _ _ _ _ _ _ _ _ _ _ _ (ap (unpack k) w.packed-is) w.count-is w.lines-is
            (ap (λ (v : Watched g.row.W.Denot). g.W.Write.contents v.inner) w.writer-is) w.buffer-is
            (so_same k l l.in_range.1 starts _ c.loop-step.rooms heads _ c.loop-step.count c.loop-step.lines _ _ _ so _ c.advance.new.rooms
            c.advance.new.heads _ (omega (arith, inside, length-map c.loop-step.readers left, so.sources.nows_long)) live
            (ap (unpack k) w.if-next-packed.true) w.saturating_add-count.ensures
            (c.in_ok-advance.ensures.sources starts so.lists so.sources));
        taken = λ starts lists are.
            let taken = i.taken starts lists are in
            taken_more k starts _ _ _ _ _ _ _ taken (omega (arith, inside, length-map c.loop-step.readers left, taken.sources.nows_long))
            live (c.in_ok-advance.ensures.sources starts taken.lists taken.sources);
      }
      | else-next-packed+in-Ok w ↦ record {
        many = c.advance.auto.readers ∙ i.many;
        same = c.in_ok-advance.ensures.kept ∙ i.same;
        ready = c.in_ok-advance.ensures.ready;
        tree = c.in_ok-advance.ensures.tree;
        fits = subst (λ p. p < 4 ^ k) (sym w.packed-is) (first_fits k n c.loop-step.rooms heads i.ready i.tree some);
        kept = ap (λ (v : Watched g.row.W.Denot). v.failures) w.writer-is ∙ w.in-Ok.ensures.kept ∙ i.kept;
        lines = omega (arith, i.lines, w.lines-is, w.in-Ok.ensures.lines.0);
        behind = λ j low high. omega (arith, more j (omega (arith, c.advance.auto.readers)) (omega (arith, c.advance.auto.readers)), w.packed-is);
        so = λ starts lists are none.
            let so = i.so starts lists are none in
            so_like k l starts _ _ _ _ _ _ _ _ _ _ _ _ _ _ (ap (unpack k) w.packed-is) w.count-is w.lines-is
            (ap (λ (v : Watched g.row.W.Denot). g.W.Write.contents v.inner) w.writer-is) w.buffer-is
            (so_next k l l.in_range.1 starts _ c.loop-step.rooms heads _ c.loop-step.count c.loop-step.lines _ _ _ so _ c.advance.new.rooms
            c.advance.new.heads _ _ _ (omega (arith, inside, length-map c.loop-step.readers left, so.sources.nows_long)) live
            (less_packed k c.loop-step.packed top.packed i.fits (first_fits k n c.loop-step.rooms heads i.ready i.tree some)
            (omega (arith, above, w.if-next-packed.false))) (omega arith)
            (out_more _ _ _ _ _ _ _ so.out w.in-Ok.ensures.text) (omega (arith, w.in-Ok.ensures.lines.1))
            (c.in_ok-advance.ensures.sources starts so.lists so.sources));
        taken = λ starts lists are.
            let taken = i.taken starts lists are in
            taken_more k starts _ _ _ _ _ _ _ taken (omega (arith, inside, length-map c.loop-step.readers left, taken.sources.nows_long))
            live (c.in_ok-advance.ensures.sources starts taken.lists taken.sources);
      }
    ]

pub returns-then-heads-offset48 : goal.returns-then-heads-offset48
returns-then-heads-offset48 g c = λ starts lists are none.
    let i = c.loop-step.invariant in
    let so = i.so starts lists are none in
    let taken = i.taken starts lists are in
    let left = λ (r : Watched g.row.R.Denot). g.R.Read.remaining r.inner in
    let long : length c.loop-step.rooms ≡ length starts = omega (
      arith,
      i.ready.rooms_long,
      length-map c.loop-step.readers left,
      taken.sources.nows_long,
    ) in
    let most : 2 ^ 64 - 2 ≤ c.loop-step._step = elim c.loop-step-test.branch [
      | else-loop-step-test w ↦ omega (arith, w.loop-step-test.false)
      | then-loop-step-test+then-not-heads w ↦ absurd (cc (w.if-not-heads.true, c.if-heads-offset48.true))
    ] in
    record {
      ok = tt;
      sound = tt;
      cause = (
        c.args.k,
        c.requires.long,
        too_many c.args.k starts _ c.loop-step.rooms c.loop-step.heads c.loop-step._step long most taken,
      );
      begun = (
        c.args.k,
        ends_before _ _ c.args.limits.now.in_range.1 _ _ _ _ _ _ _ _ _ _ so _ (length-map c.loop-step.readers _) i.ready,
      );
    }

pub returns-in-Err-flush_into : goal.returns-in-Err-flush_into
returns-in-Err-flush_into g c = λ starts lists are none.
    let i = c.loop-step.invariant in
    let so = i.so starts lists are none in
    record {
      ok = tt;
      sound = tt;
      cause = subst (λ n. RisesByOne n c.flush_into.new.writer.failures) (c.in-Ok-put_pair.ensures.kept ∙ i.kept) c.in-Err-flush_into.ensures.failed;
      begun = (
        c.args.k,
        ends_after _ _ c.args.limits.now.in_range.1 _ _ _ _ _ _ _ _ _ _ so _ (length-map c.loop-step.readers _) i.ready _
            (out_front _ _ _ _ _ (out_more _ _ _ _ _ _ _ so.out c.in-Ok-put_pair.ensures.text) c.in-Err-flush_into.ensures.front),
      );
    }

pub returns-in-Err-put_pair : goal.returns-in-Err-put_pair
returns-in-Err-put_pair g c = λ starts lists are none.
    let i = c.loop-step.invariant in
    let so = i.so starts lists are none in
    record {
      ok = tt;
      sound = tt;
      cause = subst (λ n. RisesByOne n c.put_pair-2.new.writer.failures) i.kept c.in-Err-put_pair.ensures.failed;
      begun = (
        c.args.k,
        ends_in_front _ _ c.args.limits.now.in_range.1 _ _ _ _ _ _ _ _ _ _ so _ (length-map c.loop-step.readers _) i.ready _
            (out_front _ _ _ _ _ so.out c.in-Err-put_pair.ensures.front),
      );
    }

pub returns-in-Ok-flush_into : goal.returns-in-Ok-flush_into
returns-in-Ok-flush_into g c = λ starts lists are none.
    let i = c.loop-step.invariant in
    let so = i.so starts lists are none in
    let left = λ (r : Watched g.row.R.Denot). g.R.Read.remaining r.inner in
    let nows = map left c.loop-step.readers in
    let long : length starts ≡ length c.loop-step.readers = omega (arith, length-map c.loop-step.readers left, so.sources.nows_long) in
    record {
      ok = sum_written c.args.k c.requires.long c.args.limits.now starts nows _ _ _
          (written c.args.k c.args.limits.now c.args.limits.now.in_range.1 starts nows c.loop-step.rooms c.loop-step.heads _ c.loop-step.count
          c.loop-step.lines _ _ _ so
          (subst (λ n. AreReady c.args.k n c.loop-step.rooms c.loop-step.heads) (sym long) i.ready) i.tree
          (omega (arith, long, i.many, c.requires.some)) c.requires.long.1 c.if-heads-offset48.false
          (room_of c.loop-step.rooms (omega (arith, i.ready.rooms_long, i.many, c.requires.some))) _ _
          (gathered_out _ _ _ _ _ (out_more _ _ _ _ _ _ _ so.out c.in-Ok-put_pair.ensures.text) c.in-Ok-flush_into.ensures.ok)
          (omega (arith, c.in-Ok-put_pair.ensures.lines.1)));
      sound = (i.same, c.in-Ok-flush_into.ensures.kept ∙ c.in-Ok-put_pair.ensures.kept ∙ i.kept);
      cause = tt;
      begun = tt;
    }
