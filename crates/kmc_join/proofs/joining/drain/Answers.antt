use Rattle.std.proofs.Common.{◌≡◌, ◌+◌, ◌≤◌, ◌^◌, ◌-◌, length, map, refl, ap, subst, ◌∙◌, arith}
use Rattle.std.proofs.lemmas.List.{length-map}
use Rattle.kmc_device.specs.Device.{Watched, RisesByOne}
use Rattle.kmc_device.specs.Lemmas.Devices.{gathered_out}
use Rattle.kmc_sum.specs.Sources.{AreReady}
use Rattle.kmc_sum.specs.Lemmas.Causes.{fault_since}
use Rattle.kmc_sum.specs.Lemmas.Taken.{fronts_of, gave_all, room_of}
use Rattle.kmc_sum.specs.Lemmas.Written.{out_front, out_more}
use Rattle.kmc_join.proofs.Answers.{given_up}
use Rattle.kmc_join.proofs.Steps.{begun_before, begun_front, begun_more, so_more, so_start, too_many, written}
use Rattle.kmc_join.proofs.joining.drain.Goals as goal
use Rattle.kmc_join.proofs.joining.drain.Goals.{else-loop-step-test, then-loop-step-test+then-not-heads}

pub loop-step-init : goal.loop-step-init
loop-step-init g c =
    let left = λ (r : Watched g.row.R.Denot). g.R.Read.remaining r.inner in
    record {
      many = refl;
      same = refl;
      ready = c.requires.ready;
      tree = c.requires.tree;
      kept = refl;
      few = omega arith;
      so = λ starts are. so_start starts (omega (arith, length-map c.args.readers.now left, are.sources.nows_long, c.requires.two))
          c.args.rule c.args.k c.args.limits.now _ c.args.rooms.now c.args.heads.now _ _ c.new-buffer.ensures are;
    }

pub returns-in_err-word : goal.returns-in_err-word
returns-in_err-word g c = λ starts are.
    let i = c.loop-step.invariant in
    let l = c.args.limits.now in
    let so = i.so starts are in
    let gave = c.in_err-word.ensures.lost starts so.lists so.abreast in
    let fault = c.in_err-word.ensures.fault starts so.lists so.abreast in
    given_up _ _ c.args.rule l starts c.args.readers.now _ _ _ c.from_residual.result _ c.from_residual.ensures.1
    (c.args.k, c.requires.long, fault_since c.args.k starts _ _ _ _ _ _ i.same fault)
    (c.args.k, begun_before c.args.k c.args.rule l l.in_range.1 starts _ _ _ _ _ _ _ _ so _ gave)

pub returns-in-Err : goal.returns-in-Err
returns-in-Err g c = λ starts are.
    let i = c.loop-step.invariant in
    let l = c.args.limits.now in
    let so = i.so starts are in
    let left = λ (r : Watched g.row.R.Denot). g.R.Read.remaining r.inner in
    let done = c.in_ok-word.ensures in
    let taken = done.taken starts so.lists so.abreast in
    let long : length c.take_word.new.readers ≡ length starts = omega
    (arith, length-map c.take_word.new.readers left, taken.abreast.sources.nows_long) in
    let gave = fronts_of c.args.k starts _ c.take_word.new.rooms c.take_word.new.heads taken.after (done.ready.rooms_long ∙ long)
    taken.abreast.sources in
    record {
      ok = tt;
      sound = tt;
      cause = subst (λ n. RisesByOne n c.put_pair.new.writer.failures) i.kept c.in-Err.ensures.failed;
      begun = (
        c.args.k,
        begun_more c.args.k c.args.rule l l.in_range.1 starts _ _ _ _ _ _ _ _ so _ _ _ _ taken _ c.number-number.ensures _ gave
            (out_front _ _ _ _ _ so.out c.in-Err.ensures.front),
      );
    }

pub loop-step-preserved : goal.loop-step-preserved
loop-step-preserved g c =
    let i = c.loop-step.invariant in
    let l = c.args.limits.now in
    let done = c.in_ok-word.ensures in
    record {
      many = c.take_word.auto.readers ∙ i.many;
      same = done.kept ∙ i.same;
      ready = done.ready;
      tree = done.tree;
      kept = c.in-Ok.ensures.kept ∙ i.kept;
      few = omega (arith, i.few, c.in-Ok.ensures.lines.0);
      so = λ starts are.
          let so = i.so starts are in
          so_more c.args.k c.args.rule l l.in_range.1 starts _ _ _ _ _ _ _ _ so _ _ _ _ (done.taken starts so.lists so.abreast) _
          c.number-number.ensures _ _ _ (out_more _ _ _ _ _ _ _ so.out c.in-Ok.ensures.text)
          (ap (λ m. c.loop-step.lines + m) c.in-Ok.ensures.lines.1);
    }

pub returns-then-heads-offset48 : goal.returns-then-heads-offset48
returns-then-heads-offset48 g c = λ starts are.
    let i = c.loop-step.invariant in
    let l = c.args.limits.now in
    let so = i.so starts are in
    let left = λ (r : Watched g.row.R.Denot). g.R.Read.remaining r.inner in
    let long : length c.loop-step.readers ≡ length starts = omega (arith, length-map c.loop-step.readers left, so.abreast.sources.nows_long) in
    let gave = fronts_of c.args.k starts _ c.loop-step.rooms c.loop-step.heads so.lists (i.ready.rooms_long ∙ long) so.abreast.sources in
    let most : 2 ^ 64 - 2 ≤ c.loop-step._step = elim c.loop-step-test.branch [
      | else-loop-step-test w ↦ omega (arith, w.loop-step-test.false)
      | then-loop-step-test+then-not-heads w ↦ absurd (cc (w.if-not-heads.true, c.if-heads-offset48.true))
    ] in
    record {
      ok = tt;
      sound = tt;
      cause = (c.args.k, c.requires.long, too_many c.args.k starts _ so.lists c.loop-step._step most so.many gave);
      begun = (c.args.k, begun_before c.args.k c.args.rule l l.in_range.1 starts _ _ _ _ _ _ _ _ so _ gave);
    }

pub returns-in-Err-flush_into : goal.returns-in-Err-flush_into
returns-in-Err-flush_into g c = λ starts are.
    let i = c.loop-step.invariant in
    let l = c.args.limits.now in
    let so = i.so starts are in
    let left = λ (r : Watched g.row.R.Denot). g.R.Read.remaining r.inner in
    let long : length c.loop-step.readers ≡ length starts = omega (arith, length-map c.loop-step.readers left, so.abreast.sources.nows_long) in
    let gave = fronts_of c.args.k starts _ c.loop-step.rooms c.loop-step.heads so.lists (i.ready.rooms_long ∙ long) so.abreast.sources in
    record {
      ok = tt;
      sound = tt;
      cause = subst (λ n. RisesByOne n c.flush_into.new.writer.failures) i.kept c.in-Err-flush_into.ensures.failed;
      begun = (
        c.args.k,
        begun_front c.args.k c.args.rule l l.in_range.1 starts _ _ _ _ _ _ _ _ so _ _ gave
            (out_front _ _ _ _ _ so.out c.in-Err-flush_into.ensures.front),
      );
    }

pub returns-in-Ok-flush_into : goal.returns-in-Ok-flush_into
returns-in-Ok-flush_into g c = λ starts are.
    let i = c.loop-step.invariant in
    let l = c.args.limits.now in
    let so = i.so starts are in
    let left = λ (r : Watched g.row.R.Denot). g.R.Read.remaining r.inner in
    let nows = map left c.loop-step.readers in
    let long : length c.loop-step.readers ≡ length starts = omega (arith, length-map c.loop-step.readers left, so.abreast.sources.nows_long) in
    let some : 1 ≤ length starts = omega (arith, long, i.many, c.requires.two) in
    record {
      ok = written c.args.k c.args.rule l l.in_range.1 starts nows c.loop-step.rooms c.loop-step.heads _ _ _ _ _ so
          (omega (arith, long, i.many, c.requires.two)) c.requires.long
          (gave_all c.args.k starts nows c.loop-step.rooms c.loop-step.heads so.lists so.abreast.sources
          (subst (λ n. AreReady c.args.k n c.loop-step.rooms c.loop-step.heads) long i.ready) i.tree some c.requires.long.1 c.if-heads-offset48.false
          (room_of c.loop-step.rooms (omega (arith, i.ready.rooms_long, i.many, c.requires.two)))) _
          (gathered_out _ _ _ _ _ so.out c.in-Ok-flush_into.ensures.ok);
      sound = (i.same, c.in-Ok-flush_into.ensures.kept ∙ i.kept);
      cause = tt;
      begun = tt;
    }
