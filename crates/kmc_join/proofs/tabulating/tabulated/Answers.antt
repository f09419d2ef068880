use Rattle.std.proofs.Common.{◌≡◌, ◌≤◌, ◌^◌, ◌-◌, length, map, subst, ◌∙◌, arith, refl}
use Rattle.std.proofs.lemmas.List.{length-map}
use Rattle.kmc_device.specs.Device.{Watched}
use Rattle.kmc_sum.specs.Sources.{AreReady}
use Rattle.kmc_sum.specs.Lemmas.Causes.{fault_since, handed_on}
use Rattle.kmc_sum.specs.Lemmas.Taken.{fronts_of, gave_all, room_of}
use Rattle.kmc_join.specs.Rows.{CountsOneMore}
use Rattle.kmc_join.specs.Table.{counts_cmp}
use Rattle.kmc_join.proofs.Numbering.{few_more, no_tally, none_seen}
use Rattle.kmc_join.proofs.Steps.{too_many}
use Rattle.kmc_join.proofs.Tabulations.{tabulated_next, tabulated_start, whole_table}
use Rattle.kmc_join.proofs.tabulating.tabulated.Goals as goal
use Rattle.kmc_join.proofs.tabulating.tabulated.Goals.{else-loop-step-test, then-loop-step-test+then-not-heads}

pub loop-step-init : goal.loop-step-init
loop-step-init g c =
    let left = λ (r : Watched g.row.R.Denot). g.R.Read.remaining r.inner in
    record {
      many = refl;
      same = refl;
      ready = c.requires.ready;
      tree = c.requires.tree;
      sound = no_tally counts_cmp c.new-tally.result c.new-tally.ensures.empty;
      few = λ n. omega (arith, none_seen counts_cmp c.new-tally.result c.new-tally.ensures.empty n);
      so = λ starts are. tabulated_start c.args.k c.args.cap starts _ _ _ c.new-tally.result
          (omega (arith, length-map c.args.readers.now left, are.sources.nows_long, c.requires.two)) c.new-tally.ensures.empty are;
    }

pub returns-in_err-word-clause-cause : goal.returns-in_err-word-clause-cause
returns-in_err-word-clause-cause g c =
    let i = c.loop-step.invariant in
    handed_on c.from_residual.result _ _ c.from_residual.ensures.1 (λ starts are.
    let so = i.so starts are in
    (c.args.k, c.requires.long, fault_since c.args.k starts _ _ _ _ _ _ i.same (c.in_err-word.ensures.fault starts so.lists so.abreast)))

pub loop-step-preserved : goal.loop-step-preserved
loop-step-preserved g c =
    let i = c.loop-step.invariant in
    let done = c.in_ok-word.ensures in
    record {
      many = c.take_word.auto.readers ∙ i.many;
      same = done.kept ∙ i.same;
      ready = done.ready;
      tree = done.tree;
      sound = c.in-Ok.ensures.sound;
      few = few_more counts_cmp c.loop-step.tally c.count_key.new.tally _ c.loop-step._step c.in-Ok.ensures i.few;
      so = λ starts are.
          let so = i.so starts are in
          tabulated_next c.args.k c.args.cap starts _ _ _ _ _ _ c.loop-step._step c.loop-step.tally c.count_key.new.tally _ so
          (done.taken starts so.lists so.abreast)
          (subst (CountsOneMore counts_cmp c.loop-step.tally c.count_key.new.tally) c.capped-counts.ensures c.in-Ok.ensures);
    }

pub returns-then-heads-offset48-clause-cause : goal.returns-then-heads-offset48-clause-cause
returns-then-heads-offset48-clause-cause g c = λ starts are.
    let i = c.loop-step.invariant in
    let so = i.so starts are in
    let left = λ (r : Watched g.row.R.Denot). g.R.Read.remaining r.inner in
    let long : length c.loop-step.readers ≡ length starts = omega (arith, length-map c.loop-step.readers left, so.abreast.sources.nows_long) in
    let most : 2 ^ 64 - 2 ≤ c.loop-step._step = elim c.loop-step-test.branch [
      | else-loop-step-test w ↦ omega (arith, w.loop-step-test.false)
      | then-loop-step-test+then-not-heads w ↦ absurd (cc (w.if-not-heads.true, c.if-heads-offset48.true))
    ] in (
      c.args.k,
      c.requires.long,
      too_many c.args.k starts _ so.lists c.loop-step._step most so.many
          (fronts_of c.args.k starts _ c.loop-step.rooms c.loop-step.heads so.lists (i.ready.rooms_long ∙ long) so.abreast.sources),
    )

pub returns-clause-whole : goal.returns-clause-whole
returns-clause-whole g c = λ starts are.
    let i = c.loop-step.invariant in
    let k = c.args.k in
    let so = i.so starts are in
    let left = λ (r : Watched g.row.R.Denot). g.R.Read.remaining r.inner in
    let nows = map left c.loop-step.readers in
    let long : length c.loop-step.readers ≡ length starts = omega (arith, length-map c.loop-step.readers left, so.abreast.sources.nows_long) in
    let two : length starts ≡ 2 = omega (arith, long, i.many, c.requires.two) in
    let some : 1 ≤ length starts = omega (arith, two) in
    whole_table k c.args.cap starts nows c.loop-step.rooms c.loop-step.heads c.loop-step._step c.loop-step.tally c.requires.long two so
    (gave_all k starts nows c.loop-step.rooms c.loop-step.heads so.lists so.abreast.sources
    (subst (λ m. AreReady k m c.loop-step.rooms c.loop-step.heads) long i.ready) i.tree some c.requires.long.1 c.if-heads-offset48.false
    (room_of c.loop-step.rooms (omega (arith, i.ready.rooms_long, i.many, c.requires.two))))
