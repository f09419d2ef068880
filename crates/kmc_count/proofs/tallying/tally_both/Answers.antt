use Rattle.std.proofs.Common.{◌≡◌, ◌+◌, ◌-◌, ◌*◌, ◌^◌, ◌≤◌, length, map, min, sym, ap, ◌∙◌, arith}
use Rattle.std.proofs.lemmas.List.{length-map}
use Rattle.kmc_count.proofs.Walk.{emptied, filled, no_run, walk_begins, walk_ends, walk_on, word_fits}
use Rattle.kmc_count.proofs.tallying.tally_both.Goals as goal

pub loop-word-init : goal.loop-word-init
loop-word-init g c =
    let num = g.W.PackedKmer.number in
    let r = c.requires in
    record {
      takes = r.takes;
      walked = walk_begins c.args.form.rule.k c.args.form.bits c.args.form.bundle c.args.limits.now (g.L.PairList.pairs c.args.pairs.now) (map num c.args.singles.now)
          (map num c.args.bundles.now) r.empty r.sorted r.bundles_sorted r.fit r.bundles_fit;
    }

pub push_kept-requires-clause-fits : goal.push_kept-requires-clause-fits
push_kept-requires-clause-fits g c =
    let num = g.W.PackedKmer.number in
    let few = c.loop-word.few.now in
    let many = c.loop-word.many.now in
    let long : 1 ≤ length (map num few) + length (map num many) =
    omega (arith, length-map many num, filled (length many) (sym c.is_empty.ensures ∙ c.loop-word-test.true)) in
    word_fits c.args.form.rule.k c.args.form.bits (map num few) (map num many) _ long c.first_word-word.ensures c.loop-word.invariant.walked.fit
    c.loop-word.invariant.walked.bundles_fit

pub loop-word-smaller : goal.loop-word-smaller
loop-word-smaller g c =
    let num = g.W.PackedKmer.number in
    let few = c.loop-word.few.now in
    let many = c.loop-word.many.now in
    let k = c.args.form.rule.k in
    let long : 1 ≤ length (map num few) + length (map num many) =
    omega (arith, length-map many num, filled (length many) (sym c.is_empty.ensures ∙ c.loop-word-test.true)) in
    let counted = c.saturating_add-count.ensures ∙ ap (λ t. min (c.take_run-once.result.0 + t) (2 ^ 64 - 1)) c.saturating_mul.ensures in
    let step = walk_on k c.args.form.bits c.args.form.bundle c.args.limits.now _ _ _ (map num few) (map num many) _ _ _ _ _ _ c.requires.bundle long
    c.first_word-word.ensures (c.take_run-once.ensures k) (c.take_run-bundled.ensures k) counted c.in_ok-push_kept.ensures.pairs c.loop-word.invariant.walked in
    omega (
      arith,
      step.2,
      length-map few num,
      length-map many num,
      length-map c.take_run-once.result.1.now num,
      length-map c.take_run-bundled.result.1.now num,
    )

pub loop-word-preserved : goal.loop-word-preserved
loop-word-preserved g c =
    let num = g.W.PackedKmer.number in
    let few = c.loop-word.few.now in
    let many = c.loop-word.many.now in
    let k = c.args.form.rule.k in
    let long : 1 ≤ length (map num few) + length (map num many) =
    omega (arith, length-map many num, filled (length many) (sym c.is_empty.ensures ∙ c.loop-word-test.true)) in
    let counted = c.saturating_add-count.ensures ∙ ap (λ t. min (c.take_run-once.result.0 + t) (2 ^ 64 - 1)) c.saturating_mul.ensures in
    let step = walk_on k c.args.form.bits c.args.form.bundle c.args.limits.now _ _ _ (map num few) (map num many) _ _ _ _ _ _ c.requires.bundle long
    c.first_word-word.ensures (c.take_run-once.ensures k) (c.take_run-bundled.ensures k) counted c.in_ok-push_kept.ensures.pairs c.loop-word.invariant.walked in
    record {
      takes = c.in_ok-push_kept.ensures.takes;
      walked = step.0;
    }

pub loop-few-init : goal.loop-few-init
loop-few-init g c = record {
  takes = c.loop-word.invariant.takes;
  walked = c.loop-word.invariant.walked;
}

pub push_kept-requires-in-loop-few-clause-fits : goal.push_kept-requires-in-loop-few-clause-fits
push_kept-requires-in-loop-few-clause-fits g c =
    let num = g.W.PackedKmer.number in
    let few = c.loop-few.few.now in
    let many = c.loop-word.many.now in
    let long : 1 ≤ length (map num few) + length (map num many) =
    omega (arith, length-map few num, filled (length few) (sym c.is_empty-in-loop-few.ensures ∙ c.loop-few-test.true)) in
    word_fits c.args.form.rule.k c.args.form.bits (map num few) (map num many) _ long c.first_word-word-in-loop-few.ensures c.loop-few.invariant.walked.fit
    c.loop-few.invariant.walked.bundles_fit

pub loop-few-smaller : goal.loop-few-smaller
loop-few-smaller g c =
    let num = g.W.PackedKmer.number in
    let few = c.loop-few.few.now in
    let many = c.loop-word.many.now in
    let k = c.args.form.rule.k in
    let long : 1 ≤ length (map num few) + length (map num many) =
    omega (arith, length-map few num, filled (length few) (sym c.is_empty-in-loop-few.ensures ∙ c.loop-few-test.true)) in
    let empty : length (map num many) ≡ 0 = length-map many num ∙ emptied (length many) (sym c.is_empty.ensures ∙ c.loop-word-test.false) in
    let run = c.take_run-count.ensures k in
    let counted : c.take_run-count.result.0 ≡ min (c.take_run-count.result.0 + min (0 * c.args.form.bundle) (2 ^ 64 - 1)) (2 ^ 64 - 1) =
    omega (arith, run.stops) in
    let step = walk_on k c.args.form.bits c.args.form.bundle c.args.limits.now _ _ _ (map num few) (map num many) _ _ _ _ _ _ c.requires.bundle long
    c.first_word-word-in-loop-few.ensures run (no_run k c.args.form.bits (map num many) _ empty) counted c.in_ok-push_kept-2.ensures.pairs
    c.loop-few.invariant.walked in
    omega (arith, step.2, length-map few num, length-map c.take_run-count.result.1.now num)

pub loop-few-preserved : goal.loop-few-preserved
loop-few-preserved g c =
    let num = g.W.PackedKmer.number in
    let few = c.loop-few.few.now in
    let many = c.loop-word.many.now in
    let k = c.args.form.rule.k in
    let long : 1 ≤ length (map num few) + length (map num many) =
    omega (arith, length-map few num, filled (length few) (sym c.is_empty-in-loop-few.ensures ∙ c.loop-few-test.true)) in
    let empty : length (map num many) ≡ 0 = length-map many num ∙ emptied (length many) (sym c.is_empty.ensures ∙ c.loop-word-test.false) in
    let run = c.take_run-count.ensures k in
    let counted : c.take_run-count.result.0 ≡ min (c.take_run-count.result.0 + min (0 * c.args.form.bundle) (2 ^ 64 - 1)) (2 ^ 64 - 1) =
    omega (arith, run.stops) in
    let step = walk_on k c.args.form.bits c.args.form.bundle c.args.limits.now _ _ _ (map num few) (map num many) _ _ _ _ _ _ c.requires.bundle long
    c.first_word-word-in-loop-few.ensures run (no_run k c.args.form.bits (map num many) _ empty) counted c.in_ok-push_kept-2.ensures.pairs
    c.loop-few.invariant.walked in
    record {
      takes = c.in_ok-push_kept-2.ensures.takes;
      walked = step.0;
    }

pub returns-clause-dump : goal.returns-clause-dump
returns-clause-dump g c =
    let num = g.W.PackedKmer.number in
    let few = c.loop-few.few.now in
    let many = c.loop-word.many.now in
    walk_ends c.args.form.rule.k c.args.form.bits c.args.form.bundle c.args.limits.now _ _ (map num few) (map num many)
    (length-map few num ∙ emptied (length few) (sym c.is_empty-in-loop-few.ensures ∙ c.loop-few-test.false))
    (length-map many num ∙ emptied (length many) (sym c.is_empty.ensures ∙ c.loop-word-test.false))
    c.loop-few.invariant.walked
