use Rattle.std.proofs.Common.{◌≡◌, ℕ, ◌-◌, ◌<◌, length, map, slice_index, ap, ◌∙◌, arith}
use Rattle.kmc_base.specs.Lemmas.Powers.{pow_some}
use Rattle.kmc_split.specs.Candidates.{packed_candidate}
use Rattle.kmc_split.specs.Lemmas.Lowest.{pow_rises}
use Rattle.kmc_split.specs.Lemmas.Numbers.{read_is, set_one_more, set_behind}
use Rattle.kmc_split.proofs.Pairs.{pair_marks_fit}
use Rattle.kmc_split.proofs.marking.mark_forbidden.Goals as goal

pub of_packed-marks-requires : goal.of_packed-marks-requires
of_packed-marks-requires g c =
    omega (arith, c.marks_for.ensures, pair_marks_fit (c.args.m - 1), pow_rises (c.args.m - 1) g.V.Mmer.most (omega (arith, c.requires.room)))

pub of_packed-none-requires : goal.of_packed-none-requires
of_packed-none-requires g c = omega (arith, c.none_of.ensures, pow_some c.args.m, pow_rises c.args.m g.V.Mmer.most c.requires.room)

pub candidate_with-requires-clause-fits : goal.candidate_with-requires-clause-fits
candidate_with-requires-clause-fits g c =
    let f = g.V.Mmer.number in
    let i = c.loop-i.i in
    let inside : i < length c.loop-i.values = omega arith in
    let is : f c.index-values-i.result ≡ slice_index (map f c.args.values.now) i =
    read_is f c.loop-i.values i c.index-values-i.result inside c.index-values-i.is ∙ c.loop-i.invariant.1 i (omega arith) in
    omega (arith, is, c.requires.fit i c.loop-i-test.true)

pub loop-i-preserved : goal.loop-i-preserved
loop-i-preserved g c =
    let f = g.V.Mmer.number in
    let i = c.loop-i.i in
    let inside : i < length c.loop-i.values = omega arith in
    let is : f c.index-values-i.result ≡ slice_index (map f c.args.values.now) i =
    read_is f c.loop-i.values i c.index-values-i.result inside c.index-values-i.is ∙ c.loop-i.invariant.1 i (omega arith) in (
      set_one_more f (λ (j x : ℕ). x ≡ packed_candidate c.args.m (slice_index (map f c.args.values.now) j)) c.loop-i.values i c.candidate_with.result inside
          (c.candidate_with.ensures ∙ ap (packed_candidate c.args.m) is) c.loop-i.invariant.0,
      λ j behind. set_behind f c.loop-i.values i j c.candidate_with.result (omega arith) ∙ c.loop-i.invariant.1 j (omega arith),
    )
