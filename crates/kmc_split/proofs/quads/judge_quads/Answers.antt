use Rattle.std.proofs.Common.{◌≡◌, ℕ, ◌+◌, ◌-◌, ◌^◌, ◌<◌, slice_index, min, ap, ◌∙◌, arith}
use Rattle.kmc_base.specs.Lemmas.Powers.{pow_some}
use Rattle.kmc_split.specs.Candidates.{packed_candidate}
use Rattle.kmc_split.specs.Quads.{lesser_strand}
use Rattle.kmc_split.specs.Lemmas.Lowest.{pow_rises}
use Rattle.kmc_split.specs.Lemmas.Written.{set_more}
use Rattle.kmc_split.proofs.Pairs.{pair_marks_fit}
use Rattle.kmc_split.proofs.Overlaps.{overlap_fits, min_below}
use Rattle.kmc_split.proofs.quads.judge_quads.Goals as goal

pub overflow_cast-top : goal.overflow_cast-top
overflow_cast-top c = omega (arith, c.weight-top.ensures, pow_rises (c.args.m - 4) 4 (omega arith))

pub overflow_cast-marks : goal.overflow_cast-marks
overflow_cast-marks c = omega (arith, c.marks_for-marks.ensures, pair_marks_fit (c.args.m - 1), pow_rises (c.args.m - 1) 7 (omega arith))

pub overflow_cast-none : goal.overflow_cast-none
overflow_cast-none c = omega (arith, c.none_of-none.ensures, pow_some c.args.m, pow_rises c.args.m 8 (omega arith))

pub judge-requires-clause-fits : goal.judge-requires-clause-fits
judge-requires-clause-fits c =
    let m = c.args.m in
    let i = c.loop-i.i in
    let quads = c.args.quads.now in
    let byte : slice_index quads i < 256 = omega (arith, c.type_inv.quads i) in
    let fits = overlap_fits (m - 4) m (slice_index quads i) (slice_index quads (i + (m - 4))) (omega arith) byte in
    let ahead : c.join-ahead.result < 4 ^ m = omega (arith, c.join-ahead.ensures (m - 4) c.weight-top.ensures, fits) in
    omega (arith, c.min.ensures, min_below c.join-ahead.result c.join-back.result (4 ^ m) ahead)

pub loop-i-preserved : goal.loop-i-preserved
loop-i-preserved c =
    let m = c.args.m in
    let d = m - 4 in
    let quads = c.args.quads.now in
    let turned = c.args.turned.now in
    let ahead = c.join-ahead.ensures d c.weight-top.ensures in
    let back = c.join-back.ensures d c.weight-top.ensures in
    let is : c.judge.result ≡ packed_candidate m (lesser_strand d quads turned c.loop-i.i) =
    c.judge.ensures ∙ ap (packed_candidate m) (c.min.ensures ∙ (λ t. min (ahead t) (back t))) in
    set_more (λ (j x : ℕ). x ≡ packed_candidate m (lesser_strand d quads turned j)) c.loop-i.out c.loop-i.i c.judge.result (omega arith) is c.loop-i.invariant
