use Rattle.std.proofs.Common.{◌≡◌, ℕ, ◌+◌, ◌-◌, ◌<◌, length, refl, sym, subst, arith}
use Rattle.std.proofs.lemmas.List.Elements.{recursion_from_All}
use Rattle.kmc_base.specs.Words.{window}
use Rattle.kmc_base.specs.Lemmas.Powers.{pow_some}
use Rattle.kmc_base.specs.Lemmas.Rolling.{IsRolling, roll_start, step_at, fits_at, all_ones}
use Rattle.kmc_split.specs.Lemmas.Lowest.{fits_most, pow_rises}
use Rattle.kmc_split.specs.Lemmas.Numbers.{set_one_more}
use Rattle.kmc_split.proofs.Rolled.{Holds, lesser_holds}
use Rattle.kmc_split.proofs.rolling.canonical_values.Goals as goal

pub overflow_sub-back : goal.overflow_sub-back
overflow_sub-back g c = omega (arith, c.weight-top.ensures, pow_some (c.args.m - 1))

pub overflow_mul-back : goal.overflow_mul-back
overflow_mul-back g c = omega (arith, c.weight-top.ensures, fits_most (c.args.m - 1) (omega arith))

pub overflow_add-back : goal.overflow_add-back
overflow_add-back g c = omega (arith, c.weight-top.ensures, fits_most (c.args.m - 1) (omega arith))

pub loop-i-init : goal.loop-i-init
loop-i-init g c =
    let top = c.weight-top.result in
    roll_start c.args.m c.args.codes.now 0 _ refl (all_ones c.args.m top c.requires.some c.weight-top.ensures)

pub behind-back-requires-clause-back : goal.behind-back-requires-clause-back
behind-back-requires-clause-back g c =
    let codes = c.args.codes.now in
    fits_at c.args.m c.requires.some codes c.loop-i.i c.loop-i.forward c.loop-i.back c.weight-top.result
    (recursion_from_All (λ (x : ℕ). x < 4) codes c.requires.codes)
    (omega arith) c.weight-top.ensures c.loop-i.invariant

pub loop-i-preserved : goal.loop-i-preserved
loop-i-preserved g c =
    let codes = c.args.codes.now in
    step_at c.args.m c.requires.some codes c.loop-i.i c.from-code.result c.loop-i.forward c.loop-i.back c.ahead-forward.result c.behind-back.result c.weight-top.result
    (recursion_from_All (λ (x : ℕ). x < 4) codes c.requires.codes)
    (omega arith) c.from-code.ensures c.weight-top.ensures c.ahead-forward.ensures c.behind-back.ensures c.loop-i.invariant

pub behind-back-requires-in-loop-j-clause-back : goal.behind-back-requires-in-loop-j-clause-back
behind-back-requires-in-loop-j-clause-back g c =
    let codes = c.args.codes.now in
    fits_at c.args.m c.requires.some codes (c.loop-j.j + (c.args.m - 1)) c.loop-j.forward c.loop-j.back c.weight-top.result
    (recursion_from_All (λ (x : ℕ). x < 4) codes c.requires.codes)
    (omega arith) c.weight-top.ensures c.loop-j.invariant.0

pub of_packed-requires : goal.of_packed-requires
of_packed-requires g c =
    let codes = c.args.codes.now in
    let m = c.args.m in
    let i = c.loop-j.j + (m - 1) in
    let are_codes = recursion_from_All (λ (x : ℕ). x < 4) codes c.requires.codes in
    let rolled = step_at m c.requires.some codes i c.from-code-in-loop-j.result c.loop-j.forward c.loop-j.back c.ahead-forward-in-loop-j.result c.behind-back-in-loop-j.result c.weight-top.result
    are_codes (omega arith) c.from-code-in-loop-j.ensures c.weight-top.ensures c.ahead-forward-in-loop-j.ensures c.behind-back-in-loop-j.ensures c.loop-j.invariant.0 in
    let here : Holds m (window m codes c.loop-j.j) c.min.result =
    lesser_holds m codes c.loop-j.j (i + 1) c.ahead-forward-in-loop-j.result c.behind-back-in-loop-j.result c.min.result are_codes (omega arith)
    (omega arith) rolled c.min.ensures in
    let up = pow_rises m g.V.Mmer.most c.requires.room in omega (arith, here.fits)

pub loop-j-preserved : goal.loop-j-preserved
loop-j-preserved g c =
    let codes = c.args.codes.now in
    let m = c.args.m in
    let j = c.loop-j.j in
    let i = j + (m - 1) in
    let are_codes = recursion_from_All (λ (x : ℕ). x < 4) codes c.requires.codes in
    let rolled = step_at m c.requires.some codes i c.from-code-in-loop-j.result c.loop-j.forward c.loop-j.back c.ahead-forward-in-loop-j.result c.behind-back-in-loop-j.result c.weight-top.result
    are_codes (omega arith) c.from-code-in-loop-j.ensures c.weight-top.ensures c.ahead-forward-in-loop-j.ensures c.behind-back-in-loop-j.ensures c.loop-j.invariant.0 in
    let here : Holds m (window m codes j) c.min.result =
    lesser_holds m codes j (i + 1) c.ahead-forward-in-loop-j.result c.behind-back-in-loop-j.result c.min.result are_codes (omega arith)
    (omega arith) rolled c.min.ensures in
    let next : i + 1 ≡ j + 1 + (m - 1) = omega arith in
    let inside : j < length c.loop-j.out = omega arith in (
      subst (λ (n : ℕ). IsRolling m codes n c.ahead-forward-in-loop-j.result c.behind-back-in-loop-j.result) next rolled,
      set_one_more g.V.Mmer.number (λ (n x : ℕ). Holds m (window m codes n) x) c.loop-j.out j c.of_packed.result inside
          (subst (Holds m (window m codes j)) (sym c.of_packed.ensures) here) c.loop-j.invariant.1,
    )
