use Rattle.std.proofs.Common.{◌≡◌, ◌≢◌, ◌-◌, ℕ, ◌⊎◌, inl, inr, map, take, slice_index, subst, sym, ◌∙◌, arith}
use Rattle.std.proofs.lemmas.Bool.Decides.{nat_tests}
use Rattle.kmc_split.specs.Rows.{AreRowEnds}
use Rattle.kmc_split.specs.Lemmas.Numbers.{read_is}
use Rattle.kmc_split.proofs.RowEnds.{counted}
use Rattle.kmc_split.proofs.runs.row_ends.Goals as goal
use Rattle.kmc_split.proofs.runs.row_ends.Goals.{then-is_same, else-is_same}

pub loop-i-preserved : goal.loop-i-preserved
loop-i-preserved g c =
    let f = g.V.Mmer.number in
    let at : ℕ → ℕ = slice_index (map f c.args.values.now) in
    let i = c.loop-i.i in
    let more = c.if-is_same.count in
    let here = read_is f c.args.values.now i c.index-values-i-in-loop-i.result (omega arith) c.index-values-i-in-loop-i.is in
    let before = read_is f c.args.values.now (i - 1) c.index-values-i.result (omega arith) c.index-values-i.is in
    let new : ((more ≡ 0) × (at i ≡ at (i - 1))) ⊎ ((more ≡ 1) × (at i ≢ at (i - 1))) =
    elim c.if-is_same.branch [
      | then-is_same w ↦ inl (w.count-is, sym here ∙ c.is_same.ensures.0 w.if-is_same.true ∙ before)
      | else-is_same w ↦ inr (w.count-is, λ e. let t = c.is_same.ensures.1 (here ∙ e ∙ sym before) in grind (arith, nat_tests, t, w.if-is_same.false))
    ] in
    counted at i c.loop-i.count more c.loop-i.ends (omega (arith, c.loop-i.invariant.0)) c.loop-i.invariant.0 new c.loop-i.invariant.1

pub returns-clause-rows : goal.returns-clause-rows
returns-clause-rows g c = subst (λ (n : ℕ). AreRowEnds (slice_index (map g.V.Mmer.number c.args.values.now)) 0 n (take c.loop-i.count c.loop-i.ends)) (omega arith) c.loop-i.invariant.1
