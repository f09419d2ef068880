use Rattle.std.proofs.Common.{◌≡◌, ℕ, zero, suc, ◌+◌, ◌≤◌, min, map, slice_index, refl, ap, sym, ◌∙◌, arith, add-one, zero-add}
use Rattle.kmc_split.specs.Minima.{low}
use Rattle.kmc_split.specs.Lemmas.Numbers.{read_is}
use Rattle.kmc_split.proofs.plain.minima.lowest.Goals as goal

module _ (at : ℕ → ℕ) where
  -- one more value at the end
  low_last : (w : ℕ) → 1 ≤ w → low at (w + 1) 0 ≡ min (low at w 0) (at w)
  low_last w some = rw add-one (last w 0 some ∙ ap (λ (j : ℕ). min (low at w 0) (at j)) (zero-add w))
    where
      last : (w i : ℕ) → 1 ≤ w → low at (suc w) i ≡ min (low at w i) (at (i + w))
      last zero i some = absurd (omega arith)
      last (suc zero) i some = refl
      last (suc (suc w)) i some =
          let rest = last (suc w) (i + 1) (omega arith) in
          let place : at (i + 1 + suc w) ≡ at (i + suc (suc w)) = let e : i + 1 + suc w ≡ i + suc (suc w) = omega arith in ap at e in
          omega arith

pub loop-i-preserved : goal.loop-i-preserved
loop-i-preserved g c =
    let f = g.V.Mmer.number in
    let at : ℕ → ℕ = slice_index (map f c.args.values.now) in
    let here = read_is f c.args.values.now c.loop-i.i c.index-values-i.result (omega arith) c.index-values-i.is in
    c.lesser-least.ensures ∙ (λ t. min (c.loop-i.invariant t) (here t)) ∙ sym (low_last at c.loop-i.i (omega arith))
