use Rattle.std.proofs.Common.{◌≡◌, ℕ, ◌+◌, ◌%◌, ◌<◌, ◌≤◌, ◌⊎◌, inl, inr, length, map, slice_index, ap, sym, ◌∙◌, arith}
use Rattle.kmc_split.specs.Minima.{low}
use Rattle.kmc_split.specs.Candidates.{unmarked}
use Rattle.kmc_split.specs.Lemmas.Lowest.{low_is}
use Rattle.kmc_split.proofs.MinimaOfParts.{front_low}
use Rattle.kmc_split.proofs.belonging.minima_in_bin.Goals as goal
use Rattle.kmc_split.proofs.belonging.minima_in_bin.Goals.{else-not-is_same-via-then-not-is_same+else-not-is_in_bin-2, else-not-is_same-via-else-not-is_same}

-- the least of some values fits where they do
low_fits : (xs : ℕ → ℕ) (top n w i r : ℕ) → 1 ≤ w → i + w ≤ n → ((j : ℕ) → j < n → xs j < top) → r ≡ low xs w i → r < top
low_fits xs top n w i r some inside fit e =
    let found = low_is xs w i some in
    omega (arith, found.3, fit found.0 (omega (arith, found.2)))

pub is_in_bin-requires-clause-fits : goal.is_in_bin-requires-clause-fits
is_in_bin-requires-clause-fits g c =
    let f = g.V.Mmer.number in
    let values = c.args.values.now in
    low_fits (slice_index (map f values)) _ (length values) c.args.width 0 _ c.requires.some (omega (arith, c.requires.within)) c.requires.fit
    (front_low f values c.args.width _ c.requires.some c.requires.within c.lowest-least.ensures)

pub is_in_bin-requires-then-not-is_same-clause-fits : goal.is_in_bin-requires-then-not-is_same-clause-fits
is_in_bin-requires-then-not-is_same-clause-fits g c =
    let f = g.V.Mmer.number in
    let values = c.args.values.now in
    low_fits (slice_index (map f values)) _ (length values) c.args.width (c.loop-i.i + 1) _ c.requires.some (omega arith) c.requires.fit c.next_low-next.ensures

pub returns-then-not-is_in_bin : goal.returns-then-not-is_in_bin
returns-then-not-is_in_bin g c =
    let here = front_low g.V.Mmer.number c.args.values.now c.args.width _ c.requires.some c.requires.within c.lowest-least.ensures in (
      (λ h. absurd (cc)),
      (λ all. sym c.if-not-is_in_bin.true ∙ c.is_in_bin.ensures.1 (ap (λ (s : ℕ). unmarked c.args.m s % c.args.n) here ∙ all 0
          (omega (arith, c.requires.within)))),
    )

pub loop-i-init : goal.loop-i-init
loop-i-init g c =
    let f = g.V.Mmer.number in
    let values = c.args.values.now in
    let at : ℕ → ℕ = slice_index (map f values) in
    let here = front_low f values c.args.width _ c.requires.some c.requires.within c.lowest-least.ensures in (
      here,
      λ j least.
          let first : j ≡ 0 = omega arith in
          ap (λ i. unmarked c.args.m (low at c.args.width i) % c.args.n) first ∙ ap (λ (s : ℕ). unmarked c.args.m s % c.args.n) (sym here)
          ∙ c.is_in_bin.ensures.0 c.if-not-is_in_bin.false,
    )

pub loop-i-preserved : goal.loop-i-preserved
loop-i-preserved g c =
    let at : ℕ → ℕ = slice_index (map g.V.Mmer.number c.args.values.now) in
    let i = c.loop-i.i in
    let w = c.args.width in
    let next = c.next_low-next.ensures in
    let there : unmarked c.args.m (low at w (i + 1)) % c.args.n ≡ c.args.bin =
    elim c.else-not-is_same.branch [
      | else-not-is_same-via-then-not-is_same+else-not-is_in_bin-2 v ↦
          ap (λ (s : ℕ). unmarked c.args.m s % c.args.n) (sym next) ∙ v.is_in_bin-then-not-is_same.ensures.0 v.if-not-is_in_bin-2.false
      | else-not-is_same-via-else-not-is_same v ↦
          ap (λ (s : ℕ). unmarked c.args.m s % c.args.n) (sym next ∙ c.is_same.ensures.0 v.if-not-is_same.false ∙ c.loop-i.invariant.0)
          ∙ c.loop-i.invariant.1 i (omega arith)
    ] in (
      next,
      λ j most. elim (before_or_last j i most) [
        | inl h ↦ c.loop-i.invariant.1 j h
        | inr e ↦ ap (λ (p : ℕ). unmarked c.args.m (low at w p) % c.args.n) e ∙ there
      ],
    )
  where
    before_or_last : (j i : ℕ) → j ≤ i + 1 → (j ≤ i) ⊎ (j ≡ i + 1)
    before_or_last j i h = grind arith
