use Rattle.std.proofs.Common.{◌≡◌, ℕ, ◌+◌, ◌-◌, ◌%◌, ◌<◌, ◌≤◌, map, length, slice_index, sym, ap, ◌∙◌, arith}
use Rattle.kmc_split.specs.Minima.{low}
use Rattle.kmc_split.specs.Candidates.{unmarked}
use Rattle.kmc_split.proofs.MinimaOfParts.{part_low}
use Rattle.kmc_split.proofs.Shared.{shared_low}
use Rattle.kmc_split.proofs.belonging.least_in_bin.Goals as goal

pub returns-then-is_same : goal.returns-then-is_same
returns-then-is_same g c =
    let f = g.V.Mmer.number in
    let values = c.args.values.now in
    let at : ℕ → ℕ = slice_index (map f values) in
    let w = c.args.width in
    let n = length values in
    let near : n < w + w = omega (arith, c.if-last-width.true, c.requires.within) in
    let shared = part_low f values (n - w) w (w - (n - w)) _ (omega arith) (omega arith) c.requires.within c.lowest-shared.ensures in
    let same : low at (w - (n - w)) (n - w) ≡ low at n 0 = sym shared ∙ c.is_same.ensures.0 c.if-is_same.true ∙ c.lowest.ensures in
    let each : (i : ℕ) → i + w ≤ n → f c.lowest-shared.result ≡ low at w i =
    λ i inside. shared ∙ same ∙ sym (shared_low at w n i near same inside) in (
      (λ yes i inside. ap (λ (s : ℕ). unmarked c.args.m s % c.args.n) (sym (each i inside)) ∙ c.is_in_bin.ensures.0 yes),
      (λ all. c.is_in_bin.ensures.1 (ap (λ (s : ℕ). unmarked c.args.m s % c.args.n) (each 0 (omega (arith, c.requires.within)))
          ∙ all 0 (omega (arith, c.requires.within)))),
    )
