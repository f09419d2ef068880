use Rattle.std.proofs.Common.{◌≡◌, ℕ, ◌+◌, ◌-◌, ◌*◌, min, ◌∙◌, sym, ap, arith}
use Rattle.kmc_split.specs.Minima.{low}
use Rattle.kmc_split.specs.Lemmas.Lowest.{low_join, low_join_four}
use Rattle.kmc_split.proofs.minima.widen.Goals as goal

pub returns-then-next-width : goal.returns-then-next-width
returns-then-next-width g c = λ at i inside each.
    let w = c.args.width in
    let next : 4 * w ≡ c.args.next = sym (c.requires.reach (omega arith)) in
    let one = each i (omega arith) (omega arith) in
    let two = each (i + w) (omega arith) (omega arith) in
    let three = each (i + 2 * w) (omega arith) (omega arith) in
    let four = each (i + 3 * w) (omega arith) (omega arith) in
    c.lower_of_four.ensures i inside ∙ (λ t. min (min (one t) (two t)) (min (three t) (four t)))
    ∙ low_join_four at w i c.requires.some ∙ ap (λ (n : ℕ). low at n i) next

pub returns-else-next-width : goal.returns-else-next-width
returns-else-next-width g c = λ at i inside each.
    let w = c.args.width in
    let d = c.args.next - w in
    let next : w + d ≡ c.args.next = omega arith in
    let one = each i (omega arith) (omega arith) in
    let two = each (i + d) (omega arith) (omega arith) in
    c.lower.ensures i inside ∙ (λ t. min (one t) (two t))
    ∙ low_join at w d i (omega arith) (omega arith) ∙ ap (λ (n : ℕ). low at n i) next
