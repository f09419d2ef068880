use Rattle.std.proofs.Common.{◌≡◌, ◌-◌, ◌*◌, ◌/◌, ◌^◌, ◌<◌, ℕ, sym, ap, subst, ◌∙◌, arith}
use Rattle.kmc_base.specs.Lemmas.Powers.{pow_quad}
use Rattle.kmc_database.specs.Layout.{IsLayout}
use Rattle.kmc_database.specs.declared.layout.Layout.{Layout}
use Rattle.kmc_database.proofs.Words.{few_parts}
use Rattle.kmc_database.specs.Lemmas.Words.{part_fits, part_is}
use Rattle.kmc_database.proofs.row.first_part.Goals as goal

quotient : (n j : ℕ) → n / 2 ^ (2 * j) ≡ n / 4 ^ j
quotient n j = ap (λ d. n / d) (sym (pow_quad j))

-- a first part has at most 30 bits
small : (l : Layout) → IsLayout l → (n : ℕ) → n < 4 ^ l.k → n / 2 ^ (2 * (l.k - l.prefix)) < 2 ^ 64
small l is n fits =
    omega (arith, few_parts l is, part_fits l is n fits, quotient n (l.k - l.prefix))

pub overflow_cast-result-2 : goal.overflow_cast-result-2
overflow_cast-result-2 c = omega (arith, small c.args.layout.now c.requires.layout c.args.packed c.requires.fits)

pub returns-clause-is : goal.returns-clause-is
returns-clause-is c =
    let l = c.args.layout.now in
    quotient c.args.packed (l.k - l.prefix) ∙ sym (part_is l c.requires.layout c.args.packed c.requires.fits)

pub returns-clause-quotient : goal.returns-clause-quotient
returns-clause-quotient c = quotient c.args.packed (c.args.layout.now.k - c.args.layout.now.prefix)

pub returns-clause-most : goal.returns-clause-most
returns-clause-most c =
    let l = c.args.layout.now in
    subst (λ q. q < 4 ^ l.prefix) (sym (quotient c.args.packed (l.k - l.prefix))) (part_fits l c.requires.layout c.args.packed c.requires.fits)
