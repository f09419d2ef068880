use Rattle.std.proofs.Common.{◌+◌, ◌*◌, ◌<◌, length, set, refl, arith}
use Rattle.kmc_base.specs.declared.letters.TheConstants.{FOUR_LETTERS}
use Rattle.kmc_base.proofs.FourLetters.{first_letter, second_letter, third_letter, last_letter}
use Rattle.kmc_base.proofs.letters.write_four.Goals as goal

pub returns : goal.returns
returns c =
    let b = c.args.byte in
    let at = c.args.at in
    let inside : 4 * b + 3 < length FOUR_LETTERS = omega (arith, c.ranges.byte.fits) in
    (λ i.
    set (set (set (set c.args.out.now (at + 3) (last_letter FOUR_LETTERS refl b inside i)) (at + 2) (third_letter FOUR_LETTERS refl b inside i))
    (at + 1) (second_letter FOUR_LETTERS refl b inside i)) at
    (first_letter FOUR_LETTERS refl b inside i))
