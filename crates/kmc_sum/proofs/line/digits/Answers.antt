use Rattle.std.proofs.Common.{◌≡◌, ◌+◌, ◌*◌, ◌-◌, ◌^◌, get_or, ◌∙◌, sym, arith, below_more, add-one}
use Rattle.std.proofs.lemmas.Int.Digits.{digits_value_more}
use Rattle.std.proofs.Math.Nat.{pow-succ'}
use Rattle.std.specs.Char.{digit_value}
use Rattle.std.proofs.lemmas.Str.{digit_value_digit}
use Rattle.kmc_sum.proofs.line.digits.Goals as goal

pub loop-i-preserved : goal.loop-i-preserved
loop-i-preserved c =
    let i = c.loop-i.i in
    let byte = get_or c.args.bytes.now i 0 in
    let from : c.from.result ≡ byte - 48 = c.from.ensures in
    let digit : c.from.result ≡ digit_value byte = omega (arith, digit_value_digit byte (c.if-byte-lt48.false, omega (arith, c.if-byte-gt57.false)), from) in
    let up : 10 ^ (i + 1) ≡ 10 ^ i * 10 = rw add-one (omega (arith, pow-succ' 10 i)) in
    record {
      small = omega (arith, c.loop-i.invariant.small, from, up, c.if-byte-gt57.false);
      value = (λ j. c.loop-i.invariant.value j * 10 + digit j) ∙ sym (digits_value_more 10 c.args.bytes.now i (omega arith));
      each = below_more _ _ c.loop-i.invariant.each (omega arith, omega arith);
    }
