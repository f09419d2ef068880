use Rattle.std.proofs.Common.{rules, ◌≡◌, ◌+◌, ◌-◌, ◌*◌, ◌/◌, ◌%◌, ◌<◌, ◌≤◌, ◌^◌, ◌++◌, bit_and, length, get_or, ap, ◌∙◌, arith}
use Rattle.std.proofs.lemmas.Nat.{pow_pos, mod_below}
use Rattle.std.proofs.Math.Pow.{pow_mono}
use Rattle.kmc_base.specs.Packed.{unpack}
use Rattle.kmc_base.specs.Lemmas.Packing.{length_unpack}
use Rattle.kmc_base.specs.Lemmas.Powers.{pow_quad}
use Rattle.kmc_dump.proofs.RangeKeys.{low_count, pair_more, word_fits}
use Rattle.kmc_dump.proofs.Rooms.{line_fits, lines_more}
use Rattle.kmc_dump.proofs.keys.put_key_pairs.Goals as goal

pub put-end-requires-clause-fits : goal.put-end-requires-clause-fits
put-end-requires-clause-fits g c =
    let n = get_or c.args.keys.now c.loop-key.key-index 0 in
    let quotient : c.from.result ≡ n / 2 ^ g.C.CountWidth.bits = c.from.ensures ∙ ap (λ b. n / 2 ^ b) c.bits-bits.ensures.is in
    omega (arith, quotient, word_fits c.args.size.k c.args.least g.C.CountWidth.bits c.args.keys.now c.loop-key.key-index c.loop-key-test.true c.requires.fit)

pub overflow_add-word : goal.overflow_add-word
overflow_add-word g c =
    let n = get_or c.args.keys.now c.loop-key.key-index 0 in
    let k = c.args.size.k in
    let quotient : c.from.result ≡ n / 2 ^ g.C.CountWidth.bits = c.from.ensures ∙ ap (λ b. n / 2 ^ b) c.bits-bits.ensures.is in
    let few : 2 * k ≤ 128 = omega (arith, c.args.size.within.1) in
    let top : 2 ^ (2 * k) ≤ 2 ^ 128 = pow_mono few in
    let small : c.from.result + c.args.least < 2 ^ 128 = omega (
      arith,
      quotient,
      top,
      pow_quad k,
      word_fits k c.args.least g.C.CountWidth.bits c.args.keys.now c.loop-key.key-index c.loop-key-test.true c.requires.fit,
    ) in
    search rules

pub put-end-requires-clause-room : goal.put-end-requires-clause-room
put-end-requires-clause-room g c =
    let n = get_or c.args.keys.now c.loop-key.key-index 0 in
    let k = c.args.size.k in
    let r = c.bits-bits.result in
    let form = c.args.form.now in
    let digits = g.C.CountWidth.most_digits in
    let count = bit_and n (1 * 2 ^ r % 2 ^ 64 - 1) in
    let word = c.from.result + c.args.least in
    let low = low_count n r (omega (arith, c.requires.small, c.bits-bits.ensures.is)) in
    let short = c.bits-bits.ensures.short count (omega (arith, low, mod_below n (2 ^ r) (pow_pos r))) in
    let few = g.met.F.PairForm.enough form k digits (unpack k word, count) c.requires.takes (length_unpack k word) short in
    line_fits c.loop-key.key-index (length c.args.keys.now) (g.F.PairForm.most form k digits) c.loop-key.end _
    (length c.loop-key.text) c.loop-key-test.true
    (omega (arith, c.requires.room, c.loop-key.auto.text)) c.loop-key.invariant.room few

pub loop-key-preserved : goal.loop-key-preserved
loop-key-preserved g c =
    let n = get_or c.args.keys.now c.loop-key.key-index 0 in
    let k = c.args.size.k in
    let r = c.bits-bits.result in
    let least = c.args.least in
    let form = c.args.form.now in
    let digits = g.C.CountWidth.most_digits in
    let line = g.F.PairForm.bytes form in
    let is = c.bits-bits.ensures.is in
    let count = bit_and n (1 * 2 ^ r % 2 ^ 64 - 1) in
    let word = c.from.result + least in
    let low : count ≡ n % 2 ^ r = low_count n r (omega (arith, c.requires.small, is)) in
    let short = c.bits-bits.ensures.short count (omega (arith, low, mod_below n (2 ^ r) (pow_pos r))) in
    let few = g.met.F.PairForm.enough form k digits (unpack k word, count) c.requires.takes (length_unpack k word) short in
    let more = lines_more c.loop-key.key-index (g.F.PairForm.most form k digits) c.loop-key.end
    (length (line (unpack k word, count))) c.loop-key.invariant.room few in
    let quotient : c.from.result ≡ n / 2 ^ g.C.CountWidth.bits = c.from.ensures ∙ ap (λ b. n / 2 ^ b) is in
    let shown : count ≡ n % 2 ^ g.C.CountWidth.bits = low ∙ ap (λ b. n % 2 ^ b) is in
    record {
      room = omega (arith, more, c.put-end.ensures.end);
      lines = c.put-end.ensures.bytes
          ∙ (λ i. c.loop-key.invariant.lines i ++ line (unpack k (quotient i + least), shown i))
          ∙ pair_more line k least g.C.CountWidth.bits c.args.keys.now c.loop-key.key-index c.loop-key-test.true;
    }
