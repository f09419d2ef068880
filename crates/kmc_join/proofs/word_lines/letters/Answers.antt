use Rattle.std.proofs.Common.{◌<◌, below_more, length, arith, ◌∙◌}
use Rattle.std.proofs.lemmas.List.{length-set}
use Rattle.std.specs.Prelude.{slice_index}
use Rattle.kmc_sum.specs.Line.{IsLetter}
use Rattle.kmc_join.proofs.WordLines.{codes_more, letters_more}
use Rattle.kmc_join.proofs.word_lines.letters.Goals as goal

pub loop-i-preserved : goal.loop-i-preserved
loop-i-preserved c =
    let i = c.loop-i.invariant in
    let n = c.loop-i.i in
    let xs = c.args.bytes.now in
    let inside : n < length xs = omega (arith, c.min-most.ensures) in
    let room : n < length c.loop-i.codes = omega (arith, i.long, c.min-most.ensures) in
    record {
      long = length-set c.loop-i.codes n c.in-Some.code ∙ i.long;
      word = letters_more xs c.loop-i.codes n c.in-Some.code inside room i.word c.in-Some.ensures.1;
      codes = codes_more c.loop-i.codes n c.in-Some.code room c.in-Some.ensures.0 i.codes;
      each = below_more (λ j. IsLetter (slice_index xs j)) n i.each (c.in-Some.code, c.in-Some.ensures.0, c.in-Some.ensures.1);
    }
