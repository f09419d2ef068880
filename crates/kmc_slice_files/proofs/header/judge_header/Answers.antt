use Rattle.std.proofs.Common.{ap, sym, ◌∙◌}
use Rattle.kmc_slice_files.specs.Check.{hashed}
use Rattle.kmc_slice_files.proofs.Heading.{front_taken, header_made}
use Rattle.kmc_slice_files.proofs.header.judge_header.Goals as goal

pub returns-then-told-check_word-clause-fault : goal.returns-then-told-check_word-clause-fault
returns-then-told-check_word-clause-fault c =
    let t = c.numbers_of-told.result in
    let word = c.check_word.ensures ∙ ap (hashed 0) (front_taken t c.args.bytes.now c.numbers_of-told.ensures) in
    (t, c.numbers_of-told.ensures, (c.if-told-ne-LETTERS.false, c.if-told-ne-VERSION.false, λ e. c.if-told-check_word.true (e ∙ sym word)))

pub returns-in-Some-clause-ok : goal.returns-in-Some-clause-ok
returns-in-Some-clause-ok c =
    let t = c.numbers_of-told.result in
    let word = c.check_word.ensures ∙ ap (hashed 0) (front_taken t c.args.bytes.now c.numbers_of-told.ensures) in
    header_made t c.in-Some.slicing c.args.bytes.now c.numbers_of-told.ensures c.if-told-ne-LETTERS.false c.if-told-ne-VERSION.false
    (c.if-told-check_word.false ∙ word) c.in-Some.ensures

pub returns-in-None-clause-fault : goal.returns-in-None-clause-fault
returns-in-None-clause-fault c =
    let t = c.numbers_of-told.result in
    let word = c.check_word.ensures ∙ ap (hashed 0) (front_taken t c.args.bytes.now c.numbers_of-told.ensures) in
    (t, c.numbers_of-told.ensures, (c.if-told-ne-LETTERS.false, c.if-told-ne-VERSION.false, c.if-told-check_word.false ∙ word, c.in-None.ensures))
