use Rattle.std.proofs.Common.{◌≡◌, length, arith, ◌∙◌}
use Rattle.std.proofs.lemmas.List.{with_items_is}
use Rattle.std.proofs.lemmas.Grind.{common_steps, elements}
use Rattle.kmc_base.specs.Lemmas.Stretching.{leading_is_taken, bases_taken}
use Rattle.kmc_base.proofs.stretch.leading_codes.Goals as goal

pub write_codes-requires-clause-bases : goal.write_codes-requires-clause-bases
write_codes-requires-clause-bases c = bases_taken c.leading_bases-count.result c.args.bytes.now c.leading_bases-count.ensures.bases

pub returns-clause-are : goal.returns-clause-are
returns-clause-are c =
    let count = c.leading_bases-count.result in
    let codes = c.write_codes.new.codes in
    let long : length codes ≡ count = omega (arith, c.in_ok-resize.ensures.len, c.deref_mut.ensures.len, c.write_codes.auto.codes) in
    with_items_is c.resize.new.self codes (omega (arith, c.in_ok-resize.ensures.len))
    ∙ leading_is_taken count c.args.bytes.now codes long c.leading_bases-count.ensures.within c.write_codes.ensures c.leading_bases-count.ensures.end

pub returns-clause-small : goal.returns-clause-small
returns-clause-small c = grind (arith, elements)

pub returns-clause-within : goal.returns-clause-within
returns-clause-within c = grind (arith, common_steps)
