use Rattle.std.proofs.Common.{ℕ, ◌+◌, ◌++◌, List, [], ◌∷◌, length, map, refl, subst, sym, take_all, arith, ◌∙◌}
use Rattle.std.proofs.lemmas.Result.{IfOk-from_err}
use Rattle.kmc_base.specs.Record.{IsBodyOf}
use Rattle.kmc_record.specs.RecordKeys.{IsTaken}
use Rattle.kmc_record.specs.Lemmas.Taken.{none_taken}
use Rattle.kmc_base.specs.Lemmas.Whole.{first_codes, next_body, next_inside, rest_at}
use Rattle.kmc_record.specs.Lemmas.Whole.{stops_there}
use Rattle.kmc_count.proofs.Rests.{some_left, enough, inside_rest, few_symbols, size_fits, all_of, less_left, found_fault, no_error, no_memory, no_damage}
use Rattle.kmc_count.proofs.Pieces.{codes_there}
use Rattle.kmc_count.proofs.taking.take_body.Goals as goal

pub loop-offset-init : goal.loop-offset-init
loop-offset-init g c =
    let num = g.W.PackedKmer.number in
    let rule = c.args.form.rule in
    record {
      inside = omega arith;
      records = (
        [],
        record { each = tt; is = refl },
        subst (λ (ns : List ℕ). IsTaken rule.strands rule.k c.args.form.bits ns (map num c.args.items.now.items) []) (sym c.requires.no_numbers)
            (subst (λ ns. IsTaken rule.strands rule.k c.args.form.bits [] (map num ns) []) (sym c.requires.no_items) (none_taken rule.strands rule.k c.args.form.bits)),
      );
      alone = λ _. refl;
    }

pub returns-in_err-take_record-clause-memory : goal.returns-in_err-take_record-clause-memory
returns-in_err-take_record-clause-memory g c = λ is.
    let found = c.in-Ok.ensures in
    stops_there c.args.form.rule.k c.in-Ok.found.0 c.loop-offset.offset c.args.body.now (λ i. omega (arith, c.type_inv.body i)) found.count found.inside
    found.rest c.loop-offset.invariant.records.0 c.loop-offset-test.true c.loop-offset.invariant.records.1

pub loop-offset-preserved : goal.loop-offset-preserved
loop-offset-preserved g c =
    let rule = c.args.form.rule in
    let n = c.in-Ok.found.0 in
    let rest = rest_at c.loop-offset.offset c.args.body.now in
    let found = c.in-Ok.ensures in
    let h = c.loop-offset.invariant.records in
    record {
      inside = omega (arith, next_inside rule.k n c.loop-offset.offset c.args.body.now (λ i. omega (arith, c.type_inv.body i)) found.count found.inside found.rest, found.size);
      records = (
        h.0 ++ first_codes n rest ∷ [],
        next_body rule.k n c.loop-offset.offset c.args.body.now (λ i. omega (arith, c.type_inv.body i)) found.count found.inside found.rest _ h.0 h.1
            (λ i. c.loop-offset.offset + (1 + found.size i)),
        subst (λ (w : List ℕ). IsTaken rule.strands rule.k c.args.form.bits c.take_record.new.numbers.items
            (map g.W.PackedKmer.number c.take_record.new.items.items) (h.0 ++ w ∷ [])) (codes_there n rest) (c.in_ok-take_record.ensures.taken h.0 h.2),
      );
      alone = λ room. c.in_ok-take_record.ensures.numbers room ∙ c.loop-offset.invariant.alone room;
    }

pub slice_bounds-rest-count : goal.slice_bounds-rest-count
slice_bounds-rest-count g c = c.loop-offset.invariant.inside

pub first_record-requires-clause-some : goal.first_record-requires-clause-some
first_record-requires-clause-some g c = some_left c.loop-offset.offset c.args.body.now c.loop-offset-test.true

pub first_record-requires-clause-most : goal.first_record-requires-clause-most
first_record-requires-clause-most g c = c.args.form.rule.within.1

pub returns-in-Err-clause-ok : goal.returns-in-Err-clause-ok
returns-in-Err-clause-ok g c = tt

pub returns-in-Err-clause-memory : goal.returns-in-Err-clause-memory
returns-in-Err-clause-memory g c = λ is. no_memory _ _ _ _ refl is

pub take_record-requires-clause-short : goal.take_record-requires-clause-short
take_record-requires-clause-short g c = c.requires.short

pub take_record-requires-clause-long : goal.take_record-requires-clause-long
take_record-requires-clause-long g c = enough c.in-Ok.found.0 c.args.form.rule.k _ c.in-Ok.ensures.count

pub returns-in_err-take_record-clause-ok : goal.returns-in_err-take_record-clause-ok
returns-in_err-take_record-clause-ok g c = IfOk-from_err _ _ c.from_residual.ensures.0

pub returns-clause-damaged : goal.returns-clause-damaged
returns-clause-damaged g c = λ fault offset is. no_error _ _ _ is

pub returns-clause-memory : goal.returns-clause-memory
returns-clause-memory g c = λ is. no_error _ _ _ is

pub returns-in_err-take_record-clause-damaged : goal.returns-in_err-take_record-clause-damaged
returns-in_err-take_record-clause-damaged g c = λ fault offset is. no_damage _ _ _ _ c.from_residual.ensures.1 is

pub slice_bounds-rest-start : goal.slice_bounds-rest-start
slice_bounds-rest-start g c = c.loop-offset.invariant.inside

pub slice_bounds-rest-end : goal.slice_bounds-rest-end
slice_bounds-rest-end g c = all_of (length c.args.body.now)

pub returns-in-Err-clause-damaged : goal.returns-in-Err-clause-damaged
returns-in-Err-clause-damaged g c = λ fault offset is.
    found_fault c.args.form.rule.k c.args.body.now c.loop-offset.invariant.records.0 c.loop-offset.offset offset c.in-Err.fault fault c.loop-offset-test.true
    c.loop-offset.invariant.records.1 c.in-Err.ensures.fault is

pub overflow_add-offset : goal.overflow_add-offset
overflow_add-offset g c =
    let few = few_symbols c.args.form.rule.k c.in-Ok.found.0 c.loop-offset.offset c.args.body.now (λ i. omega (arith, c.type_inv.body i)) c.in-Ok.ensures.count
    c.in-Ok.ensures.inside c.in-Ok.ensures.rest c.args.form.rule.within.1 in
    size_fits c.in-Ok.found.0 _ few c.in-Ok.ensures.size

pub loop-offset-smaller : goal.loop-offset-smaller
loop-offset-smaller g c = less_left _ c.loop-offset.offset (length c.args.body.now) c.loop-offset-test.true

pub returns-clause-ok : goal.returns-clause-ok
returns-clause-ok g c =
    let h = c.loop-offset.invariant.records in
    (h.0, subst (IsBodyOf c.args.form.rule.k h.0) (take_all c.loop-offset.offset c.args.body.now c.loop-offset-test.false) h.1, h.2)

pub take_record-requires-clause-inside : goal.take_record-requires-clause-inside
take_record-requires-clause-inside g c = inside_rest c.in-Ok.found.0 (rest_at c.loop-offset.offset c.args.body.now) c.in-Ok.ensures.inside

pub take_record-requires-clause-few : goal.take_record-requires-clause-few
take_record-requires-clause-few g c =
    let few = few_symbols c.args.form.rule.k c.in-Ok.found.0 c.loop-offset.offset c.args.body.now (λ i. omega (arith, c.type_inv.body i)) c.in-Ok.ensures.count
    c.in-Ok.ensures.inside c.in-Ok.ensures.rest c.args.form.rule.within.1 in
    omega (arith, few)
