use Rattle.std.proofs.Common.{◌≡◌, ℕ, ◌++◌, List, [], length, take, map, ap, refl, subst, arith}
use Rattle.std.proofs.lemmas.Result.{IfOk-from_err}
use Rattle.kmc_base.specs.Packed.{pack}
use Rattle.kmc_base.specs.Strands.{keys}
use Rattle.kmc_base.specs.Weights.{weighted}
use Rattle.kmc_base.specs.Lemmas.Weights.{pow_two_some}
use Rattle.kmc_base.specs.Record.{codes_in}
use Rattle.kmc_record.specs.Lemmas.Taken.{words_taken}
use Rattle.kmc_base.specs.Lemmas.Whole.{first_codes, next_body, next_inside, rest_at, spelled_there}
use Rattle.kmc_record.specs.Lemmas.Whole.{stops_there}
use Rattle.kmc_count.proofs.Rests.{some_left, enough, all_symbols, few_symbols, few_bytes, behind_it, found_fault, no_error, no_memory, no_damage}
use Rattle.kmc_count.proofs.taking.take_words.Goals as goal

pub returns-in_err-push_record-clause-memory : goal.returns-in_err-push_record-clause-memory
returns-in_err-push_record-clause-memory g c = λ ss whole is.
    let found = c.in-Ok.ensures in
    stops_there c.args.form.rule.k c.in-Ok.found.0 c.args.offset c.args.body.now (λ i. omega (arith, c.type_inv.body i)) found.count found.inside found.rest ss
    c.requires.inside whole

pub returns-clause-ok : goal.returns-clause-ok
returns-clause-ok g c = λ ss whole.
    let num = g.W.PackedKmer.number in
    let rule = c.args.form.rule in
    let n = c.in-Ok.found.0 in
    let body = c.args.body.now in
    let rest = rest_at c.args.offset body in
    let found = c.in-Ok.ensures in
    let old = map num c.args.items.now.items in
    let new = map num c.push_record.new.words.items in
    let spelled = spelled_there rule.k n c.args.offset body (λ i. omega (arith, c.type_inv.body i)) found.count found.inside found.rest in
    let pushed : new ≡ old ++ map (weighted c.args.form.bits 1) (map pack (keys rule.strands rule.k (first_codes n rest))) =
    subst (λ (w : List ℕ). new ≡ old ++ map (weighted c.args.form.bits 1) (map pack (keys rule.strands rule.k w))) (ap (λ (w : List ℕ). take n (codes_in w)) found.codes) c.in_ok-push_record.ensures in (
      first_codes n rest,
      next_body rule.k n c.args.offset body (λ i. omega (arith, c.type_inv.body i)) found.count found.inside found.rest _ ss whole (omega arith),
      (λ taken. words_taken rule.strands rule.k c.args.form.bits [] old new ss (first_codes n rest) (record { least = spelled.least; codes = spelled.codes }) pushed
          (pow_two_some c.args.form.bits) taken),
      stops_there rule.k n c.args.offset body (λ i. omega (arith, c.type_inv.body i)) found.count found.inside found.rest ss c.requires.inside whole,
    )

pub first_record-requires-clause-some : goal.first_record-requires-clause-some
first_record-requires-clause-some g c = some_left c.args.offset c.args.body.now c.requires.inside

pub first_record-requires-clause-most : goal.first_record-requires-clause-most
first_record-requires-clause-most g c = c.args.form.rule.within.1

pub returns-in-Err-clause-on : goal.returns-in-Err-clause-on
returns-in-Err-clause-on g c = tt

pub returns-in-Err-clause-ok : goal.returns-in-Err-clause-ok
returns-in-Err-clause-ok g c = λ ss whole. tt

pub returns-in-Err-clause-memory : goal.returns-in-Err-clause-memory
returns-in-Err-clause-memory g c = λ ss whole is. no_memory _ _ _ _ refl is

pub push_record-requires-clause-most : goal.push_record-requires-clause-most
push_record-requires-clause-most g c = c.args.form.most

pub push_record-requires-clause-beside : goal.push_record-requires-clause-beside
push_record-requires-clause-beside g c = c.args.form.beside

pub push_record-requires-clause-long : goal.push_record-requires-clause-long
push_record-requires-clause-long g c = enough c.in-Ok.found.0 c.args.form.rule.k _ c.in-Ok.ensures.count

pub push_record-requires-clause-inside : goal.push_record-requires-clause-inside
push_record-requires-clause-inside g c = all_symbols c.in-Ok.found.0 _ c.in-Ok.ensures.size

pub returns-in_err-push_record-clause-on : goal.returns-in_err-push_record-clause-on
returns-in_err-push_record-clause-on g c = IfOk-from_err _ _ c.from_residual.ensures.0

pub returns-in_err-push_record-clause-ok : goal.returns-in_err-push_record-clause-ok
returns-in_err-push_record-clause-ok g c = λ ss whole. IfOk-from_err _ _ c.from_residual.ensures.0

pub returns-clause-damaged : goal.returns-clause-damaged
returns-clause-damaged g c = λ ss whole fault at is. no_error _ _ _ is

pub returns-clause-memory : goal.returns-clause-memory
returns-clause-memory g c = λ ss whole is. no_error _ _ _ is

pub returns-in_err-push_record-clause-damaged : goal.returns-in_err-push_record-clause-damaged
returns-in_err-push_record-clause-damaged g c = λ ss whole fault at is. no_damage _ _ _ _ c.from_residual.ensures.1 is

pub returns-in-Err-clause-damaged : goal.returns-in-Err-clause-damaged
returns-in-Err-clause-damaged g c = λ ss whole fault at is.
    found_fault c.args.form.rule.k c.args.body.now ss c.args.offset at c.in-Err.fault fault c.requires.inside whole c.in-Err.ensures.fault is

pub push_record-requires-clause-few : goal.push_record-requires-clause-few
push_record-requires-clause-few g c =
    let few = few_symbols c.args.form.rule.k c.in-Ok.found.0 c.args.offset c.args.body.now (λ i. omega (arith, c.type_inv.body i)) c.in-Ok.ensures.count
    c.in-Ok.ensures.inside c.in-Ok.ensures.rest c.args.form.rule.within.1 in
    few_bytes c.in-Ok.found.0 _ few c.in-Ok.ensures.size

pub returns-clause-on : goal.returns-clause-on
returns-clause-on g c =
    behind_it c.in-Ok.found.0 _ c.args.offset (length c.args.body.now) c.in-Ok.ensures.size
    (next_inside c.args.form.rule.k c.in-Ok.found.0 c.args.offset c.args.body.now (λ i. omega (arith, c.type_inv.body i)) c.in-Ok.ensures.count
    c.in-Ok.ensures.inside c.in-Ok.ensures.rest)
