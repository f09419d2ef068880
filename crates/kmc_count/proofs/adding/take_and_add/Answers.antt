use Rattle.std.proofs.Common.{ℕ, ◌≤◌, inl, inr, List, [], length, map, take, take_all, refl, subst, sym, arith}
use Rattle.kmc_record.specs.Lemmas.Taken.{none_taken}
use Rattle.kmc_base.specs.Record.{IsBodyOf}
use Rattle.kmc_record.specs.RecordKeys.{IsTaken}
use Rattle.kmc_count.specs.Lemmas.PassedOn.{passed_on}
use Rattle.kmc_count.proofs.Counted.{much_taken, items_of_all}
use Rattle.kmc_count.proofs.Refused.{given, no_damage, refused}
use Rattle.kmc_count.proofs.adding.take_and_add.Goals as goal

-- what is taken up to an offset that is not inside is the whole body
all_of : (k offset : ℕ) (body : List ℕ) (ss : List (List ℕ)) → length body ≤ offset → IsBodyOf k ss (take offset body) → IsBodyOf k ss body
all_of k offset body ss end are = subst (IsBodyOf k ss) (take_all offset body end) are

pub loop-offset-init : goal.loop-offset-init
loop-offset-init g c =
    let rule = c.args.form.rule in
    record {
      inside = omega arith;
      taken = (
        [],
        record { each = tt; is = refl },
        subst (λ ns. IsTaken rule.strands rule.k c.args.form.bits [] (map g.W.PackedKmer.number ns) []) (sym c.clear.ensures.items) (none_taken rule.strands rule.k c.args.form.bits),
      );
    }

pub returns-in_err-offset-clause-damaged : goal.returns-in_err-offset-clause-damaged
returns-in_err-offset-clause-damaged g c = λ fault offset is.
    let h = c.loop-offset.invariant.taken in
    c.take_words.ensures.damaged h.0 h.1 fault offset
    (passed_on c.take_words.result c.from_residual.result _ _ c.in_err-offset.was c.from_residual.ensures.1 is)

pub returns-in_err-offset-clause-memory : goal.returns-in_err-offset-clause-memory
returns-in_err-offset-clause-memory g c = λ is.
    let h = c.loop-offset.invariant.taken in
    inl (c.take_words.ensures.memory h.0 h.1 (passed_on c.take_words.result c.from_residual.result _ _ c.in_err-offset.was c.from_residual.ensures.1 is))

pub add_up-requires-clause-fit : goal.add_up-requires-clause-fit
add_up-requires-clause-fit g c =
    let h = c.loop-offset.invariant.taken in
    let one = c.in_ok-offset.ensures.ok h.0 h.1 in
    (one.2 h.2).fit

pub loop-offset-preserved-in-Continue-branch-2 : goal.loop-offset-preserved-in-Continue-branch-2
loop-offset-preserved-in-Continue-branch-2 g c =
    let h = c.loop-offset.invariant.taken in
    let one = c.in_ok-offset.ensures.ok h.0 h.1 in
    let rule = c.args.form.rule in
    record {
      inside = c.in_ok-offset.ensures.on.1;
      taken = (_, one.1, much_taken rule.strands rule.k c.args.form.bits _ _ _ (one.2 h.2) c.in_ok-add_up.ensures);
    }

pub returns-in_err-add_up-clause-memory : goal.returns-in_err-add_up-clause-memory
returns-in_err-add_up-clause-memory g c = λ is.
    let h = c.loop-offset.invariant.taken in
    inl (c.in_ok-offset.ensures.ok h.0 h.1).3

pub loop-offset-preserved : goal.loop-offset-preserved
loop-offset-preserved g c =
    let h = c.loop-offset.invariant.taken in
    let one = c.in_ok-offset.ensures.ok h.0 h.1 in
    record {
      inside = c.in_ok-offset.ensures.on.1;
      taken = (_, one.1, one.2 h.2);
    }

pub add_up-requires-2-clause-fit : goal.add_up-requires-2-clause-fit
add_up-requires-2-clause-fit g c = c.loop-offset.invariant.taken.2.fit

pub returns-in_err-add_up-2-clause-memory : goal.returns-in_err-add_up-2-clause-memory
returns-in_err-add_up-2-clause-memory g c = λ is.
    let h = c.loop-offset.invariant.taken in
    inr (h.0, all_of c.args.form.rule.k c.loop-offset.offset c.args.body.now h.0 (omega (arith, c.loop-offset-test.false)) h.1)

pub returns-clause-ok : goal.returns-clause-ok
returns-clause-ok g c =
    let h = c.loop-offset.invariant.taken in
    let rule = c.args.form.rule in
    items_of_all rule.strands rule.k c.args.form.bits c.args.body.now _ h.0
    (all_of rule.k c.loop-offset.offset c.args.body.now h.0 (omega (arith, c.loop-offset-test.false)) h.1)
    (much_taken rule.strands rule.k c.args.form.bits _ _ _ h.2 c.in_ok-add_up-2.ensures)

pub most_items-most-requires : goal.most_items-most-requires
most_items-most-requires g c = c.requires.short

pub take_words-requires : goal.take_words-requires
take_words-requires g c = record { inside = c.loop-offset-test.true }

pub returns-in_err-offset-clause-ok : goal.returns-in_err-offset-clause-ok
returns-in_err-offset-clause-ok g c = refused _ c.from_residual.result c.from_residual.ensures.0

pub loop-offset-smaller-in-Continue-branch-2 : goal.loop-offset-smaller-in-Continue-branch-2
loop-offset-smaller-in-Continue-branch-2 g c = omega (arith, c.in_ok-offset.ensures.on)

pub loop-offset-smaller : goal.loop-offset-smaller
loop-offset-smaller g c = omega (arith, c.in_ok-offset.ensures.on)

pub returns-in_err-add_up-clause-ok : goal.returns-in_err-add_up-clause-ok
returns-in_err-add_up-clause-ok g c = refused _ c.from_residual-in_err-add_up.result c.from_residual-in_err-add_up.ensures.0

pub returns-in_err-add_up-clause-damaged : goal.returns-in_err-add_up-clause-damaged
returns-in_err-add_up-clause-damaged g c = λ fault offset.
    no_damage _ c.from_residual-in_err-add_up.result fault offset c.from_residual-in_err-add_up.ensures.1

pub returns-in_err-add_up-2-clause-ok : goal.returns-in_err-add_up-2-clause-ok
returns-in_err-add_up-2-clause-ok g c = refused _ c.from_residual-in_err-add_up-2.result c.from_residual-in_err-add_up-2.ensures.0

pub returns-in_err-add_up-2-clause-damaged : goal.returns-in_err-add_up-2-clause-damaged
returns-in_err-add_up-2-clause-damaged g c = λ fault offset.
    no_damage _ c.from_residual-in_err-add_up-2.result fault offset c.from_residual-in_err-add_up-2.ensures.1

pub returns-clause-damaged : goal.returns-clause-damaged
returns-clause-damaged g c = λ fault offset. given _ _ _

pub returns-clause-memory : goal.returns-clause-memory
returns-clause-memory g c = given _ _ _
