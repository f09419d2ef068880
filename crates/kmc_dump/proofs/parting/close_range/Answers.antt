use Rattle.std.proofs.Common.{ℕ, ◌-◌, List, length, get_or, ap, sym, subst, ◌∙◌, arith}
use Rattle.kmc_dump.specs.Ranges.{ArePartedTo}
use Rattle.kmc_dump.specs.Lemmas.Parted.{max_above, closed, last_bound}
use Rattle.kmc_dump.proofs.Rooms.{no_answer}
use Rattle.kmc_dump.proofs.parting.close_range.Goals as goal

pub returns-clause-are : goal.returns-clause-are
returns-clause-are c = λ weight lists are.
    let old = c.args.joined.now in
    let above = max_above old.widest old.pending in
    subst (λ (l : List ℕ). ArePartedTo weight c.max-joined.result l c.args.to 0 lists) (sym c.in_ok-push.ensures.items)
    (closed weight old.widest old.bounds.items c.args.to old.pending c.max-joined.result lists are
    (omega (arith, above.0, c.max-joined.ensures)) (omega (arith, above.1, c.max-joined.ensures)))

pub returns-in_err-push-clause-are : goal.returns-in_err-push-clause-are
returns-in_err-push-clause-are c = λ weight lists are. no_answer c.from_residual.result _ c.from_residual.ensures.0

pub returns-clause-last : goal.returns-clause-last
returns-clause-last c = ap (λ (l : List ℕ). get_or l (length l - 1) 0) c.in_ok-push.ensures.items ∙ last_bound c.args.joined.now.bounds.items c.args.to
