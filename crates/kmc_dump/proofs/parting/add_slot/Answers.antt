use Rattle.std.proofs.Common.{◌≡◌, ◌^◌, refl, sym, subst, arith}
use Rattle.kmc_dump.specs.Ranges.{ArePartedTo}
use Rattle.kmc_dump.specs.declared.parting.Joined.{Joined}
use Rattle.kmc_dump.specs.Lemmas.Parted.{max_above, range_more}
use Rattle.kmc_dump.proofs.Rooms.{no_answer}
use Rattle.kmc_dump.proofs.parting.add_slot.Goals as goal
use Rattle.kmc_dump.proofs.parting.add_slot.Goals.{then-joined-gt0+then-size-saturating_sub+in_ok-close_range, else-joined-gt0}

pub returns-in_err-close_range : goal.returns-in_err-close_range
returns-in_err-close_range g c = λ are. no_answer c.from_residual.result _ c.from_residual.ensures.0

pub returns-in_err-most : goal.returns-in_err-most
returns-in_err-most g c = λ are. no_answer c.from_residual-in_err-most.result _ c.from_residual-in_err-most.ensures.0

pub returns-in_ok-most : goal.returns-in_ok-most
returns-in_ok-most g c = λ are.
    let w = 2 ^ c.args.range.shift in
    let lists = c.args.lists.now in
    let held = c.if-joined-gt0.joined in
    let begun : ArePartedTo w held.widest held.bounds.items c.args.range.from held.pending lists = elim c.if-joined-gt0.branch [
      | then-joined-gt0+then-size-saturating_sub+in_ok-close_range b ↦
          let new = b.close_range.new.joined in
          subst (λ (j : Joined). ArePartedTo w j.widest j.bounds.items c.args.range.from j.pending lists) (sym b.joined-is)
          (subst (λ n. ArePartedTo w new.widest new.bounds.items c.args.range.from n lists) (sym b.in_ok-close_range.ensures.none)
          (b.in_ok-close_range.ensures.are w lists are))
      | else-joined-gt0 b ↦ subst (λ (j : Joined). ArePartedTo w j.widest j.bounds.items c.args.range.from j.pending lists) (sym b.joined-is) are
    ] in
    let none : held.pending ≡ 0 = omega (arith, c.if-joined-eq0.true) in
    let above = max_above held.widest c.in_ok-most.most in
    let wider = c.max-joined.result in
    subst (λ n. ArePartedTo w wider c.part_range.new.bounds.items c.args.range.to n lists) (sym none)
    (c.in_ok-most.ensures held.widest wider (subst (λ n. ArePartedTo w held.widest held.bounds.items c.args.range.from n lists) none begun)
    (omega (arith, above.0, c.max-joined.ensures)) (omega (arith, above.1, c.max-joined.ensures)))

pub returns-else-joined-eq0 : goal.returns-else-joined-eq0
returns-else-joined-eq0 g c = λ are.
    let w = 2 ^ c.args.range.shift in
    let lists = c.args.lists.now in
    let held = c.if-joined-gt0.joined in
    let begun : ArePartedTo w held.widest held.bounds.items c.args.range.from held.pending lists = elim c.if-joined-gt0.branch [
      | then-joined-gt0+then-size-saturating_sub+in_ok-close_range b ↦
          let new = b.close_range.new.joined in
          subst (λ (j : Joined). ArePartedTo w j.widest j.bounds.items c.args.range.from j.pending lists) (sym b.joined-is)
          (subst (λ n. ArePartedTo w new.widest new.bounds.items c.args.range.from n lists) (sym b.in_ok-close_range.ensures.none)
          (b.in_ok-close_range.ensures.are w lists are))
      | else-joined-gt0 b ↦ subst (λ (j : Joined). ArePartedTo w j.widest j.bounds.items c.args.range.from j.pending lists) (sym b.joined-is) are
    ] in
    range_more w held.widest held.bounds.items c.args.range.from held.pending lists c.args.size c.args.range.to _ begun c.args.range.order c.requires.size refl
