use Rattle.std.proofs.Common.{ℕ, ◌-◌, List, inr, take, drop, subst}
use Rattle.kmc_database.specs.UnpackCauses.{IsOtherHeader}
use Rattle.kmc_database.proofs.checking.ends_in.Goals as goal

pub returns-clause-other : goal.returns-clause-other
returns-clause-other g c = λ is.
    let r = c.has_next.new.room in (
      subst (λ (l : List ℕ). IsOtherHeader (take (r.to - r.from) (drop r.from l)) c.args.header.now) c.deref.ensures.value (c.is_header.ensures.other is),
      inr (c.in_ok-has_next.ensures.short c.if-branch.false).1,
    )
