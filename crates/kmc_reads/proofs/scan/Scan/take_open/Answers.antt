use Rattle.std.proofs.Common.{◌≡◌, [], sym, ◌∙◌, arith}
use Rattle.std.proofs.lemmas.Result.{IfOk-weaker, on_ok_weaker}
use Rattle.kmc_reads.specs.Standing.{At, Hands}
use Rattle.kmc_reads.proofs.HandedOut.{elsewhere, held_back, few_open}
use Rattle.kmc_reads.proofs.HandedBy.{hands_rows}
use Rattle.kmc_reads.proofs.scan.Scan.take_open.Goals as goal
use Rattle.kmc_reads.proofs.scan.Scan.take_open.Goals.{then-not-symbols-via-then-not-symbols, then-not-symbols-via-else-not-symbols+then-self, then-not-symbols-via-else-not-symbols+else-self+then-len-self, in-Body, in_default}

pub returns-then-not-symbols-clause-taken : goal.returns-then-not-symbols-clause-taken
returns-then-not-symbols-clause-taken c = λ rows spot front at.
    IfOk-weaker c.take.result (λ reads. (reads ≡ rows) × At [] spot front c.take.new.self) (λ reads. Hands c.args.overlap rows spot front reads c.take.new.self)
    (λ reads h. hands_rows c.args.overlap rows spot front reads c.take.new.self h.0 h.1)
    (c.take.ensures.taken rows spot front at)

pub returns-then-not-symbols-clause-handed : goal.returns-then-not-symbols-clause-handed
returns-then-not-symbols-clause-handed c = on_ok_weaker c.take.result (λ m.
    let overlap = c.args.overlap in let new = c.take.new.self in
    elim c.then-not-symbols.branch [
      | then-not-symbols-via-then-not-symbols w ↦ elim c.match-matches.branch [
        | in-Body u ↦ absurd (cc (w.if-not-symbols.true, u.matches-is))
        | in_default u ↦ elsewhere overlap new m.ends (λ h. u.in_default.not-Body (sym m.stage ∙ h)) (λ h. u.in_default.not-Rest (sym m.stage ∙ h))
      ]
      | then-not-symbols-via-else-not-symbols+then-self w ↦ held_back overlap new m.ends (m.held ∙ w.if-self.true)
      | then-not-symbols-via-else-not-symbols+else-self+then-len-self w ↦ few_open overlap new m.ends (omega (arith, m.long, w.if-len-self.true))
    ])
    c.take.ensures.moved
