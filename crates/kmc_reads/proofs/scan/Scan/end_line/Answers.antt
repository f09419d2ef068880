use Rattle.std.proofs.Common.{◌≡◌, refl, sym, ap, subst, ◌∙◌, [], ◌∷◌, ◌++◌, arith}
use Rattle.std.proofs.lemmas.Grind.{common_steps}
use Rattle.std.specs.Io.BufRead.{strip_last}
use Rattle.kmc_reads.specs.declared.line_kind.LineKind.TheVariants.{Quality}
use Rattle.kmc_reads.specs.Stages.{Spot, begun_by}
use Rattle.kmc_reads.specs.Standing.{Keeps, kept}
use Rattle.kmc_reads.proofs.Feeding.{given, not_given, settled_stripped}
use Rattle.kmc_reads.proofs.Walking.{take_whole}
use Rattle.kmc_reads.proofs.scan.Scan.end_line.Goals as goal
use Rattle.kmc_reads.proofs.scan.Scan.end_line.Goals.{in-Quality+in_ok-close-in-Quality, in_default}

pub returns-clause-at : goal.returns-clause-at
returns-clause-at c = λ rows spot front at.
    let line = strip_last 13 front in
    let next = c.next_line.new.self in
    let emptied : Spot = record { number = spot.number; stage = spot.stage; read = [] } in
    let settled = settled_stripped spot.stage spot.read front at.settled in
    elim c.match-self.branch [
      | in-Quality+in_ok-close-in-Quality w ↦
          let q : spot.stage ≡ Quality = sym at.keeps.stage ∙ w.in-Quality.is in
          let none : kept spot.stage line ≡ [] = ap (λ st. kept st line) q in
          let begun : begun_by spot.stage [] line ≡ [] = ap (λ st. begun_by st [] line) q in
          let closed = subst (λ s. Keeps (rows ++ spot.read ∷ []) emptied line s) (sym w.self-is)
          (w.in_ok-close-in-Quality.ensures.keeps rows spot line at.keeps none) in
          given rows spot.number spot.read line next spot.stage q (c.next_line.ensures.at (rows ++ spot.read ∷ []) emptied line closed (λ _. refl) begun)
      | in_default w ↦
          let other : spot.stage ≡ Quality → ⊥ = λ e. w.in_default.not-Quality (at.keeps.stage ∙ e) in
          not_given rows spot.number spot.read line next spot.stage other settled
          (c.next_line.ensures.at rows spot line (subst (λ s. Keeps rows spot line s) (sym w.self-is) at.keeps) (λ e. absurd (other e)) settled)
    ]

pub returns-in_err-judge-clause-ends : goal.returns-in_err-judge-clause-ends
returns-in_err-judge-clause-ends c = take_whole _

pub returns-clause-ends : goal.returns-clause-ends
returns-clause-ends c = grind (arith, common_steps)
