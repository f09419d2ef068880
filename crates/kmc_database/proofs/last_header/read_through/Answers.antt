use Rattle.std.proofs.Common.{◌≡◌, ℕ, ◌+◌, ◌-◌, ◌≤◌, length, ◌∙◌, arith}
use Rattle.kmc_sum.specs.Source.{unread}
use Rattle.kmc_database.proofs.TakenBytes.{length_unread, unread_behind}
use Rattle.kmc_database.proofs.Through.{through_end, through_next}
use Rattle.kmc_database.proofs.last_header.read_through.Goals as goal

pub returns-then-not-branch-clause-ok : goal.returns-then-not-branch-clause-ok
returns-then-not-branch-clause-ok g c =
    let r = c.has_next.new.room in
    let h = c.in_ok-has_next.ensures in
    let long = length_unread r h.room in
    let short = h.short c.if-not-branch.true in
    through_end _ _ _ _ _ c.loop-step.gone c.loop-step._step c.loop-step.invariant.through h.ok c.saturating_add.result
    (omega (arith, c.saturating_add.ensures, long)) short.1

pub loop-step-preserved : goal.loop-step-preserved
loop-step-preserved g c =
    let r = c.has_next.new.room in
    let h = c.in_ok-has_next.ensures in
    let long : length (unread r) ≡ r.to - r.from = length_unread r h.room in
    let there : 73 ≤ length (unread r) = h.there c.if-not-branch.false in
    let more : ℕ = r.to - r.from - 72 in
    let few : r.from + more ≤ r.to = omega (arith, long, there, h.room.order) in
    record {
      room = record { order = few; inside = h.room.inside; place = h.room.place };
      kept = h.kept ∙ c.loop-step.invariant.kept;
      through = through_next _ _ _ _ _ c.loop-step.gone c.loop-step._step c.loop-step.invariant.through h.ok more c.saturating_add-gone.result _
          (omega (arith, long, there)) (omega (arith, long, there)) (omega (arith, c.saturating_add-gone.ensures))
          (unread_behind r.from r.to more r.bytes.items few h.room.inside);
    }
