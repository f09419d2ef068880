use Rattle.std.proofs.Common.{◌≡◌, sym, ◌-◌, ◌+◌, ◌≤◌, List, ℕ, take, drop, subst, arith, length-drop}
use Rattle.std.proofs.lemmas.List.{length-take-le}
use Rattle.kmc_sum.proofs.Rooms.{taken, some_unread}
use Rattle.kmc_sum.specs.Faults.{BeginsNoLine}
use Rattle.kmc_sum.specs.Line.{IsLineOf}
use Rattle.kmc_sum.specs.declared.error.LineFault.TheVariants.{Malformed}
use Rattle.kmc_sum.specs.Source.{unread}
use Rattle.kmc_sum.proofs.source.next_text_line.Goals as goal

pub returns-in-Some-clause-ok : goal.returns-in-Some-clause-ok
returns-in-Some-clause-ok g c =
    let r = c.fill.new.room in
    let line = subst (λ (l : List ℕ). IsLineOf c.in-Some.line (take (r.to - r.from) (drop r.from l))) c.deref.ensures.value c.in-Some.ensures in
    let room = c.in-Ok.ensures.room in
    let few : r.from + c.in-Some.line.end ≤ r.to =
    omega (
      arith,
      line.within,
      length-take-le (r.to - r.from) (drop r.from r.bytes.items)
          (omega (arith, length-drop r.from r.bytes.items, room.inside)),
      room.order,
    ) in (
      unread r,
      c.in-Ok.ensures.ok,
      (line, taken r.from r.to c.in-Some.line.end r.bytes.items few, omega (arith, c.saturating_add-number.ensures, c.in-Ok.ensures.lines)),
    )

pub returns-in-None-clause-malformed : goal.returns-in-None-clause-malformed
returns-in-None-clause-malformed g c = λ line fault is.
    let number : c.saturating_add-number.result ≡ line = cc is in
    let kind : Malformed ≡ fault = cc is in
    let r = c.fill.new.room in
    let room = c.in-Ok.ensures.room in (
      omega (arith, number, c.saturating_add-number.ensures, c.in-Ok.ensures.lines),
      sym kind,
      unread r,
      c.in-Ok.ensures.ok,
      some_unread r.from r.to r.bytes.items room.order room.inside c.if-room.false,
      c.in-Ok.ensures.enough,
      subst (λ (l : List ℕ). BeginsNoLine (take (r.to - r.from) (drop r.from l))) c.deref.ensures.value c.in-None.ensures,
    )
