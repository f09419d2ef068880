use Rattle.std.proofs.Common.{◌≡◌, ℕ, ◌-◌, ◌≤◌, List, length, take, drop, sym, subst, ◌∙◌, arith, length-drop}
use Rattle.std.proofs.lemmas.List.{length-take-le}
use Rattle.kmc_database.specs.Header.{IsFormFault, IsHeaderOf}
use Rattle.std.specs.Prelude.{slice_index}
use Rattle.kmc_database.specs.Unpacked.{strands_by}
use Rattle.kmc_database.proofs.LastHeader.{header_found, no_header, other_length, strands_found}
use Rattle.kmc_database.proofs.TakenBytes.{unread_at}
use Rattle.kmc_database.proofs.last_header.last_header.Goals as goal

pub returns-then-size-prefix_long-clause-ok : goal.returns-then-size-prefix_long-clause-ok
returns-then-size-prefix_long-clause-ok g c =
    let r = c.read_through.new.room in
    let room = c.in-Ok.ensures.room in
    let low : r.from ≤ r.to - 72 = omega (arith, c.if-room-lt-HEADER.false) in
    let h = c.in-Ok-found.header in
    header_found _ _ _ c.in-Ok.size c.in-Ok.ensures.ok _ _ (unread_at r.from (r.to - 72) r.to r.bytes.items low (omega arith)) h
    (subst (λ (l : List ℕ). IsHeaderOf (take (r.to - (r.to - 72)) (drop (r.to - 72) l)) h) c.deref.ensures.value c.in-Ok-found.ensures)
    (c.if-size-prefix_long.true ∙ c.prefix_long.ensures)

pub returns-then-size-prefix_long-clause-strands : goal.returns-then-size-prefix_long-clause-strands
returns-then-size-prefix_long-clause-strands g c =
    let r = c.read_through.new.room in
    let room = c.in-Ok.ensures.room in
    let low : r.from ≤ r.to - 72 = omega (arith, c.if-room-lt-HEADER.false) in
    let h = c.in-Ok-found.header in
    let tail : List ℕ = take (r.to - (r.to - 72)) (drop (r.to - 72) r.bytes.items) in
    let size : length tail ≡ r.to - (r.to - 72) =
    length-take-le (r.to - (r.to - 72)) (drop (r.to - 72) r.bytes.items) (omega (arith, length-drop (r.to - 72) r.bytes.items, room.inside)) in
    let long : length tail ≡ 72 = omega (arith, size, c.if-room-lt-HEADER.false) in
    strands_found _ _ _ c.in-Ok.size c.in-Ok.ensures.ok _ _ (unread_at r.from (r.to - 72) r.to r.bytes.items low (omega arith)) h
    (subst (λ (l : List ℕ). IsHeaderOf (take (r.to - (r.to - 72)) (drop (r.to - 72) l)) h) c.deref.ensures.value c.in-Ok-found.ensures)
    (c.if-size-prefix_long.true ∙ c.prefix_long.ensures) long _
    (subst (λ (l : List ℕ). c.strands_by-strands.result ≡ strands_by (slice_index (take (r.to - (r.to - 72)) (drop (r.to - 72) l)) 32)) c.deref.ensures.value
    c.strands_by-strands.ensures)

pub returns-else-size-prefix_long-clause-cause : goal.returns-else-size-prefix_long-clause-cause
returns-else-size-prefix_long-clause-cause g c =
    let r = c.read_through.new.room in
    let low : r.from ≤ r.to - 72 = omega (arith, c.if-room-lt-HEADER.false) in
    let h = c.in-Ok-found.header in (
      other_length _ _ _ c.in-Ok.size c.in-Ok.ensures.ok _ _ (unread_at r.from (r.to - 72) r.to r.bytes.items low (omega arith)) h
          (subst (λ (l : List ℕ). IsHeaderOf (take (r.to - (r.to - 72)) (drop (r.to - 72) l)) h) c.deref.ensures.value c.in-Ok-found.ensures)
          (λ e. c.if-size-prefix_long.false (e ∙ sym c.prefix_long.ensures)),
      c.in-Ok.ensures.kept,
    )

pub returns-in-Err-found-clause-cause : goal.returns-in-Err-found-clause-cause
returns-in-Err-found-clause-cause g c =
    let r = c.read_through.new.room in
    let room = c.in-Ok.ensures.room in
    let low : r.from ≤ r.to - 72 = omega (arith, c.if-room-lt-HEADER.false) in
    let fault = c.in-Err-found.fault in
    let tail : List ℕ = take (r.to - (r.to - 72)) (drop (r.to - 72) r.bytes.items) in
    let size : length tail ≡ r.to - (r.to - 72) =
    length-take-le (r.to - (r.to - 72)) (drop (r.to - 72) r.bytes.items) (omega (arith, length-drop (r.to - 72) r.bytes.items, room.inside)) in
    let long : length tail ≡ 72 = omega (arith, size, c.if-room-lt-HEADER.false) in (
      no_header _ _ _ c.in-Ok.size c.in-Ok.ensures.ok _ tail (unread_at r.from (r.to - 72) r.to r.bytes.items low (omega arith)) fault long
          (subst (λ (l : List ℕ). IsFormFault (take (r.to - (r.to - 72)) (drop (r.to - 72) l)) fault) c.deref.ensures.value c.in-Err-found.ensures),
      c.in-Ok.ensures.kept,
    )
