use Rattle.std.proofs.Common.{◌≡◌, ℕ, ◌+◌, ◌-◌, ◌≤◌, List, ◌++◌, take, drop, sym, ap, subst, ◌∙◌, arith}
use Rattle.std.proofs.lemmas.List.{take-take}
use Rattle.kmc_database.specs.Rows.{row_long, row_of}
use Rattle.kmc_database.specs.TakenRow.{pair_of_row}
use Rattle.kmc_database.proofs.TakenBytes.{goes_as, length_unread, unread_cut}
use Rattle.kmc_database.proofs.row_reading.next_row.Goals as goal

pub returns-clause-ok : goal.returns-clause-ok
returns-clause-ok g c =
    let r = c.has_next.new.room in
    let h = c.in_ok-has_next.ensures in
    let l = c.args.layout.now in
    let n = row_long l in
    let row = c.row_at-row.result in
    let long = length_unread r h.room in
    let there = h.there c.if-not-branch.false in
    let few : n ≤ r.to - r.from = omega (arith, long, there) in
    let slice : take n (take (r.to - r.from) (drop r.from r.bytes.items)) ≡ row_of l (pair_of_row l row) =
    subst (λ (t : List ℕ). take n (take (r.to - r.from) (drop r.from t)) ≡ row_of l (pair_of_row l row)) c.deref.ensures.value c.row_at-row.ensures.is in
    let front : take n (drop r.from r.bytes.items) ≡ row_of l (pair_of_row l row) =
    sym (take-take n (r.to - r.from) (drop r.from r.bytes.items) few) ∙ slice in
    let after = take (r.to - (r.from + n)) (drop (r.from + n) r.bytes.items) in
    record {
      goes = goes_as _ _ _ _ _ (unread_cut r.from r.to n r.bytes.items (omega (arith, few, h.room.order)) ∙ ap (λ (t : List ℕ). t ++ after) front) h.ok;
      fits = c.row_at-row.ensures.fits;
      first = c.row_at-row.ensures.part;
      small = c.row_at-row.ensures.count;
    }
