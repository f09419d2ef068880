use Rattle.std.proofs.Common.{◌≡◌, ℕ, ◌+◌, ◌-◌, List, ◌++◌, take, drop, sym, ap, subst, ◌∙◌, arith}
use Rattle.kmc_database.specs.Numbers.{low_first}
use Rattle.kmc_database.proofs.TakenBytes.{goes_as, length_unread, unread_cut}
use Rattle.kmc_database.proofs.taking.next_number.Goals as goal

pub returns-clause-ok : goal.returns-clause-ok
returns-clause-ok g c =
    let r = c.has_next.new.room in
    let h = c.in_ok-has_next.ensures in
    let n = c.args.size in
    let long = length_unread r h.room in
    let there = h.there c.if-not-branch.false in
    let front : take n (drop r.from r.bytes.items) ≡ low_first n c.number_at-number.result =
    sym (subst (λ (t : List ℕ). low_first n c.number_at-number.result ≡ take n (drop r.from t)) c.deref.ensures.value c.number_at-number.ensures.bytes) in
    let after = take (r.to - (r.from + n)) (drop (r.from + n) r.bytes.items) in (
      goes_as _ _ _ _ _ (unread_cut r.from r.to n r.bytes.items (omega (arith, long, there, h.room.order)) ∙ ap (λ (t : List ℕ). t ++ after) front) h.ok,
      c.number_at-number.ensures.fits,
    )
