use Rattle.std.proofs.Common.{ℕ, ◌-◌, List, take, drop, ap, ◌∙◌, arith}
use Rattle.kmc_database.proofs.LeftBytes.{moved_front}
use Rattle.kmc_database.proofs.next_bytes.NextBytes.shift.Goals as goal

pub returns-clause-held : goal.returns-clause-held
returns-clause-held g c =
    let f = c.args.self.now in
    ap (λ (t : List ℕ). take (f.to - f.from - 0) (drop 0 t)) c.copy_within.ensures.after
    ∙ moved_front f.room f.from f.to (omega (arith, f.order)) (omega (arith, f.within, f.long))
