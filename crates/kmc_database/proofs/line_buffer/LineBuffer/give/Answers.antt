use Rattle.std.proofs.Common.{drop, sym, ◌∙◌, arith}
use Rattle.kmc_database.proofs.HandedOut.{handed_out}
use Rattle.kmc_database.proofs.line_buffer.LineBuffer.give.Goals as goal

pub returns-clause-bytes : goal.returns-clause-bytes
returns-clause-bytes c =
    let b = c.self.inside in
    let n = c.min-count.result in
    sym c.self.view_is
    ∙ handed_out b.room c.copy_from_slice.new.self (drop n c.args.out.now) b.at b.end n
    (omega (arith, c.min-count.ensures, c.self.invariant)) (omega (arith, c.self.invariant)) c.copy_from_slice.ensures.after
