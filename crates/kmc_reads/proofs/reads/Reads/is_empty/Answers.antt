use Rattle.std.proofs.Common.{rules, ◌≡◌, length, ap, vec_len, arith}
use Rattle.std.proofs.lemmas.Bool.Decides.{nat_tests}
use Rattle.kmc_reads.proofs.Rows.{rows_many}
use Rattle.kmc_reads.proofs.reads.Reads.is_empty.Goals as goal

pub returns-clause-some : goal.returns-clause-some
returns-clause-some c = λ no_read.
    let inside = c.self.inside in
    let counted : vec_len inside.ends ≡ length inside.ends.items = search rules in
    let many = rows_many 0 inside.ends.items inside.bytes.items in
    let seen = ap length c.self.view_is in
    grind (arith, nat_tests, counted, many, seen, no_read, c.is_empty.ensures)
