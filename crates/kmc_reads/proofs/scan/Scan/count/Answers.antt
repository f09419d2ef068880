use Rattle.std.proofs.Common.{rules, ◌≡◌, length, ap, ◌∙◌, vec_len}
use Rattle.kmc_reads.proofs.Rows.{ends_many}
use Rattle.kmc_reads.proofs.scan.Scan.count.Goals as goal

pub returns : goal.returns
returns c = λ rows spot front at.
    let counted : vec_len c.args.self.now.ends ≡ length c.args.self.now.ends.items = search rules in
    c.len.ensures ∙ counted ∙ ap length at.keeps.ends ∙ ends_many 0 rows
