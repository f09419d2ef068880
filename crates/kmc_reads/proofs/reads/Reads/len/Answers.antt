use Rattle.std.proofs.Common.{rules, ◌≡◌, length, sym, ap, ◌∙◌, vec_len}
use Rattle.kmc_reads.proofs.Rows.{rows_many}
use Rattle.kmc_reads.proofs.reads.Reads.len.Goals as goal

pub returns : goal.returns
returns c =
    let inside = c.self.inside in
    let counted : vec_len inside.ends ≡ length inside.ends.items = search rules in
    c.len.ensures ∙ counted ∙ sym (rows_many 0 inside.ends.items inside.bytes.items) ∙ ap length c.self.view_is
