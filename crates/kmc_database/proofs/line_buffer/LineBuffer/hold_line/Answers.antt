use Rattle.std.proofs.Common.{length, ap, ◌∙◌, arith}
use Rattle.kmc_base.specs.Lemmas.Packing.{length_unpack}
use Rattle.kmc_database.proofs.line_buffer.LineBuffer.hold_line.Goals as goal

pub put_line-self-inside-requires : goal.put_line-self-inside-requires
put_line-self-inside-requires c =
    let long = ap length c.of_packed-word.ensures ∙ length_unpack c.args.k c.args.packed in
    omega (arith, long, c.self.told, c.requires.most)
