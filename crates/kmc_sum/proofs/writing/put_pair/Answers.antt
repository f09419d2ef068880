use Rattle.std.proofs.Common.{sym, ap, ◌∙◌}
use Rattle.kmc_base.specs.Packed.{unpack}
use Rattle.kmc_lists.specs.Line.{text_of}
use Rattle.kmc_sum.specs.Lemmas.Written.{none_kept, out_same, word_put}
use Rattle.kmc_sum.proofs.writing.put_pair.Goals as goal

pub returns-in_ok-put_line-in-Some-clause-text : goal.returns-in_ok-put_line-in-Some-clause-text
returns-in_ok-put_line-in-Some-clause-text g c =
    word_put c.args.limits.now (unpack c.args.k c.args.packed) _ c.args.count _ _ _ _ _ c.if-count-eq0.false (sym c.keep.ensures ∙ c.in-Some.is)
    c.of_packed-word.ensures c.in_ok-put_line-in-Some.ensures.ok

pub returns-in-None-clause-text : goal.returns-in-None-clause-text
returns-in-None-clause-text g c =
    out_same _ _ _ (ap text_of (none_kept c.args.limits.now (unpack c.args.k c.args.packed) c.args.count (sym c.keep.ensures ∙ c.in-None.is)))
