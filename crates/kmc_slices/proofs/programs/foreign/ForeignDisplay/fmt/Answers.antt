use Rattle.std.proofs.Common.{◌≡◌, ◌∙◌, ◌++◌, ℕ, List, ap, append_assoc, codes, decimal, sym, subst}
use Rattle.std.specs.Fmt.{HasWritten}
use Rattle.kmc_slices.specs.Messages.{text_of_part_error}
use Rattle.kmc_slices.proofs.programs.foreign.ForeignDisplay.fmt.Goals as goal

regrouped : (a b c d e : List ℕ) → a ++ b ++ c ++ d ++ e ≡ a ++ (b ++ (c ++ (d ++ e)))
regrouped a b c d e = append_assoc (a ++ b ++ c) d e ∙ append_assoc (a ++ b) c (d ++ e) ∙ append_assoc a b (c ++ (d ++ e))

pub returns-in-Damaged-clause-writes : goal.returns-in-Damaged-clause-writes
returns-in-Damaged-clause-writes g c = λ plain ok.
    let bin = c.args.self.now.0.bin in
    let text = regrouped (codes "bin ") (decimal bin) (codes ": the record at byte ") (decimal c.in-Damaged.offset) (codes " is damaged") in
    subst (λ text. HasWritten g.W.Write.write_str_gives c.args.f.now text c.write.new.self)
    (sym (ap (text_of_part_error bin) c.in-Damaged.is ∙ text)) (c.write.ensures.writes plain ok)
