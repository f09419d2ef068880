use Rattle.std.proofs.Common.{refl, ap, ◌∙◌}
use Rattle.kmc_count.specs.Occurrences.{count_of}
use Rattle.kmc_count.specs.Merge.{joined}
use Rattle.kmc_lists.specs.Line.{text_of}
use Rattle.kmc_sum.proofs.Parts.{whole}
use Rattle.kmc_sum.proofs.Texts.{same_lists}
use Rattle.kmc_sum.proofs.laws.merged_texts_are_whole.Goals as goal

pub returns : goal.returns
returns c = λ strands k every l parts texts pairs each dumps few merge.
    let lists = same_lists c.keys_of_reads_are_counted.ensures strands k every each merge.k parts texts merge.lists dumps merge.listed in
    let dump = whole strands k every l parts merge.lists pairs each lists few merge.dump in (
      record { pairs = pairs; dump = dump; is = refl },
      λ text other. other.is ∙ ap text_of (c.one_dump.ensures (count_of strands k (joined parts)) l other.pairs pairs other.dump dump),
    )
