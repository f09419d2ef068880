use Rattle.std.proofs.Common.{◌∙◌}
use Rattle.kmc_stage_two.proofs.Counting.{held_counted}
use Rattle.kmc_stage_two.proofs.laws.held_reads_are_counted.Goals as goal

pub returns : goal.returns
returns c = λ strands shape reads bodies sss some_k some h zip x.
    held_counted c.body_has_one_list.ensures c.cut_keeps_words.ensures c.segments_are_maximal.ensures c.keys_of_segments.ensures strands shape reads bodies sss some_k some h zip x
    ∙ c.keys_of_reads_are_counted.ensures strands shape.k reads x
