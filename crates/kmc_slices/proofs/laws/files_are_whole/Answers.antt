use Rattle.kmc_slices.proofs.Files.{files_whole}
use Rattle.kmc_slices.proofs.laws.files_are_whole.Goals as goal

pub returns : goal.returns
returns c =
    files_whole c.body_has_one_list.ensures c.merged_bins_hold_both.ensures c.empty_bins_hold_no_reads.ensures c.held_reads_are_counted.ensures
    c.bins_share_no_key.ensures c.cut_reads_are_counted.ensures
    c.pieces_are_counted_as_reads.ensures c.counts_add.ensures c.files_are_one.ensures
