use Rattle.kmc_slices.proofs.Whole.{slices_whole}
use Rattle.kmc_slices.proofs.laws.slices_are_whole.Goals as goal

pub returns : goal.returns
returns c =
    slices_whole c.body_has_one_list.ensures c.merged_bins_hold_both.ensures c.empty_bins_hold_no_reads.ensures c.held_reads_are_counted.ensures
    c.bins_share_no_key.ensures
