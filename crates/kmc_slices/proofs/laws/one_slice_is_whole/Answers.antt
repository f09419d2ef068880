use Rattle.kmc_slices.proofs.Whole.{one_slice_whole}
use Rattle.kmc_slices.proofs.laws.one_slice_is_whole.Goals as goal

pub returns : goal.returns
returns c =
    one_slice_whole c.body_has_one_list.ensures c.merged_bins_hold_both.ensures c.empty_bins_hold_no_reads.ensures c.held_reads_are_counted.ensures
