use Rattle.std.proofs.Common.{vec_len}
use Rattle.kmc_stage_one.proofs.splitters.+split_all.Given as goal

abbrev pub decreases-split_all : goal.decreases-split_all
decreases-split_all g l = vec_len l.seats
