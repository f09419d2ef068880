use Rattle.std.proofs.Common.{vec_len}
use Rattle.kmc_stage_one.proofs.workers.+store_all.Given as goal

abbrev pub decreases-store_all : goal.decreases-store_all
decreases-store_all g l = vec_len l.seats.shards
