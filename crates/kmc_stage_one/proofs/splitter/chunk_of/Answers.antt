use Rattle.std.proofs.Common.{◌*◌}
use Rattle.kmc_stage_one.proofs.Chunks.{few_left, last_chunk, full_chunk}
use Rattle.kmc_stage_one.proofs.splitter.chunk_of.Goals as goal

pub returns-then-rest-batch : goal.returns-then-rest-batch
returns-then-rest-batch c = last_chunk (λ r. r.now) c.args.reads.now (c.args.c * c.args.batch) c.args.batch
    (few_left c.args.reads.now (c.args.c * c.args.batch) c.args.batch c.if-rest-batch.true)

pub returns : goal.returns
returns c = full_chunk (λ r. r.now) c.args.reads.now (c.args.c * c.args.batch) c.args.batch
