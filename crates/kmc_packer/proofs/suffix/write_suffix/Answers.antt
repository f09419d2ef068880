use Rattle.kmc_packer.proofs.Written.{end_front, marker_front, rows_front}
use Rattle.kmc_packer.proofs.suffix.write_suffix.Goals as goal

pub returns-in-Err-clause-front : goal.returns-in-Err-clause-front
returns-in-Err-clause-front g c = λ _. marker_front _ _ _ _ c.in-Err.ensures.front

pub returns-in-Err-write_pairs-clause-front : goal.returns-in-Err-write_pairs-clause-front
returns-in-Err-write_pairs-clause-front g c = λ is. rows_front _ _ _ _ _ c.in-Ok.ensures.ok (c.in-Err-write_pairs.ensures.front is)

pub returns-in-Err-write_end-clause-front : goal.returns-in-Err-write_end-clause-front
returns-in-Err-write_end-clause-front g c = λ _.
    end_front _ _ _ _ _ _ c.in-Ok.ensures.ok c.in-Ok-write_pairs.ensures.ok c.in-Err-write_end.ensures.front
