use Rattle.std.proofs.Common.{ℕ, List, Option, ap, subst}
use Rattle.kmc_join.specs.Table.{IsTableWritten}
use Rattle.kmc_join.specs.Tabulation.{IsTableCause}
use Rattle.kmc_sum.specs.Sources.{failures_of, lefts_of}
use Rattle.kmc_database.specs.DumpSource.{rest_of_source}
use Rattle.kmc_database.proofs.source_joins.table_sources.Goals as goal

pub returns-in-Ok-clause-done : goal.returns-in-Ok-clause-done
returns-in-Ok-clause-done g c = λ is.
    let rest = rest_of_source g.T.Read.remaining g.R.Read.remaining in
    let written = subst
    (λ (starts : List (Option (List ℕ))). IsTableWritten c.args.cap starts (lefts_of rest c.table.new.readers)
    (g.W.Write.contents c.args.writer.now.inner) (g.W.Write.contents c.table.new.writer.inner))
    (ap (lefts_of rest) c.as_mut_slice.ensures.value) c.in-Ok.ensures.ok in
    ((_, written), c.in-Ok.ensures.sound.1)

pub returns-in-Err-clause-failed : goal.returns-in-Err-clause-failed
returns-in-Err-clause-failed g c = λ is.
    let rest = rest_of_source g.T.Read.remaining g.R.Read.remaining in
    let nows = lefts_of rest c.table.new.readers in
    let news = failures_of c.table.new.readers in
    let cause = subst
    (λ (all : _). IsTableCause g.W.Write.contents c.args.cap (lefts_of rest all) nows (failures_of all) news c.args.writer.now c.table.new.writer
    c.in-Err.error) c.as_mut_slice.ensures.value c.in-Err.ensures.cause in
    (c.in-Err.error, nows, news, cause)
