use Rattle.std.proofs.Common.{subst}
use Rattle.kmc_join.specs.Tally.{IsHistogramCause}
use Rattle.kmc_sum.specs.Sources.{failures_of, lefts_of}
use Rattle.kmc_database.specs.DumpSource.{rest_of_source}
use Rattle.kmc_database.proofs.source_joins.histogram_source.Goals as goal

pub returns-in-Err-clause-failed : goal.returns-in-Err-clause-failed
returns-in-Err-clause-failed g c = λ is.
    let rest = rest_of_source g.T.Read.remaining g.R.Read.remaining in
    let nows = lefts_of rest c.histogram.new.readers in
    let news = failures_of c.histogram.new.readers in
    let cause = subst
    (λ (all : _). IsHistogramCause g.W.Write.contents (lefts_of rest all) nows (failures_of all) news c.args.writer.now c.histogram.new.writer
    c.in-Err.error) c.as_mut_slice.ensures.value c.in-Err.ensures.cause in
    (c.in-Err.error, nows, news, cause)
