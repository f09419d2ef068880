use Rattle.std.proofs.Common.{ℕ, List, Option, ap, subst}
use Rattle.kmc_join.specs.State.{IsBegun, IsJoinWritten}
use Rattle.kmc_sum.specs.Answer.{IsCause}
use Rattle.kmc_sum.specs.Sources.{failures_of, lefts_of}
use Rattle.kmc_database.specs.DumpSource.{rest_of_source}
use Rattle.kmc_database.proofs.source_joins.join_sources.Goals as goal

pub returns-in-Ok-clause-done : goal.returns-in-Ok-clause-done
returns-in-Ok-clause-done g c = λ is.
    let rest = rest_of_source g.T.Read.remaining g.R.Read.remaining in
    let written = subst
    (λ (starts : List (Option (List ℕ))). IsJoinWritten c.args.rule c.args.limits.now starts (lefts_of rest c.join.new.readers) c.in-Ok.field-0
    (g.W.Write.contents c.args.writer.now.inner) (g.W.Write.contents c.join.new.writer.inner))
    (ap (lefts_of rest) c.as_mut_slice.ensures.value) c.in-Ok.ensures.ok in
    ((_, _, written), c.in-Ok.ensures.sound.1)

pub returns-in-Err-clause-failed : goal.returns-in-Err-clause-failed
returns-in-Err-clause-failed g c = λ is.
    let rest = rest_of_source g.T.Read.remaining g.R.Read.remaining in
    let nows = lefts_of rest c.join.new.readers in
    let news = failures_of c.join.new.readers in
    let same = c.as_mut_slice.ensures.value in
    let error = c.in-Err.error in
    let cause = subst
    (λ (all : _). IsCause (lefts_of rest all) nows (failures_of all) news
    c.args.writer.now.failures c.join.new.writer.failures error) same c.in-Err.ensures.cause in
    let begun = subst
    (λ (all : _). IsBegun c.in-Err.ensures.begun.0 c.args.rule c.args.limits.now (lefts_of rest all) nows
    (g.W.Write.contents c.args.writer.now.inner) (g.W.Write.contents c.join.new.writer.inner)) same c.in-Err.ensures.begun.1 in
    (error, nows, news, cause, _, begun)
