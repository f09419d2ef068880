use Rattle.std.proofs.Common.{[], sym, ap, ◌∙◌, append-nil, Ok, None}
use Rattle.kmc_reads.specs.Reads.{reads_of}
use Rattle.kmc_base.specs.Lemmas.PassedOn.{passed_on}
use Rattle.kmc_reads.proofs.whole_text.read_all.Goals as goal

pub returns-in_err-feed-clause-refused : goal.returns-in_err-feed-clause-refused
returns-in_err-feed-clause-refused c =
    let text = c.args.bytes.now in let format = c.args.format in let e = c.in_err-feed.field-0.0 in
    passed_on _ c.from_residual.result e c.from_residual.ensures.1 (λ other.
    ap (reads_of format) (sym (append-nil text))
    ∙ c.fault_stays.ensures format text [] e (c.in_err-feed.ensures.refused None format [] [] (c.new-feeder.ensures None) other).0)

pub returns-in-Ok-clause-ok : goal.returns-in-Ok-clause-ok
returns-in-Ok-clause-ok c =
    let text = c.args.bytes.now in let format = c.args.format in
    let stands = c.in_ok-feed.ensures.stands None format [] [] (c.new-feeder.ensures None) in
    c.in-Ok.ensures.all None format text [] stands ∙ ap Ok (sym c.in_ok-to_vecs-in-Ok.ensures)

pub returns-clause-refused : goal.returns-clause-refused
returns-clause-refused c = λ other.
    let text = c.args.bytes.now in let format = c.args.format in
    let stands = c.in_ok-feed.ensures.stands None format [] [] (c.new-feeder.ensures None) in
    (c.in-Err.ensures.refused None format text [] stands other).0
