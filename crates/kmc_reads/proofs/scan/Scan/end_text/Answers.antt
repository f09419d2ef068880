use Rattle.std.proofs.Common.{◌++◌, ap, subst, ◌∙◌, append_assoc}
use Rattle.std.proofs.lemmas.Result.{on_ok_weaker, IfErr-weaker}
use Rattle.kmc_reads.specs.Answer.{with_reads}
use Rattle.kmc_reads.specs.Standing.{Lies}
use Rattle.kmc_reads.proofs.PassedOn.{passed_on}
use Rattle.kmc_reads.proofs.Walking.{take_front}
use Rattle.kmc_reads.proofs.scan.Scan.end_text.Goals as goal

pub returns-in_err-end_open-clause-refused : goal.returns-in_err-end_open-clause-refused
returns-in_err-end_open-clause-refused c = λ rows spot front at.
    passed_on c.end_open.result c.from_residual.result _ _ _ c.in_err-end_open.was (c.end_open.ensures.refused rows spot front at)
    c.from_residual.ensures.1 λ e found. found

pub returns-clause-whole : goal.returns-clause-whole
returns-clause-whole c = λ rows spot front at.
    let line = c.in_ok-end_open.ensures.whole rows spot front at in
    on_ok_weaker c.end_read.result
    (λ read. record {
      more = line.more ++ read.more;
      reads = line.reads ∙ ap (with_reads line.more) read.answer;
      behind = read.behind;
      lies = subst (λ t. Lies t read.behind c.end_read.new.self) (append_assoc rows line.more read.more) read.lies;
    })
    (c.end_read.ensures.whole (rows ++ line.more) line.next line.stands)

pub returns-clause-refused : goal.returns-clause-refused
returns-clause-refused c = λ rows spot front at.
    let line = c.in_ok-end_open.ensures.whole rows spot front at in
    IfErr-weaker c.end_read.result _ _
    (λ e found other. line.reads ∙ ap (with_reads line.more) (found other))
    (c.end_read.ensures.refused (rows ++ line.more) line.next line.stands)

pub returns-clause-bytes : goal.returns-clause-bytes
returns-clause-bytes c = c.end_read.ensures.bytes ∙ c.end_open.ensures.bytes

pub returns-clause-ends : goal.returns-clause-ends
returns-clause-ends c = take_front _ _ _ c.end_open.ensures.ends c.end_read.ensures.ends
