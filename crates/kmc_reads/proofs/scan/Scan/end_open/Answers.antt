use Rattle.std.proofs.Common.{[], sym, ap, subst, ◌∙◌, append-nil}
use Rattle.std.proofs.lemmas.Result.{IfErr-weaker}
use Rattle.std.specs.Io.BufRead.{strip_last}
use Rattle.kmc_reads.specs.OpenLines.{last_line}
use Rattle.kmc_reads.specs.Stages.{reads_from, past, given_by, answer_past, answer_at_end}
use Rattle.kmc_reads.specs.Standing.{At}
use Rattle.kmc_reads.proofs.Feeding.{last_is_line}
use Rattle.kmc_reads.proofs.PassedOn.{on_ok_both}
use Rattle.kmc_reads.proofs.Walking.{take_whole}
use Rattle.kmc_reads.proofs.Answers.{with_none}
use Rattle.kmc_reads.proofs.scan.Scan.end_open.Goals as goal

pub returns-then-is_between-clause-whole : goal.returns-then-is_between-clause-whole
returns-then-is_between-clause-whole c = λ rows spot front at.
    let empty = c.is_between.ensures.none rows spot front at c.if-is_between.true in
    record {
      more = [];
      next = spot;
      reads = ap (λ t. reads_from spot (last_line t)) empty ∙ sym (with_none (answer_at_end spot.number spot.stage spot.read));
      stands = subst (λ t. At t spot [] c.args.self.now) (sym (append-nil rows)) (subst (λ t. At rows spot t c.args.self.now) empty at);
    }

pub returns-clause-whole : goal.returns-clause-whole
returns-clause-whole c = λ rows spot front at.
    let line = strip_last 13 front in
    let given = given_by spot.stage spot.read line in let next = past spot line in
    let some = c.is_between.ensures.some rows spot front at c.if-is_between.false in
    on_ok_both c.end_line.result
    (λ fine stands. record {
      more = given;
      next = next;
      reads = ap (reads_from spot) (last_is_line front some) ∙ ap (λ o. answer_past o given (answer_at_end next.number next.stage next.read)) fine;
      stands = stands;
    })
    (c.end_line.ensures.fine rows spot front at)
    (c.end_line.ensures.at rows spot front at)

pub returns-clause-refused : goal.returns-clause-refused
returns-clause-refused c = λ rows spot front at.
    let line = strip_last 13 front in
    let given = given_by spot.stage spot.read line in let next = past spot line in
    let some = c.is_between.ensures.some rows spot front at c.if-is_between.false in
    IfErr-weaker c.end_line.result _ _
    (λ e found other. ap (reads_from spot) (last_is_line front some)
    ∙ ap (λ o. answer_past o given (answer_at_end next.number next.stage next.read)) (found other))
    (c.end_line.ensures.fault rows spot front at)

pub returns-then-is_between-clause-ends : goal.returns-then-is_between-clause-ends
returns-then-is_between-clause-ends c = take_whole _

pub returns-clause-bytes : goal.returns-clause-bytes
returns-clause-bytes c = c.end_line.ensures.bytes

pub returns-clause-ends : goal.returns-clause-ends
returns-clause-ends c = c.end_line.ensures.ends
