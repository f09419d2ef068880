use Rattle.std.proofs.Common.{◌++◌, [], ◌∷◌, ap, ◌∙◌, length, take}
use Rattle.std.proofs.lemmas.Result.{IfErr-weaker}
use Rattle.kmc_reads.proofs.PassedOn.{on_ok_both}
use Rattle.kmc_reads.proofs.Walking.{then_goes, fed, feed_faults, then_faults, take_front}
use Rattle.kmc_reads.proofs.scan.Scan.last_part.Goals as goal

pub returns-clause-goes : goal.returns-clause-goes
returns-clause-goes c = λ rows spot front at unbroken.
    let line = c.args.bytes.now in let between = c.extend.new.self in let new = c.end_line.new.self in
    let g = c.in_ok-extend.ensures.goes rows spot front at unbroken in
    on_ok_both c.end_line.result
    (λ fine next. then_goes rows spot front line (10 ∷ []) between new g (fed (rows ++ g.more) g.next g.left new fine next))
    (c.end_line.ensures.fine (rows ++ g.more) g.next g.left g.stands)
    (c.end_line.ensures.at (rows ++ g.more) g.next g.left g.stands)

pub returns-clause-fault : goal.returns-clause-fault
returns-clause-fault c = λ rows spot front at unbroken.
    let line = c.args.bytes.now in
    let g = c.in_ok-extend.ensures.goes rows spot front at unbroken in
    IfErr-weaker c.end_line.result _ _
    (λ e found other. then_faults spot g.next front g.left line (10 ∷ []) g.more e g.leads (feed_faults g.next g.left e (found other)))
    (c.end_line.ensures.fault (rows ++ g.more) g.next g.left g.stands)

pub returns-clause-bytes : goal.returns-clause-bytes
returns-clause-bytes c = ap (take (length c.args.self.now.bytes.items)) c.end_line.ensures.bytes ∙ c.extend.ensures.bytes

pub returns-clause-ends : goal.returns-clause-ends
returns-clause-ends c = take_front _ _ _ c.extend.ensures.ends c.end_line.ensures.ends
