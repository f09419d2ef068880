use Rattle.std.proofs.Common.{subst, ap, ◌∙◌, length, take}
use Rattle.std.proofs.lemmas.Result.{on_ok_weaker, IfErr-weaker}
use Rattle.kmc_reads.specs.Standing.{At}
use Rattle.kmc_reads.proofs.Records.{took_goes, took_faults}
use Rattle.kmc_reads.proofs.Walking.{take_whole}
use Rattle.kmc_reads.proofs.scan.Scan.line.Goals as goal

pub returns-in-Header-clause-goes : goal.returns-in-Header-clause-goes
returns-in-Header-clause-goes c = λ rows spot front at unbroken.
    let empty = c.is_between.ensures.none rows spot front at c.if-not-is_between.false in
    on_ok_weaker c.header.result (took_goes rows spot front c.args.line.now _ empty c.cut_return.ensures.content unbroken c.header.new.self)
    (c.header.ensures.took rows spot (subst (λ t. At rows spot t c.args.self.now) empty at))

pub returns-in-Header-clause-fault : goal.returns-in-Header-clause-fault
returns-in-Header-clause-fault c = λ rows spot front at unbroken.
    let empty = c.is_between.ensures.none rows spot front at c.if-not-is_between.false in
    IfErr-weaker c.header.result _ _
    (λ e found other. took_faults rows spot front c.args.line.now _ empty c.cut_return.ensures.content unbroken e found)
    (c.header.ensures.fault rows spot (subst (λ t. At rows spot t c.args.self.now) empty at))

pub returns-in-Sequence-clause-goes : goal.returns-in-Sequence-clause-goes
returns-in-Sequence-clause-goes c = λ rows spot front at unbroken.
    let empty = c.is_between.ensures.none rows spot front at c.if-not-is_between.false in
    on_ok_weaker c.sequence.result (took_goes rows spot front c.args.line.now _ empty c.cut_return.ensures.content unbroken c.sequence.new.self)
    (c.sequence.ensures.took rows spot (subst (λ t. At rows spot t c.args.self.now) empty at))

pub returns-in-Sequence-clause-fault : goal.returns-in-Sequence-clause-fault
returns-in-Sequence-clause-fault c = λ rows spot front at unbroken.
    let empty = c.is_between.ensures.none rows spot front at c.if-not-is_between.false in
    IfErr-weaker c.sequence.result _ _
    (λ e is other. absurd (other is))
    c.sequence.ensures.fault

pub returns-in-Plus-clause-goes : goal.returns-in-Plus-clause-goes
returns-in-Plus-clause-goes c = λ rows spot front at unbroken.
    let empty = c.is_between.ensures.none rows spot front at c.if-not-is_between.false in
    on_ok_weaker c.plus.result (took_goes rows spot front c.args.line.now _ empty c.cut_return.ensures.content unbroken c.plus.new.self)
    (c.plus.ensures.took rows spot (subst (λ t. At rows spot t c.args.self.now) empty at))

pub returns-in-Plus-clause-fault : goal.returns-in-Plus-clause-fault
returns-in-Plus-clause-fault c = λ rows spot front at unbroken.
    let empty = c.is_between.ensures.none rows spot front at c.if-not-is_between.false in
    IfErr-weaker c.plus.result _ _
    (λ e found other. took_faults rows spot front c.args.line.now _ empty c.cut_return.ensures.content unbroken e found)
    (c.plus.ensures.fault rows spot (subst (λ t. At rows spot t c.args.self.now) empty at))

pub returns-in-Quality-clause-goes : goal.returns-in-Quality-clause-goes
returns-in-Quality-clause-goes c = λ rows spot front at unbroken.
    let empty = c.is_between.ensures.none rows spot front at c.if-not-is_between.false in
    on_ok_weaker c.quality.result (took_goes rows spot front c.args.line.now _ empty c.cut_return.ensures.content unbroken c.quality.new.self)
    (c.quality.ensures.took rows spot (subst (λ t. At rows spot t c.args.self.now) empty at))

pub returns-in-Quality-clause-fault : goal.returns-in-Quality-clause-fault
returns-in-Quality-clause-fault c = λ rows spot front at unbroken.
    let empty = c.is_between.ensures.none rows spot front at c.if-not-is_between.false in
    IfErr-weaker c.quality.result _ _
    (λ e found other. took_faults rows spot front c.args.line.now _ empty c.cut_return.ensures.content unbroken e (found other))
    (c.quality.ensures.fault rows spot (subst (λ t. At rows spot t c.args.self.now) empty at))

pub returns-in-Header-clause-bytes : goal.returns-in-Header-clause-bytes
returns-in-Header-clause-bytes c = ap (take (length c.args.self.now.bytes.items)) c.header.ensures.bytes ∙ take_whole _

pub returns-in-Header-clause-ends : goal.returns-in-Header-clause-ends
returns-in-Header-clause-ends c = ap (take (length c.args.self.now.ends.items)) c.header.ensures.ends ∙ take_whole _

pub returns-in-Sequence-clause-bytes : goal.returns-in-Sequence-clause-bytes
returns-in-Sequence-clause-bytes c = c.sequence.ensures.bytes

pub returns-in-Sequence-clause-ends : goal.returns-in-Sequence-clause-ends
returns-in-Sequence-clause-ends c = ap (take (length c.args.self.now.ends.items)) c.sequence.ensures.ends ∙ take_whole _

pub returns-in-Plus-clause-bytes : goal.returns-in-Plus-clause-bytes
returns-in-Plus-clause-bytes c = ap (take (length c.args.self.now.bytes.items)) c.plus.ensures.bytes ∙ take_whole _

pub returns-in-Plus-clause-ends : goal.returns-in-Plus-clause-ends
returns-in-Plus-clause-ends c = ap (take (length c.args.self.now.ends.items)) c.plus.ensures.ends ∙ take_whole _

pub returns-in-Quality-clause-bytes : goal.returns-in-Quality-clause-bytes
returns-in-Quality-clause-bytes c = ap (take (length c.args.self.now.bytes.items)) c.quality.ensures.bytes ∙ take_whole _

pub returns-in-Quality-clause-ends : goal.returns-in-Quality-clause-ends
returns-in-Quality-clause-ends c = c.quality.ensures.ends
