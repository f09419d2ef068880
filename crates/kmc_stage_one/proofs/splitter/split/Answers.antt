use Rattle.std.proofs.Common.{ℕ, ◌+◌, ◌*◌, ◌<◌, ◌≤◌, ◌≡◌, length, map, refl, sym, ap, subst, ◌∙◌, arith}
use Rattle.std.specs.Prelude.{Err}
use Rattle.std.proofs.lemmas.List.{length-map}
use Rattle.std.proofs.Math.Nat.{mul-le-mul_right}
use Rattle.std.proofs.lemmas.Result.{IfOk-from_err}
use borrow.Author.Count.{falls}
use Rattle.std.proofs.lemmas.Grind.{common_steps}
use Rattle.kmc_base.specs.Lemmas.PassedOn.{passed_on}
use Rattle.kmc_record.specs.Parts.{ArePartsOf}
use Rattle.kmc_stage_one.specs.Causes.{IsWorkersCause}
use Rattle.kmc_partqueue.specs.SameSeats.{IsSameWriter}
use Rattle.kmc_stage_one.specs.Splitters.{chunks_of}
use Rattle.kmc_stage_one.proofs.Sent.{next_own, next_other, too_many, cause_of}
use Rattle.kmc_partqueue.specs.Lemmas.SameSeats.{same_seat}
use Rattle.kmc_stage_one.proofs.splitter.split.Goals.{then-c-way+in_ok-parts+in_ok-put_all, else-c-way}
use Rattle.kmc_stage_one.proofs.splitter.split.Goals as goal

some_writers : (number queue writers : ℕ) → number < queue → writers ≡ queue → 0 < writers
some_writers number queue writers below same = omega arith

-- a chunk starts within the reads
chunk_within : (c chunks batch reads : ℕ) → c < chunks → chunks * batch < reads + batch → c * batch ≤ reads
chunk_within c chunks batch reads near most =
    let earlier : c + 1 ≤ chunks = omega arith in
    let behind : (c + 1) * batch ≤ chunks * batch = mul-le-mul_right batch earlier in
    let one_more : (c + 1) * batch ≡ c * batch + batch = grind arith in
    omega (arith, behind, one_more, most)

pub chunks-c-end-requires : goal.chunks-c-end-requires
chunks-c-end-requires g c = c.args.plan.some.0

pub loop-c-init : goal.loop-c-init
loop-c-init g c = (record { table = refl; number = refl; per_writer = refl }, c.requires.1)

pub nonzero_rem-c : goal.nonzero_rem-c
nonzero_rem-c g c = some_writers c.args.s.number c.args.way.now.lanes.shape.writers c.args.way.now.writers c.requires.0.2 c.args.way.now.as_many

pub chunk_of-chunk-requires : goal.chunk_of-chunk-requires
chunk_of-chunk-requires g c = (
  c.args.plan.some.0,
  chunk_within c.loop-c.c c.chunks-c-end.result c.args.plan.batch (length c.args.reads.now) c.loop-c-test.true c.chunks-c-end.ensures.most,
)

pub put_all-requires : goal.put_all-requires
put_all-requires g c = let same = c.loop-c.invariant.0 in (
  same.table ∙ c.requires.0.0,
  same.per_writer ∙ c.requires.0.1,
  subst (λ n. n < c.args.way.now.lanes.shape.writers) (sym same.number) c.requires.0.2,
)

pub complete-requires : goal.complete-requires
complete-requires g c = let same = c.loop-c.invariant.0 in (
  same.table ∙ c.requires.0.0,
  same.per_writer ∙ c.requires.0.1,
  subst (λ n. n < c.args.way.now.lanes.shape.writers) (sym same.number) c.requires.0.2,
)

pub returns-in_err-parts-clause-done : goal.returns-in_err-parts-clause-done
returns-in_err-parts-clause-done g c = IfOk-from_err _ _ c.from_residual.ensures.0

pub returns-in_err-put_all-clause-done : goal.returns-in_err-put_all-clause-done
returns-in_err-put_all-clause-done g c = IfOk-from_err _ _ c.from_residual-in_err-put_all.ensures.0

pub loop-c-smaller : goal.loop-c-smaller
loop-c-smaller g c = falls c.chunks-c-end.result c.loop-c.c c.loop-c-test.true

pub returns-in_err-put_all-clause-cause : goal.returns-in_err-put_all-clause-cause
returns-in_err-put_all-clause-cause g c =
    let inv = c.loop-c.invariant in let a = c.args in let p = a.plan in let reads = map (λ r. r.now) a.reads.now in
    let told = c.in_err-put_all.ensures in let back = c.from_residual-in_err-put_all in
    let sized : c.chunks-c-end.result ≡ chunks_of p.batch (length reads) = c.chunks-c-end.ensures.is ∙ ap (chunks_of p.batch)
    (sym (length-map a.reads.now (λ r. r.now))) in
    passed_on (IsWorkersCause p.shape p.batch reads a.way.now.writers) back.result c.in_err-put_all.field-0.0 back.ensures.1
    (cause_of p.shape p.batch reads a.way.now.writers a.s.number c.in_err-put_all.field-0.0 (λ is. (
      a.s.number,
      subst (λ (n : ℕ). a.s.number < n) (sym a.way.now.as_many) c.requires.0.2,
      too_many p.shape p.batch reads a.way.now.writers a.s.number (chunks_of p.batch
          (length reads)) c.loop-c.c c.loop-c.s.sent c.in_ok-parts.parts.items (subst (λ (n : ℕ). c.loop-c.c < n) sized c.loop-c-test.true)
          (c.if-c-way.true ∙ c.number.ensures ∙ inv.0.number) inv.1
          (subst (λ z. ArePartsOf c.loop-c.c z p.shape c.in_ok-parts.parts.items) c.chunk_of-chunk.ensures c.in_ok-parts.ensures)
          (told.spent (ap (λ z. Err z) is)),
    )))

pub loop-c-preserved : goal.loop-c-preserved
loop-c-preserved g c = let inv = c.loop-c.invariant in let a = c.args in let p = a.plan in let reads = map (λ r. r.now) a.reads.now in
    elim c.if-c-way.branch [
      | then-c-way+in_ok-parts+in_ok-put_all w ↦ let e = w.in_ok-put_all.ensures in (
        same_seat a.s c.loop-c.s c.if-c-way.s inv.0 (subst (IsSameWriter c.loop-c.s) (sym w.s-is) e.seat),
        next_own p.shape p.batch reads a.way.now.writers a.s.number c.loop-c.c c.loop-c.s.sent w.in_ok-parts.parts.items c.if-c-way.s.sent
            (w.if-c-way.true ∙ c.number.ensures ∙ inv.0.number) inv.1
            (subst (λ z. ArePartsOf c.loop-c.c z p.shape w.in_ok-parts.parts.items) w.chunk_of-chunk.ensures w.in_ok-parts.ensures)
            (ap (λ s. s.sent) w.s-is ∙ e.put),
      )
      | else-c-way w ↦ (
        subst (IsSameWriter a.s) (sym w.s-is) inv.0,
        next_other p.shape p.batch reads a.way.now.writers a.s.number c.loop-c.c c.loop-c.s.sent c.if-c-way.s.sent
            (λ here. w.if-c-way.false (here ∙ sym (c.number.ensures ∙ inv.0.number))) inv.1 (ap (λ s. s.sent) w.s-is),
      )
    ]

pub returns-clause-done : goal.returns-clause-done
returns-clause-done g c = grind (arith, common_steps)
