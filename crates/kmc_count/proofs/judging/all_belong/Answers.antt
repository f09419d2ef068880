use Rattle.std.proofs.Common.{rules, ◌≡◌, ◌-◌, ◌%◌, ◌<◌, length, IsTrue, slice_index_or, arith}
use Rattle.kmc_base.specs.Words.{windows}
use Rattle.kmc_record.specs.Bodies.{Belong}
use Rattle.kmc_record.specs.RecordKeys.{codes_of}
use Rattle.kmc_count.proofs.Judged.{belong_as_other, more_belong, one_belongs}
use Rattle.kmc_count.proofs.judging.all_belong.Goals.{else-shared-key-via-then-shared-key+else-not-key_belongs, else-shared-key-via-else-shared-key}
use Rattle.kmc_count.proofs.judging.all_belong.Goals as goal

pub loop-left-preserved : goal.loop-left-preserved
loop-left-preserved c =
    let a = c.args in
    let so_far = c.loop-left.invariant in
    let left = c.loop-left.left in
    let number = slice_index_or a.keys.now (left - 1) 0 in
    let alike = c.shared_symbols-shared.ensures in
    let here : Belong a.bin a.shape (windows a.shape.k (codes_of number)) =
    elim c.else-shared-key.branch [
      | else-shared-key-via-then-shared-key+else-not-key_belongs w ↦
          let yes : IsTrue w.key_belongs.result = search (rules, w.if-not-key_belongs.false) in
          w.key_belongs.ensures.0 yes
      | else-shared-key-via-else-shared-key w ↦
          let whole : c.shared_symbols-shared.result ≡ number % 64 = omega (arith, w.if-shared-key.false) in
          belong_as_other a.bin a.shape number c.loop-left.behind c.shared_symbols-shared.result alike.alike alike.second whole so_far.last
    ] in
    record {
      inside = omega (arith, so_far.inside);
      last = here;
      rest = more_belong a.bin a.shape a.keys.now left (omega (arith, c.loop-left-test.true)) so_far.inside here so_far.rest;
    }

-- a row that does not belong is one of all
pub returns-then-not-key_belongs : goal.returns-then-not-key_belongs
returns-then-not-key_belongs c =
    let a = c.args in
    let left = c.loop-left.left in
    let less : left - 1 < length a.keys.now = omega (arith, c.loop-left-test.true, c.loop-left.invariant.inside) in (
      λ never. search (rules, never),
      λ all.
          let yes : IsTrue c.key_belongs.result = c.key_belongs.ensures.1 (one_belongs a.bin a.shape a.keys.now (left - 1) less all) in
          search (rules, yes, c.if-not-key_belongs.true, c.if-not-key_belongs.ensures),
    )
