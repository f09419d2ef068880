use Rattle.std.proofs.Common.{◌≡◌, ℕ, ◌+◌, ◌-◌, ◌*◌, ◌%◌, ◌^◌, ◌<◌, inl, inr, ◌++◌, refl, subst, ◌∙◌, arith}
use Rattle.kmc_base.specs.Lemmas.Powers.{pow_some}
use Rattle.kmc_sum.specs.Source.{unread}
use Rattle.kmc_database.specs.Given.{EndsAt}
use Rattle.kmc_database.specs.Numbers.{low_first}
use Rattle.kmc_database.specs.UnpackState.{IsUnpackedSoFar}
use Rattle.kmc_database.proofs.StepExits.{entry_begun, entry_refused, first_fault, later_fault, refused_since, step_refused}
use Rattle.kmc_database.proofs.UnpackSoFar.{all_closed, first_opened, part_opened, so_entry, so_up_to}
use Rattle.kmc_database.proofs.Words.{all_entries}
use Rattle.kmc_database.proofs.unpacking.unpack_parts.Goals as goal

pub returns-in_err-row-clause-answer : goal.returns-in_err-row-clause-answer
returns-in_err-row-clause-answer g c = λ s so.
    let h = c.args.header.now in
    let e = c.in_err-row.field-0.0 in
    let x = c.in_err-row.ensures.cause in
    let some : 0 < 4 ^ h.layout.prefix = omega (arith, pow_some h.layout.prefix) in
    let p = g.R.Read.remaining c.args.prefix.now.inner in
    let p' = g.R.Read.remaining c.next_entry.new.reader.inner in
    let q = g.R.Read.remaining c.args.suffix.now.inner in
    let w = g.W.Write.contents c.args.writer.now.inner in
    step_refused g.R.Read.remaining g.W.Write.contents h s c.args.prefix.now c.next_entry.new.reader c.args.suffix.now c.args.suffix.now
    c.args.writer.now c.args.writer.now c.from_residual.result _ _ e c.from_residual.ensures.1
    (λ first.
    entry_refused h s 0 0 p p' (unread c.args.table.now) q (unread c.args.body.now) w c.args.buffer.now 0 0 so refl some 0 0
    c.args.prefix.now.failures c.next_entry.new.reader.failures first c.args.suffix.now.failures c.args.writer.now.failures e
    (λ entry. first_fault 0 _ h.rows entry refl) x)
    (entry_begun h s 0 0 p p' (unread c.args.table.now) q (unread c.args.body.now) w c.args.buffer.now 0 0 so refl some 0 0
    c.args.prefix.now.failures c.next_entry.new.reader.failures e x)

pub returns-in_err-to-clause-answer : goal.returns-in_err-to-clause-answer
returns-in_err-to-clause-answer g c = λ s so.
    let h = c.args.header.now in
    let e = c.in_err-to.field-0.0 in
    let x = c.in_err-to.ensures.cause in
    let inv = c.loop-number.invariant in
    let number = c.loop-number.number in
    let row = c.loop-number.row in
    let last = c.loop-number.last in
    let zero_is : c.in_ok-row.row ≡ 0 = omega (arith, c.in_ok-row.ensures.ok.below) in
    let now = inv.so s (first_opened h.layout s c.in_ok-row.row _ _ _ _ _ _ _ _ zero_is c.in_ok-row.ensures.ok.goes so) in
    let inside : number + 1 < 4 ^ h.layout.prefix = omega (arith, c.loop-number-test.true, all_entries h.layout c.requires.layout) in
    let below : number ≡ number + 1 - 1 = omega arith in
    let p = g.R.Read.remaining c.loop-number.prefix.inner in
    let p' = g.R.Read.remaining c.next_entry-in-loop-number.new.reader.inner in
    let q = g.R.Read.remaining c.loop-number.suffix.inner in
    let w = g.W.Write.contents c.loop-number.writer.inner in
    let fails = c.next_entry-in-loop-number.new.reader.failures in
    step_refused g.R.Read.remaining g.W.Write.contents h s c.args.prefix.now c.next_entry-in-loop-number.new.reader c.args.suffix.now
    c.loop-number.suffix c.args.writer.now c.loop-number.writer c.from_residual-in_err-to.result _ _ e c.from_residual-in_err-to.ensures.1
    (λ first.
    refused_since h s p' q first c.loop-number.prefix.failures c.loop-number.suffix.failures c.loop-number.writer.failures
    c.args.prefix.now.failures c.args.suffix.now.failures c.args.writer.now.failures fails c.loop-number.suffix.failures
    c.loop-number.writer.failures e (inv.prefix ∙ c.in_ok-row.ensures.kept) inv.suffix inv.kept
    (entry_refused h s (number + 1) number p p' (unread c.loop-number.table) q (unread c.loop-number.body) w c.loop-number.buffer row last now below
    inside row h.rows c.loop-number.prefix.failures fails first c.loop-number.suffix.failures c.loop-number.writer.failures e
    (λ entry. later_fault (number + 1) row _ h.rows entry now.count) x))
    (entry_begun h s (number + 1) number p p' (unread c.loop-number.table) q (unread c.loop-number.body) w c.loop-number.buffer row last now below
    inside row h.rows c.loop-number.prefix.failures fails e x)

pub unpack_part-requires-clause-part : goal.unpack_part-requires-clause-part
unpack_part-requires-clause-part g c = omega (arith, c.loop-number-test.true, all_entries c.args.header.now.layout c.requires.layout)

pub returns-in_err-last-clause-answer : goal.returns-in_err-last-clause-answer
returns-in_err-last-clause-answer g c = λ s so.
    let h = c.args.header.now in
    let e = c.in_err-last.field-0.0 in
    let inv = c.loop-number.invariant in
    let number = c.loop-number.number in
    let to = c.in_ok-to.to in
    let entry = c.in_ok-to.ensures.ok in
    let zero_is : c.in_ok-row.row ≡ 0 = omega (arith, c.in_ok-row.ensures.ok.below) in
    let now = inv.so s (first_opened h.layout s c.in_ok-row.row _ _ _ _ _ _ _ _ zero_is c.in_ok-row.ensures.ok.goes so) in
    let tr' = unread c.next_entry-in-loop-number.new.room in
    let opened = part_opened h.layout s number to _ _ _ tr' _ _ _ _ c.loop-number.row c.loop-number.last entry.goes now in
    let ends : EndsAt h.layout h.rows number to (low_first 8 to ++ tr') = inl (tr', refl, entry.below) in
    let p' = g.R.Read.remaining c.next_entry-in-loop-number.new.reader.inner in
    let fails = c.next_entry-in-loop-number.new.reader.failures in
    let part = c.in_err-last.ensures.answer s p' (low_first 8 to ++ tr') opened ends in
    step_refused g.R.Read.remaining g.W.Write.contents h s c.args.prefix.now c.next_entry-in-loop-number.new.reader c.args.suffix.now
    c.unpack_part.new.reader c.args.writer.now c.unpack_part.new.writer c.from_residual-in_err-last.result _ _ e c.from_residual-in_err-last.ensures.1
    (λ first.
    refused_since h s p' (g.R.Read.remaining c.unpack_part.new.reader.inner) first fails c.loop-number.suffix.failures
    c.loop-number.writer.failures c.args.prefix.now.failures c.args.suffix.now.failures c.args.writer.now.failures fails
    c.unpack_part.new.reader.failures c.unpack_part.new.writer.failures e (c.in_ok-to.ensures.kept ∙ inv.prefix ∙ c.in_ok-row.ensures.kept) inv.suffix
    inv.kept (part.cause first fails))
    part.begun

pub loop-number-preserved : goal.loop-number-preserved
loop-number-preserved g c =
    let h = c.args.header.now in
    let inv = c.loop-number.invariant in
    let number = c.loop-number.number in
    let to = c.in_ok-to.to in
    let entry = c.in_ok-to.ensures.ok in
    let tr' = unread c.next_entry-in-loop-number.new.room in
    let p' = g.R.Read.remaining c.next_entry-in-loop-number.new.reader.inner in
    record {
      table = c.in_ok-to.ensures.room;
      body = c.in_ok-last.ensures.room;
      prefix = c.in_ok-to.ensures.kept ∙ inv.prefix;
      suffix = c.in_ok-last.ensures.read ∙ inv.suffix;
      kept = c.in_ok-last.ensures.kept ∙ inv.kept;
      few = entry.below;
      so = λ s start.
          let now = inv.so s start in
          let opened = part_opened h.layout s number to _ _ _ tr' _ _ _ _ c.loop-number.row c.loop-number.last entry.goes now in
          let ends : EndsAt h.layout h.rows number to (low_first 8 to ++ tr') = inl (tr', refl, entry.below) in
          let part = c.in_ok-last.ensures.answer s p' (low_first 8 to ++ tr') opened ends in
          so_entry h.layout s (number + 1) (number + 1) p' tr' _ _ _ _ to c.in_ok-last.last (omega arith) part.ok;
    }

pub unpack_part-requires-2-clause-part : goal.unpack_part-requires-2-clause-part
unpack_part-requires-2-clause-part g c =
    let l = c.args.header.now.layout in omega (arith, all_entries l c.requires.layout, pow_some l.prefix)

pub returns-in-Ok-clause-answer : goal.returns-in-Ok-clause-answer
returns-in-Ok-clause-answer g c = λ s so.
    let h = c.args.header.now in
    let l = h.layout in
    let inv = c.loop-number.invariant in
    let row = c.loop-number.row in
    let last = c.loop-number.last in
    let zero_is : c.in_ok-row.row ≡ 0 = omega (arith, c.in_ok-row.ensures.ok.below) in
    let now = inv.so s (first_opened l s c.in_ok-row.row _ _ _ _ _ _ _ _ zero_is c.in_ok-row.ensures.ok.goes so) in
    let n = 1 * 2 ^ (2 * l.prefix) % 2 ^ 64 - 1 in
    let same : c.loop-number.number ≡ n = omega (arith, c.loop-number-test.false, c.loop-number.auto) in
    let whole : n + 1 ≡ 4 ^ l.prefix = omega (arith, all_entries l c.requires.layout, pow_some l.prefix) in
    let p = g.R.Read.remaining c.loop-number.prefix.inner in
    let tr = unread c.loop-number.table in
    let q = g.R.Read.remaining c.loop-number.suffix.inner in
    let r = unread c.loop-number.body in
    let w = g.W.Write.contents c.loop-number.writer.inner in
    let now' = subst (λ (m : ℕ). IsUnpackedSoFar l s (m + 1) m p tr q r w c.loop-number.buffer row last) same now in
    let opened = so_up_to l s (n + 1) n p tr q r w c.loop-number.buffer row last now' (n + 1) (omega arith) in
    let ends : EndsAt l h.rows n h.rows tr = inr (whole, refl) in
    let part = c.in-Ok.ensures.answer s p tr opened ends in
    record {
      ok = (c.in-Ok.field-0, all_closed l s n (4 ^ l.prefix) p tr _ _ _ _ h.rows c.in-Ok.field-0 whole part.ok);
      sound = λ first i. record {
        first = first;
        prefix = (inv.prefix ∙ c.in_ok-row.ensures.kept) i;
        suffix = (c.in-Ok.ensures.read ∙ inv.suffix) i;
        writer = (c.in-Ok.ensures.kept ∙ inv.kept) i;
      };
      cause = λ first. tt;
      left = tt;
    }

pub returns-in-Err-clause-answer : goal.returns-in-Err-clause-answer
returns-in-Err-clause-answer g c = λ s so.
    let h = c.args.header.now in
    let l = h.layout in
    let inv = c.loop-number.invariant in
    let row = c.loop-number.row in
    let last = c.loop-number.last in
    let zero_is : c.in_ok-row.row ≡ 0 = omega (arith, c.in_ok-row.ensures.ok.below) in
    let now = inv.so s (first_opened l s c.in_ok-row.row _ _ _ _ _ _ _ _ zero_is c.in_ok-row.ensures.ok.goes so) in
    let n = 1 * 2 ^ (2 * l.prefix) % 2 ^ 64 - 1 in
    let same : c.loop-number.number ≡ n = omega (arith, c.loop-number-test.false, c.loop-number.auto) in
    let whole : n + 1 ≡ 4 ^ l.prefix = omega (arith, all_entries l c.requires.layout, pow_some l.prefix) in
    let p = g.R.Read.remaining c.loop-number.prefix.inner in
    let tr = unread c.loop-number.table in
    let q = g.R.Read.remaining c.loop-number.suffix.inner in
    let r = unread c.loop-number.body in
    let w = g.W.Write.contents c.loop-number.writer.inner in
    let now' = subst (λ (m : ℕ). IsUnpackedSoFar l s (m + 1) m p tr q r w c.loop-number.buffer row last) same now in
    let opened = so_up_to l s (n + 1) n p tr q r w c.loop-number.buffer row last now' (n + 1) (omega arith) in
    let ends : EndsAt l h.rows n h.rows tr = inr (whole, refl) in
    let part = c.in-Err.ensures.answer s p tr opened ends in
    let fails = c.loop-number.prefix.failures in
    record {
      ok = tt;
      sound = λ first. tt;
      cause = λ first.
          refused_since h s p (g.R.Read.remaining c.unpack_part-2.new.reader.inner) first fails c.loop-number.suffix.failures
          c.loop-number.writer.failures c.args.prefix.now.failures c.args.suffix.now.failures c.args.writer.now.failures fails
          c.unpack_part-2.new.reader.failures c.unpack_part-2.new.writer.failures c.in-Err.error (inv.prefix ∙ c.in_ok-row.ensures.kept) inv.suffix
          inv.kept (part.cause first fails);
      left = part.begun;
    }
