use Rattle.std.proofs.Common.{◌≡◌, ◌+◌, ◌-◌, ◌*◌, ◌%◌, ◌^◌, ◌≤◌, inl, inr, cond, Err, [], ◌∷◌, ◌++◌, refl, sym, ap, subst, ◌∙◌, arith}
use Rattle.kmc_base.specs.Lemmas.Powers.{pow_some}
use Rattle.kmc_base.specs.Packed.{unpack}
use Rattle.kmc_device.specs.Device.{RisesByOne, Watched, WritesOut}
use Rattle.kmc_sum.specs.Faults.{GaveFront}
use Rattle.kmc_sum.specs.Heads.{rank}
use Rattle.kmc_sum.specs.Source.{unread}
use Rattle.kmc_database.specs.Answer.{failures_of, IsPackAnswer}
use Rattle.kmc_database.specs.Begun.{IsBegun}
use Rattle.kmc_database.specs.Rows.{first_part, repeated}
use Rattle.kmc_database.specs.declared.error.PackError.{PackError}
use Rattle.kmc_database.specs.declared.form.Form.{Form}
use Rattle.kmc_database.specs.declared.error.PackError.TheVariants.{TooGreat, TooLong, Source, WriteSuffix}
use Rattle.kmc_database.proofs.Exits.{begun, begun_prefix, begun_suffix, given_up, is_live, next_fault, not_both, not_ended, not_less, packed, prefix_end_lost, rows_told, same_failures, suffix_end_lost}
use Rattle.kmc_database.proofs.SoFar.{entries_lost, gave_before, gave_more, gave_so_far, pair_at, prefix_begun, prefix_so_far, row_lost, so_next, so_start, suffix_so_far}
use Rattle.kmc_database.proofs.Words.{all_entries, few_parts, quotient_up}
use Rattle.kmc_database.proofs.packing.pack_rows.Goals as goal
use Rattle.kmc_database.proofs.packing.pack_rows.Goals.{else-loop-step-test, then-loop-step-test+then-not-head}

pub loop-step-init : goal.loop-step-init
loop-step-init g c = record {
  room = c.requires.room;
  read = refl;
  prefix_kept = refl;
  suffix_kept = refl;
  fits = c.requires.fits;
  many = refl;
  most = omega arith;
  next = λ live. omega arith;
  told = λ live. inl live;
  so = λ o start asked.
      so_start c.args.form.now.layout start _ _ _ _ _ c.new-table.result c.new-body.result c.new-table.ensures c.new-body.ensures asked.source;
}

pub returns-then-not-holds_count : goal.returns-then-not-holds_count
returns-then-not-holds_count g c = λ o start asked.
    let i = c.loop-step.invariant in
    let f = c.args.form.now in
    let l = f.layout in
    let head = c.loop-step.head in
    let so = i.so o start asked in
    let live = is_live head.live c.if-not-head.false in
    let gave = subst (λ b. GaveFront l.k start (g.R.Read.remaining c.loop-step.reader.inner) (so.pairs ++ cond b (pair_at l head ∷ []) [])
    (unread c.loop-step.room)) live so.source.gave in
    record {
      ok = tt;
      sound = tt;
      cause = (
        l.k,
        asked.length,
        record {
          pairs = so.pairs;
          pair = pair_at l head;
          rest = unread c.loop-step.room;
          gave = gave;
          number = omega (arith, so.count);
          great = subst (λ n. 256 ^ n ≤ head.count) (ap (λ (h : Form). h.layout.counter) asked.form)
              (not_less (256 ^ l.counter) head.count c.if-not-holds_count.ensures.1);
        },
        same_failures _ _ i.read i.prefix_kept i.suffix_kept,
      );
      begun = inr (begun o f asked.length asked.form (TooGreat (c.loop-step.rows + 1)) start _ _ _ _ _ so.pairs _
          (gave_so_far l _ _ _ _ _ _ _ _ _ _ _ _ so) (prefix_so_far l _ _ _ _ _ _ _ _ _ _ _ _ so i.most) (suffix_so_far l _ _ _ _ _ _ _ _ _ _ _ _ so));
    }

pub returns-in_err-head : goal.returns-in_err-head
returns-in_err-head g c = λ o start asked.
    let i = c.loop-step.invariant in
    let f = c.args.form.now in
    let l = f.layout in
    let head = c.loop-step.head in
    let so = i.so o start asked in
    let live = is_live head.live c.if-not-head.false in
    let h = c.in_err-head.ensures in
    let gave = h.lost start head so.pairs so.source in
    given_up g.R.Read.remaining g.W.Write.contents o start c.args.reader.now c.next_head.new.reader c.args.prefix.now c.loop-step.prefix
    c.args.suffix.now c.loop-step.suffix c.from_residual.result _ c.from_residual.ensures.1 (
      next_fault o l.k c.requires.layout.long start _ (failures_of c.args.reader.now c.args.prefix.now c.args.suffix.now)
          (failures_of c.next_head.new.reader c.loop-step.prefix c.loop-step.suffix) c.in_err-head.field-0.0.fault
          (λ is. subst (λ n. RisesByOne n c.next_head.new.reader.failures) i.read (h.read is))
          (λ line fault is. h.fault line fault is start head so.pairs live refl so.source),
      i.prefix_kept,
      i.suffix_kept,
    )
    (begun o f asked.length asked.form (Source c.in_err-head.field-0.0.fault) start _ _ _ _ _ so.pairs gave.0 gave.1
    (prefix_so_far l _ _ _ _ _ _ _ _ _ _ _ _ so i.most) (suffix_so_far l _ _ _ _ _ _ _ _ _ _ _ _ so))

pub overflow_add-next : goal.overflow_add-next
overflow_add-next g c = omega (arith, c.first_part-next.ensures.most, few_parts c.args.form.now.layout c.requires.layout)

pub returns-in-Err : goal.returns-in-Err
returns-in-Err g c = λ o start asked.
    let i = c.loop-step.invariant in
    let f = c.args.form.now in
    let l = f.layout in
    let head = c.loop-step.head in
    let so = i.so o start asked in
    let live = is_live head.live c.if-not-head.false in
    let part = c.first_part-next in
    let m = part.result + 1 in
    let up : c.loop-step.entries ≤ m = omega (arith, i.next live, part.ensures.quotient) in
    let source = c.in_ok-head.ensures.ok start head so.pairs live refl so.source in
    record {
      ok = tt;
      sound = tt;
      cause = (
        c.in_ok-head.ensures.kept ∙ i.read,
        subst (λ n. RisesByOne n c.put_entries.new.writer.failures) i.prefix_kept c.in-Err.ensures.failed,
        i.suffix_kept,
      );
      begun = inr (begun_prefix o f asked.length asked.form start _ _ _ _ _ so.pairs _
          (gave_before l _ _ _ _ _ _ _ _ _ _ _ _ so live _ c.next_head.new.room c.in_ok-head.head source)
          (entries_lost l _ _ _ _ _ _ _ _ _ _ _ _ so m _ up (omega (arith, part.ensures.most)) c.in-Err.ensures.front)
          (suffix_so_far l _ _ _ _ _ _ _ _ _ _ _ _ so));
    }

pub returns-in-Err-put_row : goal.returns-in-Err-put_row
returns-in-Err-put_row g c = λ o start asked.
    let i = c.loop-step.invariant in
    let f = c.args.form.now in
    let l = f.layout in
    let head = c.loop-step.head in
    let so = i.so o start asked in
    let live = is_live head.live c.if-not-head.false in
    let part = c.first_part-next in
    let m = part.result + 1 in
    let up : c.loop-step.entries ≤ m = omega (arith, i.next live, part.ensures.quotient) in
    let last : m ≡ first_part l (unpack l.k head.packed) + 1 = ap (λ n. n + 1) part.ensures.is in
    let source = c.in_ok-head.ensures.ok start head so.pairs live refl so.source in
    record {
      ok = tt;
      sound = tt;
      cause = (
        c.in_ok-head.ensures.kept ∙ i.read,
        c.in-Ok.ensures.kept ∙ i.prefix_kept,
        subst (λ n. RisesByOne n c.put_row.new.writer.failures) i.suffix_kept c.in-Err-put_row.ensures.failed,
      );
      begun = inr (begun_suffix o f asked.length asked.form start _ _ _ _ _ _ _
          (gave_more l _ _ _ _ _ _ _ _ _ _ _ _ so live _ c.next_head.new.room c.in_ok-head.head source)
          (prefix_begun l _ _ _ _ _ _ _ _ _ _ _ _ so live _ c.next_head.new.room c.in_ok-head.head source m last up _ _ c.in-Ok.ensures.ok
          (omega (arith, part.ensures.most)))
          (row_lost l _ _ _ _ _ _ _ _ _ _ _ _ so live _ c.next_head.new.room c.in_ok-head.head source m last up _ _ c.in-Ok.ensures.ok _
          c.in-Err-put_row.ensures.front));
    }

pub loop-step-preserved : goal.loop-step-preserved
loop-step-preserved g c =
    let i = c.loop-step.invariant in
    let l = c.args.form.now.layout in
    let head = c.loop-step.head in
    let live = is_live head.live c.if-not-head.false in
    let part = c.first_part-next in
    let m = part.result + 1 in
    let up : c.loop-step.entries ≤ m = omega (arith, i.next live, part.ensures.quotient) in
    let last : m ≡ first_part l (unpack l.k head.packed) + 1 = ap (λ n. n + 1) part.ensures.is in
    let next = c.in_ok-head.head in
    record {
      room = c.in_ok-head.ensures.room;
      read = c.in_ok-head.ensures.kept ∙ i.read;
      prefix_kept = c.in-Ok.ensures.kept ∙ i.prefix_kept;
      suffix_kept = c.in-Ok-put_row.ensures.kept ∙ i.suffix_kept;
      fits = c.in_ok-head.ensures.behind.2;
      many = ap (λ n. n + 1) i.many;
      most = omega (arith, part.ensures.most);
      next = λ more.
          let rises : rank next ≡ next.packed = ap (λ b. cond b next.packed (2 ^ 128)) more in
          let above : head.packed ≤ next.packed = omega (arith, rises, c.in_ok-head.ensures.behind.1) in
          omega (
            arith,
            part.ensures.quotient,
            quotient_up (4 ^ (l.k - l.prefix)) head.packed next.packed (pow_some (l.k - l.prefix)) above,
          );
      told = λ _. inr (omega arith);
      so = λ o start asked.
          let so = i.so o start asked in
          let source = c.in_ok-head.ensures.ok start head so.pairs live refl so.source in
          so_next l _ _ _ _ _ _ _ _ _ _ _ _ so live _ c.next_head.new.room next source m last up _ _ c.in-Ok.ensures.ok _ _ (c.loop-step.rows + 1)
          (c.if-not-holds_count.ensures.0 refl) refl c.in-Ok-put_row.ensures.ok;
    }

pub returns-then-head : goal.returns-then-head
returns-then-head g c = λ o start asked.
    let i = c.loop-step.invariant in
    let f = c.args.form.now in
    let l = f.layout in
    let so = i.so o start asked in
    let most : 2 ^ 64 - 2 ≤ c.loop-step._step = elim c.loop-step-test.branch [
      | else-loop-step-test w ↦ omega (arith, w.loop-step-test.false)
      | then-loop-step-test+then-not-head w ↦ absurd (not_both c.loop-step.head.live w.if-not-head.true c.if-head.true)
    ] in
    record {
      ok = tt;
      sound = tt;
      cause = (
        l.k,
        asked.length,
        record {
          pairs = so.pairs;
          rest = _;
          gave = gave_so_far l _ _ _ _ _ _ _ _ _ _ _ _ so;
          many = omega (arith, most, so.count, i.many);
        },
        same_failures _ _ i.read i.prefix_kept i.suffix_kept,
      );
      begun = inr (begun o f asked.length asked.form TooLong start _ _ _ _ _ so.pairs _ (gave_so_far l _ _ _ _ _ _ _ _ _ _ _ _ so)
          (prefix_so_far l _ _ _ _ _ _ _ _ _ _ _ _ so i.most) (suffix_so_far l _ _ _ _ _ _ _ _ _ _ _ _ so));
    }

pub put_entries-requires-2 : goal.put_entries-requires-2
put_entries-requires-2 g c = record {
  order = omega (arith, c.loop-step.invariant.most, all_entries c.args.form.now.layout c.requires.layout);
}

pub returns-in-Err-put_entries : goal.returns-in-Err-put_entries
returns-in-Err-put_entries g c = λ o start asked.
    let i = c.loop-step.invariant in
    let f = c.args.form.now in
    let l = f.layout in
    let so = i.so o start asked in
    let all = all_entries l c.requires.layout in
    record {
      ok = tt;
      sound = tt;
      cause = (
        i.read,
        subst (λ n. RisesByOne n c.put_entries-2.new.writer.failures) i.prefix_kept c.in-Err-put_entries.ensures.failed,
        i.suffix_kept,
      );
      begun = inr (begun_prefix o f asked.length asked.form start _ _ _ _ _ so.pairs _ (gave_so_far l _ _ _ _ _ _ _ _ _ _ _ _ so)
          (entries_lost l _ _ _ _ _ _ _ _ _ _ _ _ so (1 * 2 ^ (2 * l.prefix) % 2 ^ 64) _ (omega (arith, all, i.most)) (omega (arith, all))
          c.in-Err-put_entries.ensures.front)
          (suffix_so_far l _ _ _ _ _ _ _ _ _ _ _ _ so));
    }

pub returns-in-Ok-end : goal.returns-in-Ok-end
returns-in-Ok-end g c = λ o start asked.
    let i = c.loop-step.invariant in
    let f = c.args.form.now in
    let l = f.layout in
    let so = i.so o start asked in
    let out = subst
    (λ m. WritesOut (g.W.Write.contents c.loop-step.prefix.inner) (g.W.Write.contents c.put_entries-2.new.writer.inner)
    (c.loop-step.table ++ repeated (m - c.loop-step.entries) c.loop-step.rows) c.put_entries-2.new.buffer)
    (all_entries l c.requires.layout) c.in-Ok-put_entries.ensures.ok in
    let ended = c.in-Ok-end.ensures.ok in
    record {
      ok = packed o f asked.length asked.form c.requires.layout start _ _ _ _ _ _ _ _ _ _ _ so c.if-head.false _ _ i.most out _ _ ended.prefix_bytes
          ended.suffix_bytes (λ none. rows_told c.loop-step.head.live c.loop-step.rows c.if-head.false (i.told (asked.told none)))
          (omega (arith, i.many, c.loop-step.auto));
      sound = same_failures _ _ i.read (ended.prefix_kept ∙ c.in-Ok-put_entries.ensures.kept ∙ i.prefix_kept)
          (ended.suffix_kept ∙ i.suffix_kept);
      cause = tt;
      begun = tt;
    }

pub returns-in-Err-end : goal.returns-in-Err-end
returns-in-Err-end g c = λ o start asked.
    let i = c.loop-step.invariant in
    let f = c.args.form.now in
    let l = f.layout in
    let so = i.so o start asked in
    let out = subst
    (λ m. WritesOut (g.W.Write.contents c.loop-step.prefix.inner) (g.W.Write.contents c.put_entries-2.new.writer.inner)
    (c.loop-step.table ++ repeated (m - c.loop-step.entries) c.loop-step.rows) c.put_entries-2.new.buffer)
    (all_entries l c.requires.layout) c.in-Ok-put_entries.ensures.ok in
    let kept = c.in-Ok-put_entries.ensures.kept ∙ i.prefix_kept in
    not_ended g.W.Write.contents f c.loop-step.rows _ _ _ _ _ _
    (λ (e : PackError). IsPackAnswer g.R.Read.remaining g.W.Write.contents o start c.args.reader.now c.loop-step.reader c.args.prefix.now
    c.end.new.prefix c.args.suffix.now c.end.new.suffix (Err e))
    c.in-Err-end.error c.in-Err-end.ensures.err
    (λ lost. record {
      ok = tt;
      sound = tt;
      cause = (
        i.read,
        ap (λ (p : Watched g.row.W.Denot). p.failures) lost.prefix_same ∙ kept,
        subst (λ n. RisesByOne n c.end.new.suffix.failures) i.suffix_kept lost.suffix_failed,
      );
      begun = inr (subst
          (λ (p : Watched g.row.W.Denot). IsBegun o start (g.R.Read.remaining c.loop-step.reader.inner) (g.W.Write.contents c.args.prefix.now.inner)
          (g.W.Write.contents p.inner) (g.W.Write.contents c.args.suffix.now.inner) (g.W.Write.contents c.end.new.suffix.inner) WriteSuffix)
          (sym lost.prefix_same)
          (suffix_end_lost o f asked.length asked.form c.requires.layout start _ _ _ _ _ _ _ _ _ _ _ so c.if-head.false _ _ i.most out _
          lost.suffix_front));
    })
    (λ lost. record {
      ok = tt;
      sound = tt;
      cause = (
        i.read,
        subst (λ n. RisesByOne n c.end.new.prefix.failures) kept lost.prefix_failed,
        lost.suffix_kept ∙ i.suffix_kept,
      );
      begun = inr (prefix_end_lost o f asked.length asked.form c.requires.layout start _ _ _ _ _ _ _ _ _ _ _ so c.if-head.false _ _ i.most out _ _
          lost.prefix_front lost.suffix_bytes);
    })
