use Rattle.std.proofs.Common.{◌^◌, get_or, refl, sym, subst, arith}
use Rattle.std.specs.Io.KnownBytes.{Appends}
use Rattle.std.proofs.KnownBytes.{Appends-nil}
use Rattle.kmc_dump.proofs.Ends.{same_consumer}
use Rattle.kmc_dump.proofs.Texts.{no_text}
use Rattle.kmc_dump.proofs.Writing.{range_done, range_failed, ranges_done}
use Rattle.kmc_dump.proofs.output.write_all.Goals as goal

pub loop-range-init : goal.loop-range-init
loop-range-init g c =
    let r = c.args.filling.now.ranges.now in
    let line = g.F.PairForm.bytes c.args.filling.now.form.now in
    let a = g.D.Write.contents c.args.writer.now.inner in
    record {
      room = c.requires.room;
      rings = λ i d inside. ((refl, refl, refl, refl), refl);
      out = λ all. (
        refl,
        subst (Appends a a) (sym (no_text line r.k (2 ^ r.shift) (get_or r.bounds.items 0 0) c.args.filling.now.lists.now)) (Appends-nil a),
      );
    }

pub returns-in_err-write_next : goal.returns-in_err-write_next
returns-in_err-write_next g c =
    let r = c.args.filling.now.ranges.now in
    let lists = c.args.filling.now.lists.now in
    let line = g.F.PairForm.bytes c.args.filling.now.form.now in
    record {
      same = λ i d inside.
          same_consumer (get_or c.args.trays.now i d).full (get_or c.loop-range.trays i d).full (get_or c.write_next.new.trays i d).full
          (c.loop-range.invariant.rings i d inside) (c.write_next.ensures.written.same i d (omega (arith, inside, c.loop-range.auto.trays)));
      written = λ all.
          range_failed g.D.Write.contents line r lists c.requires.ranges c.args.writer.now c.loop-range.writer c.write_next.new.writer c.loop-range.range
          c.in_err-write_next.field-0.0 c.from_residual.result (omega (arith, c.loop-range-test.true, c.requires.ranges.ends, c.len-count.ensures))
          (c.loop-range.invariant.out (c.write_next.ensures.gets line r lists all)) (c.in_err-write_next.ensures.written.written all) c.from_residual.ensures.0;
    }

pub loop-range-preserved : goal.loop-range-preserved
loop-range-preserved g c =
    let r = c.args.filling.now.ranges.now in
    let lists = c.args.filling.now.lists.now in
    let line = g.F.PairForm.bytes c.args.filling.now.form.now in
    record {
      room = c.write_next.ensures.room;
      rings = λ i d inside.
          same_consumer (get_or c.args.trays.now i d).full (get_or c.loop-range.trays i d).full (get_or c.write_next.new.trays i d).full
          (c.loop-range.invariant.rings i d inside) (c.write_next.ensures.written.same i d (omega (arith, inside, c.loop-range.auto.trays)));
      out = λ all.
          range_done g.D.Write.contents line r lists c.requires.ranges c.args.writer.now c.loop-range.writer c.write_next.new.writer c.loop-range.range
          c.in_ok-write_next.field-0 (omega (arith, c.loop-range-test.true, c.requires.ranges.ends, c.len-count.ensures))
          (c.loop-range.invariant.out (c.write_next.ensures.gets line r lists all)) (c.in_ok-write_next.ensures.written.written all);
    }

pub returns : goal.returns
returns g c = record {
  same = c.loop-range.invariant.rings;
  written = λ all.
      ranges_done g.D.Write.contents (g.F.PairForm.bytes c.args.filling.now.form.now) c.args.filling.now.ranges.now c.args.filling.now.lists.now
      c.requires.ranges c.args.writer.now c.loop-range.writer c.finish.new.writer c.loop-range.range c.finish.result
      (omega (arith, c.loop-range-test.false, c.loop-range.auto.range-end, c.requires.ranges.ends, c.len-count.ensures)) (c.loop-range.invariant.out all) c.finish.ensures;
}
