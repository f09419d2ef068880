use Rattle.std.proofs.Common.{◌^◌, refl}
use Rattle.kmc_lists.specs.Line.{text_of}
use Rattle.kmc_sum.specs.Lemmas.Written.{out_front}
use Rattle.kmc_database.proofs.UnpackEnds.{ends_otherwise, other_header, read_out}
use Rattle.kmc_database.proofs.UnpackSoFar.{begun_so_far, begun_with, so_rows, so_table}
use Rattle.kmc_database.proofs.unpacking.end_unpacking.Goals as goal

pub returns-in-Ok-false : goal.returns-in-Ok-false
returns-in-Ok-false g c = λ s all.
    let h = c.args.header.now in
    let parts = 4 ^ h.layout.prefix in
    let there = so_rows h.layout s parts parts _ _ _ _ _ _ h.rows all.0 all.1 _ _ c.in-Ok-false.ensures.ok in
    let o = c.in-Ok-false.ensures.other c.in-Ok-false.field-0-test in
    record {
      ok = tt;
      sound = λ first. tt;
      cause = λ first. (
        ends_otherwise h s _ _ _ _ _ _ all.0 there o.0 o.1,
        λ i. record {
          first = first;
          prefix = c.args.prefix.now.failures;
          suffix = c.in-Ok-false.ensures.kept i;
          writer = c.args.writer.now.failures;
        },
      );
      left = begun_so_far h.layout s parts parts _ _ _ _ _ _ h.rows all.0 there;
    }

pub returns-in-Ok-false-ends_in : goal.returns-in-Ok-false-ends_in
returns-in-Ok-false-ends_in g c = λ s all.
    let h = c.args.header.now in
    let parts = 4 ^ h.layout.prefix in
    let rows = so_rows h.layout s parts parts _ _ _ _ _ _ h.rows all.0 all.1 _ _ c.in-Ok-true.ensures.ok in
    let there = so_table h.layout s parts parts _ _ _ _ _ _ h.rows all.0 rows _ _ c.in-Ok-false-ends_in.ensures.ok in
    let end = c.in-Ok-true.ensures.ends c.in-Ok-true.field-0-test in
    let o = c.in-Ok-false-ends_in.ensures.other c.in-Ok-false-ends_in.field-0-test in
    record {
      ok = tt;
      sound = λ first. tt;
      cause = λ first. (
        other_header h s _ _ _ _ _ _ all.0 there end.0 o.0 o.1,
        λ i. record {
          first = first;
          prefix = c.in-Ok-false-ends_in.ensures.kept i;
          suffix = c.in-Ok-true.ensures.kept i;
          writer = c.args.writer.now.failures;
        },
      );
      left = begun_so_far h.layout s parts parts _ _ _ _ _ _ h.rows all.0 there;
    }

pub returns-in-Err-ends_in : goal.returns-in-Err-ends_in
returns-in-Err-ends_in g c = λ s all.
    let h = c.args.header.now in
    let parts = 4 ^ h.layout.prefix in
    let rows = so_rows h.layout s parts parts _ _ _ _ _ _ h.rows all.0 all.1 _ _ c.in-Ok-true.ensures.ok in
    let lost = c.in-Err-ends_in.ensures.lost in
    let there = so_table h.layout s parts parts _ _ _ _ _ _ h.rows all.0 rows _ lost.0 lost.1 in
    record {
      ok = tt;
      sound = λ first. tt;
      cause = λ first. (refl, c.in-Err-ends_in.ensures.failed, c.in-Ok-true.ensures.kept, refl);
      left = begun_so_far h.layout s parts parts _ _ _ _ _ _ h.rows all.0 there;
    }

pub returns-in-Ok : goal.returns-in-Ok
returns-in-Ok g c = λ s all.
    let h = c.args.header.now in
    let parts = 4 ^ h.layout.prefix in
    let rows = so_rows h.layout s parts parts _ _ _ _ _ _ h.rows all.0 all.1 _ _ c.in-Ok-true.ensures.ok in
    let there = so_table h.layout s parts parts _ _ _ _ _ _ h.rows all.0 rows _ _ c.in-Ok-true-ends_in.ensures.ok in
    let end = c.in-Ok-true.ensures.ends c.in-Ok-true.field-0-test in
    let header = c.in-Ok-true-ends_in.ensures.ends c.in-Ok-true-ends_in.field-0-test in
    record {
      ok = read_out h s _ _ _ _ _ _ all.0 there end.0 end.1 header.0 header.1 _ c.in-Ok.ensures.ok;
      sound = λ first i. record {
        first = first;
        prefix = c.in-Ok-true-ends_in.ensures.kept i;
        suffix = c.in-Ok-true.ensures.kept i;
        writer = c.in-Ok.ensures.kept i;
      };
      cause = λ first. tt;
      left = tt;
    }

pub returns-in-Err-flush_into : goal.returns-in-Err-flush_into
returns-in-Err-flush_into g c = λ s all.
    let h = c.args.header.now in
    let parts = 4 ^ h.layout.prefix in
    let rows = so_rows h.layout s parts parts _ _ _ _ _ _ h.rows all.0 all.1 _ _ c.in-Ok-true.ensures.ok in
    let there = so_table h.layout s parts parts _ _ _ _ _ _ h.rows all.0 rows _ _ c.in-Ok-true-ends_in.ensures.ok in
    record {
      ok = tt;
      sound = λ first. tt;
      cause = λ first. (refl, c.in-Ok-true-ends_in.ensures.kept, c.in-Ok-true.ensures.kept, c.in-Err-flush_into.ensures.failed);
      left = begun_with h.layout s parts parts there.pairs _ _ _ _ _ there.given
          (out_front s.written _ _ (text_of there.pairs) c.args.buffer there.text c.in-Err-flush_into.ensures.front);
    }
