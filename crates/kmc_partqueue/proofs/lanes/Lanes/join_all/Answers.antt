use Rattle.std.proofs.Common.{refl, sym, ap, ◌∙◌, ◌++◌, ◌∷◌, [], subst}
use Rattle.kmc_partqueue.specs.Counts.{Each}
use Rattle.kmc_partqueue.specs.Seats.{IsReaderOf, IsWriterOf}
use Rattle.kmc_partqueue.specs.Gathered.{Pairs, WriterPairs}
use Rattle.kmc_partqueue.specs.Lemmas.Sums.{each_split}
use Rattle.kmc_partqueue.proofs.Joining.{joins_none, joins_one, joins_all}
use Rattle.kmc_partqueue.proofs.lanes.Lanes.join_all.Goals as goal

pub loop-reader-init : goal.loop-reader-init
loop-reader-init g c = (
  refl,
  refl,
  refl,
  joins_none
      (IsReaderOf c.args.self.now.table.shared.table_id c.args.self.now.shape) Pairs c.args.seat.now.me.0.readers c.args.readers.items c.requires.readers tt,
)

pub join_one-requires : goal.join_one-requires
join_one-requires g c = let me = c.args.self.now in let inv = c.loop-reader.invariant in
    let own = (each_split (IsReaderOf me.table.shared.table_id me.shape) c.pop.new.self.items (c.in-Some.reader ∷ [])
    (subst (Each (IsReaderOf me.table.shared.table_id me.shape)) c.in-Some.ensures.items inv.3.each)).1.0 in (
      inv.0 ∙ c.requires.queue,
      c.into_seat.ensures.table ∙ own.0,
      ap (λ m. m.1) c.into_seat.ensures.view.1,
    )

pub loop-reader-preserved : goal.loop-reader-preserved
loop-reader-preserved g c =
    let me = c.args.self.now in let inv = c.loop-reader.invariant in let v = c.into_seat.ensures.view in
    let e = c.join_one.ensures in (
      e.0 ∙ inv.0,
      e.1 ∙ inv.1,
      ap (λ m. m.0.writers) e.2 ∙ ap (λ m. m.0.writers ++ c.loop-reader.seat.me.0.writers) v.1 ∙ inv.2,
      joins_one (IsReaderOf me.table.shared.table_id me.shape) Pairs c.args.seat.now.me.0.readers c.args.readers.items c.loop-reader.seat.me.0.readers _ c.loop-reader.readers.items c.pop.new.self.items v.0 c.in-Some.reader inv.3 c.in-Some.ensures.items (ap (λ m. m.0.readers) e.2 ∙ ap (λ m. m.0.readers ++ c.loop-reader.seat.me.0.readers) v.1) (λ vs ss t. (v.2, t)),
    )

pub loop-writer-init : goal.loop-writer-init
loop-writer-init g c = (
  refl,
  refl,
  refl,
  joins_none
      (IsWriterOf c.args.self.now.table.shared.table_id c.args.self.now.shape) WriterPairs c.loop-reader.seat.me.0.writers c.args.writers.items c.requires.writers tt,
)

pub join_one-requires-in-Some-pop : goal.join_one-requires-in-Some-pop
join_one-requires-in-Some-pop g c = let me = c.args.self.now in let inv = c.loop-writer.invariant in
    let own = (each_split (IsWriterOf me.table.shared.table_id me.shape) c.pop-in-loop-writer.new.self.items (c.in-Some-pop.writer ∷ [])
    (subst (Each (IsWriterOf me.table.shared.table_id me.shape)) c.in-Some-pop.ensures.items inv.3.each)).1.0 in (
      inv.0 ∙ c.loop-reader.invariant.0 ∙ c.requires.queue,
      c.into_seat-in-Some-pop.ensures.table ∙ own.0,
      ap (λ m. m.1) c.into_seat-in-Some-pop.ensures.view.1,
    )

pub loop-writer-preserved : goal.loop-writer-preserved
loop-writer-preserved g c =
    let me = c.args.self.now in let inv = c.loop-writer.invariant in let v = c.into_seat-in-Some-pop.ensures.view in
    let e = c.join_one-in-Some-pop.ensures in (
      e.0 ∙ inv.0,
      e.1 ∙ inv.1,
      ap (λ m. m.0.readers) e.2 ∙ ap (λ m. m.0.readers ++ c.loop-writer.seat.me.0.readers) v.1 ∙ inv.2,
      joins_one (IsWriterOf me.table.shared.table_id me.shape) WriterPairs c.loop-reader.seat.me.0.writers c.args.writers.items c.loop-writer.seat.me.0.writers _ c.loop-writer.writers.items c.pop-in-loop-writer.new.self.items v.0 c.in-Some-pop.writer inv.3 c.in-Some-pop.ensures.items (ap (λ m. m.0.writers) e.2 ∙ ap (λ m. m.0.writers ++ c.loop-writer.seat.me.0.writers) v.1) (λ vs ss t. (v.2, t)),
    )

pub returns-clause-queue : goal.returns-clause-queue
returns-clause-queue g c =
    let r = c.loop-reader.invariant in let w = c.loop-writer.invariant in (w.0 ∙ r.0, w.1 ∙ r.1)

pub returns-clause-readers : goal.returns-clause-readers
returns-clause-readers g c =
    let me = c.args.self.now in let left = c.loop-reader.readers in
    let r = joins_all (IsReaderOf me.table.shared.table_id me.shape) Pairs c.args.seat.now.me.0.readers c.args.readers.items _ left.items
    c.loop-reader.invariant.3 (sym left.ok.0 ∙ c.in_default.ensures.cases.0) in
    (r.0, c.loop-writer.invariant.2 ∙ r.1, r.2)

pub returns-clause-writers : goal.returns-clause-writers
returns-clause-writers g c =
    let me = c.args.self.now in let left = c.loop-writer.writers in
    let w = joins_all (IsWriterOf me.table.shared.table_id me.shape) WriterPairs c.loop-reader.seat.me.0.writers c.args.writers.items _ left.items
    c.loop-writer.invariant.3 (sym left.ok.0 ∙ c.in_default-pop.ensures.cases.0) in
    (w.0, w.1 ∙ ap (λ z. w.0 ++ z) c.loop-reader.invariant.2, w.2)
