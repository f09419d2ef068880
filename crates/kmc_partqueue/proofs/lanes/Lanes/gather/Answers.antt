use Rattle.std.proofs.Common.{◌≡◌, sym, ap, ◌∙◌, ℕ, ◌<◌, ◌++◌, ◌∷◌, [], subst, slice_get, Some, arith}
use Rattle.std.proofs.lemmas.Grind.{elements}
use Rattle.kmc_partqueue.specs.Counts.{Each, total_of, same}
use Rattle.kmc_partqueue.specs.Seats.{ReaderState, IsReaderOf, IsWriterOf, AreKeptTotals, AllEnded}
use Rattle.kmc_partcore.specs.History.{History}
use Rattle.kmc_partqueue.specs.Gathered.{Pairs, WriterPairs}
use Rattle.kmc_partqueue.specs.Told.{IsHistoryOf}
use Rattle.kmc_partqueue.proofs.Kept.{rule_of}
use Rattle.kmc_partqueue.proofs.Told.{told}
use Rattle.kmc_partqueue.specs.Lemmas.Sums.{append_none, each_split, each_map}
use Rattle.kmc_partqueue.proofs.Final.{each_at, pairs_append, gathered, totals_are, counts_are, get_or_at}
use Rattle.kmc_partqueue.proofs.lanes.Lanes.gather.Given.{Over}
use Rattle.kmc_partqueue.proofs.lanes.Lanes.gather.Goals.{Start, In-Some, After-join_all, After-first_finished}
use Rattle.kmc_partqueue.proofs.lanes.Lanes.gather.Goals as goal

-- each number once, by the table's own shape
each_writer : (g : Over) (c : Start g) (w : ℕ) → w < c.args.self.table.shared.key.writers
    → total_of (λ s. same s.number w) c.args.writers.items ≡ 1
each_writer g c w l = c.requires.writers w (subst (λ (z : ℕ). w < z) (ap (λ q. q.writers) c.args.self.shaped) l)

each_reader : (g : Over) (c : Start g) (q : ℕ) → q < c.args.self.table.shared.key.readers
    → total_of (λ s. same s.number q) c.args.readers.items ≡ 1
each_reader g c q l = c.requires.readers q (subst (λ (z : ℕ). q < z) (ap (λ q. q.readers) c.args.self.shaped) l)

lanes_of : (g : Over) (c : Start g) (i : ℕ) (s : ReaderState g.row.T.Denot) → slice_get c.args.readers.items i ≡ Some s
    → s.writers ≡ c.args.self.shape.writers
lanes_of g c i s at =
    (each_at (IsReaderOf c.args.self.table.shared.table_id c.args.self.shape) c.args.readers.items c.requires.queue.1 i s at).2

all_ended : (g : Over) (c : Start g) (i : ℕ) (s : ReaderState g.row.T.Denot) → slice_get c.args.readers.items i ≡ Some s
    → AllEnded s.writers s.totals → AllEnded c.args.self.table.shared.key.writers s.totals
all_ended g c i s at ended =
    subst (λ (z : ℕ). AllEnded z s.totals) (lanes_of g c i s at ∙ sym (ap (λ q. q.writers) c.args.self.shaped)) ended

-- the reader whose totals are answered
finisher : (g : Over) (c : After-first_finished g)
    → (s : ReaderState g.row.T.Denot) × (slice_get c.args.readers.items c.first_finished.result ≡ Some s) × AllEnded s.writers s.totals
finisher g c =
    let f = c.first_finished.ensures in
    (f.0, ap (λ z. slice_get z c.first_finished.result) (sym c.as_slice.ensures.value) ∙ f.1, f.2)

-- the seat that all others are joined to
others : (g : Over) (c : In-Some g) → let me = c.args.self in Each (IsReaderOf me.table.shared.table_id me.shape) c.pop.new.self.items
    × (c.in-Some.first.table ≡ me.table.shared.table_id)
others g c = let me = c.args.self in let of_queue = IsReaderOf me.table.shared.table_id me.shape in
    let facts = each_split of_queue c.pop.new.self.items (c.in-Some.first ∷ []) (subst (Each of_queue) c.in-Some.ensures.items c.requires.queue.1) in
    (facts.0, facts.1.0.0)

views : (g : Over) (c : After-join_all g)
    → Pairs c.join_all.new.seat.me.0.readers c.args.readers.items × WriterPairs c.join_all.new.seat.me.0.writers c.args.writers.items
views g c = let v = c.into_seat-base.ensures.view in let r = c.join_all.ensures.readers in let w = c.join_all.ensures.writers in
    let readers = subst (Pairs (r.0 ++ v.0 ∷ [])) (sym c.in-Some.ensures.items)
    (pairs_append r.0 (v.0 ∷ []) c.pop.new.self.items (c.in-Some.first ∷ []) r.2 (v.2, tt)) in (
      subst (λ z. Pairs z c.args.readers.items) (sym (r.1 ∙ ap (λ m. r.0 ++ m.0.readers) v.1)) readers,
      subst (λ z. WriterPairs z c.args.writers.items) (sym (w.1 ∙ ap (λ m. w.0 ++ m.0.writers) v.1 ∙ sym (append_none w.0))) w.2,
    )

pub all_totals-totals-requires : goal.all_totals-totals-requires
all_totals-totals-requires g c = let f = finisher g (goal.at.all_totals-totals-requires g c).After-first_finished in
    subst (λ v. AllEnded v.writers v.totals) (sym (c.index.ensures ∙ get_or_at c.args.readers.items c.first_finished.result _ f.0 f.1)) f.2

pub join_all-requires : goal.join_all-requires
join_all-requires g c =
    let o = others g (goal.at.join_all-requires g c).In-Some in
    record { queue = c.into_seat-base.ensures.table ∙ o.1; readers = o.0; writers = c.requires.queue.0 }

pub close-requires : goal.close-requires
close-requires g c = c.join_all.ensures.queue.0 ∙ c.into_seat-base.ensures.table ∙ (others g (goal.at.close-requires g c).In-Some).1

pub returns-clause-gathered : goal.returns-clause-gathered
returns-clause-gathered g c =
    let p = goal.at.returns-clause-gathered g c in let k = c.args.self.table.shared.key in let end = c.close.ensures in
    let vs = views g p.After-join_all in let last = c.requires.finished in
    gathered k end.0 (rule_of k end.0 end.1.0) c.join_all.new.seat.id c.join_all.new.seat.me.0 end.1.1 c.args.writers.items c.args.readers.items vs.1 vs.0 (each_writer g p.Start) (each_reader g p.Start) last.0 last.1 (all_ended g p.Start last.1.0 last.0 last.1.1 last.2)

pub returns-clause-history : goal.returns-clause-history
returns-clause-history g c =
    let p = goal.at.returns-clause-history g c in let k = c.args.self.table.shared.key in let end = c.close.ensures in
    let vs = views g p.After-join_all in let last = c.requires.finished in
    subst (λ q. (h : History _) × IsHistoryOf q c.args.writers.items c.args.readers.items h) c.args.self.shaped
    (told k end.0 end.1.0 c.join_all.new.seat.id c.join_all.new.seat.me.0 end.1.1 c.args.writers.items c.args.readers.items vs.1 vs.0
    (each_writer g p.Start) (each_reader g p.Start) last.0 last.1 (all_ended g p.Start last.1.0 last.0 last.1.1 last.2))

pub returns-clause-totals : goal.returns-clause-totals
returns-clause-totals g c =
    let p = goal.at.returns-clause-totals g c in let me = c.args.self in let k = me.table.shared.key in
    let end = c.close.ensures in let vs = views g p.After-join_all in let f = finisher g p.After-first_finished in
    let one = c.index.ensures ∙ get_or_at c.args.readers.items c.first_finished.result _ f.0 f.1 in
    let are = subst (λ v. AreKeptTotals v.writers v.totals c.all_totals-totals.result) one c.all_totals-totals.ensures in
    let all = subst (λ (z : ℕ). AreKeptTotals z f.0.totals c.all_totals-totals.result) (lanes_of g p.Start c.first_finished.result f.0 f.1) are in
    let near = each_map (IsWriterOf me.table.shared.table_id me.shape) (λ s. s.number < me.shape.writers)
    (λ s p. p.2) c.args.writers.items c.requires.queue.0 in
    let counts = totals_are k end.0
    (rule_of k end.0 end.1.0) c.join_all.new.seat.id c.join_all.new.seat.me.0 end.1.1 c.args.writers.items c.args.readers.items vs.1 vs.0
    (each_writer g p.Start) (each_reader g p.Start) f.0 (c.first_finished.result, f.1) (all_ended g p.Start c.first_finished.result f.0 f.1 f.2) in
    (all.0, counts_are me.shape.writers f.0.totals c.all_totals-totals.result all c.args.writers.items near counts)

pub index-requires : goal.index-requires
index-requires g c = grind (arith, elements)
