use Rattle.std.proofs.Common.{◌∙◌, ap, ℕ, length, get_or, arith}
use Rattle.kmc_partqueue.specs.Seats.{IsWriterOf, new_writer, WriterState}
use Rattle.kmc_partqueue.specs.Lemmas.Numbered.{row_length, row_at, each_from, once_from, ok_from}
use Rattle.kmc_record.specs.Parts.{Parcel}
use Rattle.try_hostile.proofs.parts.many.write.Goals as goal

pub map_vec-requires-after_bounds : goal.map_vec-requires-after_bounds
map_vec-requires-after_bounds g c κs within = λ i x lt e.
    let f : ℕ → WriterState Parcel = new_writer c.args.lanes.now.table.shared.table_id c.args.lanes.now.shape in
    let n : ℕ = c.args.lanes.now.shape.writers in
    let long = ap length c.requires ∙ row_length f 0 n in
    let at = e ∙ ap (λ l. get_or l i x) c.requires ∙ row_at f 0 n i x (omega arith) in
    let number = ap (λ s. s.number) at in (ap (λ s. s.table) at, ap (λ s. s.per_writer) at, omega arith)

pub returns-clause-queue : goal.returns-clause-queue
returns-clause-queue g c =
    ok_from
    c.map_vec.result
    (λ v len each. each_from (IsWriterOf c.args.lanes.now.table.shared.table_id c.args.lanes.now.shape) v.items (λ j d lt.
    let long = v.ok.0 in
    let known = c.args.seats.ok.0 in
    (each j d (omega arith)).1.call.met.0))
    c.map_vec.ensures.len
    c.map_vec.ensures.each

pub returns-clause-numbers : goal.returns-clause-numbers
returns-clause-numbers g c =
    let f : ℕ → WriterState Parcel = new_writer c.args.lanes.now.table.shared.table_id c.args.lanes.now.shape in
    let n : ℕ = c.args.lanes.now.shape.writers in
    let all = ap length c.requires ∙ row_length f 0 n in
    let known = c.args.seats.ok.0 in
    ok_from
    c.map_vec.result
    (λ v len each w lt.
    let long = v.ok.0 in
    once_from
    (λ (s : WriterState Parcel). s.number)
    w
    0
    v.items
    (λ j d below.
    let own = (each j d (omega arith)).1 in
    own.call.met.1 ∙ ap (λ (s : WriterState Parcel). s.number) (own.job_read ∙ ap (λ l. get_or l j own.job) c.requires ∙ row_at f 0 n j own.job (omega arith)))
    (omega arith)
    (omega arith))
    c.map_vec.ensures.len
    c.map_vec.ensures.each
