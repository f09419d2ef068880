use Rattle.std.proofs.Common.{sym, subst, ◌∙◌, Ok, Err}
use Rattle.std.proofs.lemmas.List.Sorted.{length_permutation}
use Rattle.std.specs.List.{flat_map}
use Rattle.kmc_lists.specs.Listed.{spelled}
use Rattle.kmc_lists.specs.Ordered.{joined, packs, whole}
use Rattle.kmc_lists.specs.Lemmas.Order.{in_order_moves}
use Rattle.kmc_dump.specs.Written.{IsWritten}
use Rattle.kmc_dump.proofs.Writing.{dumped, front_dumped, none_dumped}
use Rattle.kmc_dump.proofs.write.write_lists.Goals as goal

pub returns-in_err-total : goal.returns-in_err-total
returns-in_err-total g c = none_dumped g.D.Write.contents _ _ c.args.writer.now c.from_residual.result c.from_residual.ensures.1

pub returns-in_err-ranges : goal.returns-in_err-ranges
returns-in_err-ranges g c =
    none_dumped g.D.Write.contents _ _ c.args.writer.now c.from_residual-in_err-ranges.result c.from_residual-in_err-ranges.ensures.1

pub returns-in_err-own : goal.returns-in_err-own
returns-in_err-own g c =
    none_dumped g.D.Write.contents _ _ c.args.writer.now c.from_residual-in_err-own.result c.from_residual-in_err-own.ensures.1

pub returns-in_err-fillers : goal.returns-in_err-fillers
returns-in_err-fillers g c =
    none_dumped g.D.Write.contents _ _ c.args.writer.now c.from_residual-in_err-fillers.result c.from_residual-in_err-fillers.ensures.1

pub returns-in_err-desk : goal.returns-in_err-desk
returns-in_err-desk g c =
    none_dumped g.D.Write.contents _ _ c.args.writer.now c.from_residual-in_err-desk.result c.from_residual-in_err-desk.ensures.1

pub write_ranges-requires-clause-ranges : goal.write_ranges-requires-clause-ranges
write_ranges-requires-clause-ranges g c κs within = c.in_ok-ranges.ensures.1

pub returns-in-Ok : goal.returns-in-Ok
returns-in-Ok g c =
    let lists = c.args.lists.now in
    let all = joined (packs lists) in
    let bytes = g.D.Write.contents in
    let line = g.F.PairForm.bytes c.args.form.now in
    let old = c.args.writer.now in
    let new = c.write_ranges.new.writer in
    dumped bytes _ _ old new c.in_ok-total.total tt
    (c.in_ok-total.ensures.total ∙ sym (length_permutation all (whole lists) (in_order_moves all)))
    (subst (λ k. IsWritten bytes (flat_map line (spelled k (whole lists))) old new (Ok tt)) c.in_ok-ranges.ensures.0 c.in-Ok.ensures)

pub returns : goal.returns
returns g c =
    let lists = c.args.lists.now in
    let bytes = g.D.Write.contents in
    let line = g.F.PairForm.bytes c.args.form.now in
    let old = c.args.writer.now in
    let new = c.write_ranges.new.writer in
    front_dumped bytes _ _ old new c.in-Err.field-0
    (subst (λ k. IsWritten bytes (flat_map line (spelled k (whole lists))) old new (Err c.in-Err.field-0)) c.in_ok-ranges.ensures.0 c.in-Err.ensures)
