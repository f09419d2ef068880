use Rattle.std.proofs.Common.{refl, sym, [], ◌∙◌, ◌*◌}
use Rattle.std.proofs.lemmas.Result.{IfOk-from_err}
use Rattle.std.specs.Prelude.{replicate, None}
use Rattle.atomic_table.specs.Table.{opening}
use Rattle.kmc_partqueue.specs.Dealing.{row_from, fresh_writer, fresh_reader, all_seats}
use Rattle.kmc_partqueue.specs.Steps as step
use Rattle.kmc_partqueue.proofs.lanes.Lanes.opened.Goals as goal

pub vacant-requires : goal.vacant-requires
vacant-requires g c = let is = c.as_slice.ensures.value ∙ c.in_ok-words.ensures.items_if_clones_equal (λ y e. e) in let q = c.args.shape in
    record { entries = []; steps = step.still (λ j. opening (sym is j) (replicate (q.writers * q.per_writer) None) (all_seats q)) refl }

pub invariant_of-lanes : goal.invariant_of-lanes
invariant_of-lanes g c =
    let is = c.in_ok-table.ensures in
    record { shaped = is.5; sized = (is.0 ∙ c.as_slice.ensures.len ∙ c.in_ok-words.ensures.len, is.1) }

pub returns-in_err-words : goal.returns-in_err-words
returns-in_err-words g c =
    let r = c.from_residual.result in let e = c.from_residual.ensures.0 in
    record { shape = IfOk-from_err r _ e; queue = IfOk-from_err r _ e; seat = IfOk-from_err r _ e }

pub returns-in_err-table : goal.returns-in_err-table
returns-in_err-table g c =
    let r = c.from_residual-in_err-table.result in let e = c.from_residual-in_err-table.ensures.0 in
    record { shape = IfOk-from_err r _ e; queue = IfOk-from_err r _ e; seat = IfOk-from_err r _ e }

pub returns : goal.returns
returns g c = let is = c.in_ok-table.ensures in let q = c.args.shape in record {
  shape = refl;
  queue = is.2;
  seat = is.4 ∙ (λ j. (
    record { writers = row_from (fresh_writer (sym is.5 j)) 0 q.writers; readers = row_from (fresh_reader (sym is.5 j)) 0 q.readers },
    [],
  ));
}
