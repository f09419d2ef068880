use Rattle.std.proofs.Common.{◌≡◌, ℕ, ◌<◌, List, length, map, take, slice_index, sym, ap, subst, ◌∙◌, refl, arith}
use Rattle.std.proofs.lemmas.List.{with_items_is}
use Rattle.kmc_split.specs.Cut.{AreRuns}
use Rattle.kmc_split.specs.Candidates.{unmarked}
use Rattle.kmc_split.specs.Rows.{AreRowEnds, Last, MayFollow}
use Rattle.kmc_split.specs.Lemmas.Numbers.{read_is}
use Rattle.kmc_split.proofs.RowEnds.{next_row, before_end, other_may_follow, unmarked_apart}
use Rattle.kmc_split.proofs.runs.group.Goals as goal

pub loop-end-init : goal.loop-end-init
loop-end-init g c =
    let values = map g.V.Mmer.number c.args.values.now in
    let at : ℕ → ℕ = slice_index values in
    let ends : c.deref.result.now ≡ c.row_ends-count.new.ends = c.deref.ensures.value ∙ with_items_is c.resize.new.self c.row_ends-count.new.ends
    (omega (arith, c.row_ends-count.auto.ends, c.deref_mut.ensures.len)) in
    record {
      rows = subst (λ (e : List ℕ). AreRowEnds at 0 (length c.args.values.now) (take c.row_ends-count.result e)) (sym {A = List ℕ} ends) c.row_ends-count.ensures.rows;
      runs = subst (AreRuns (λ i. unmarked c.args.m (at i)) 0 0) (sym c.clear.ensures.items) refl;
      apart = subst (MayFollow (unmarked c.args.m (at 0))) (sym c.clear.ensures.items) tt;
    }

pub offset_bounds-values-start : goal.offset_bounds-values-start
offset_bounds-values-start g c =
    let next = next_row (slice_index (map g.V.Mmer.number c.args.values.now)) c.loop-end.start (length c.args.values.now) c.loop-end.end-index
    (take c.row_ends-count.result c.deref.result.now) c.loop-end-test.true c.loop-end.invariant.rows in
    omega (arith, next.0, next.1)

pub bounds-values-start : goal.bounds-values-start
bounds-values-start g c =
    let next = next_row (slice_index (map g.V.Mmer.number c.args.values.now)) c.loop-end.start (length c.args.values.now) c.loop-end.end-index
    (take c.row_ends-count.result c.deref.result.now) c.loop-end-test.true c.loop-end.invariant.rows in
    omega (arith, next.0, next.1)

pub of_least-requires-clause-fits : goal.of_least-requires-clause-fits
of_least-requires-clause-fits g c =
    let f = g.V.Mmer.number in
    let values = c.args.values.now in
    let start = c.loop-end.start in
    let next = next_row (slice_index (map f values)) start (length values) c.loop-end.end-index
    (take c.row_ends-count.result c.deref.result.now) c.loop-end-test.true c.loop-end.invariant.rows in
    let inside : start < length values = omega (arith, next.0, next.1) in
    let is : c.to_u32.result ≡ slice_index (map f values) start = c.to_u32.ensures
    ∙ read_is f values start c.index-values-start.result inside c.index-values-start.is in
    omega (arith, is, c.requires.fit start inside)

pub loop-end-preserved : goal.loop-end-preserved
loop-end-preserved g c =
    let f = g.V.Mmer.number in
    let m = c.args.m in
    let values = c.args.values.now in
    let at : ℕ → ℕ = slice_index (map f values) in
    let start = c.loop-end.start in
    let next = next_row at start (length values) c.loop-end.end-index
    (take c.row_ends-count.result c.deref.result.now) c.loop-end-test.true c.loop-end.invariant.rows in
    let inside : start < length values = omega (arith, next.0, next.1) in
    let signature : c.of_least.result ≡ unmarked m (at start) = c.of_least.ensures
    ∙ ap (unmarked m) (c.to_u32.ensures ∙ read_is f values start c.index-values-start.result inside c.index-values-start.is) in
    let end_inside = before_end at _ (length values) _ next.4 in
    record {
      rows = next.4;
      runs = c.in_ok-push_row.ensures.runs (λ i. unmarked m (at i)) (λ i from to. ap (unmarked m) (next.2 i from to)) (sym signature)
          c.loop-end.invariant.runs (subst (λ (v : ℕ). MayFollow v c.loop-end.runs.items) (sym signature) c.loop-end.invariant.apart);
      apart = other_may_follow (unmarked m (at start)) _ c.push_row.new.runs.items
          (unmarked_apart m (at start) _ (c.requires.fit start inside) (c.requires.fit _ end_inside) next.3)
          (subst (λ (v : ℕ). Last (λ r. r.signature ≡ v) c.push_row.new.runs.items) signature c.in_ok-push_row.ensures.last);
    }
