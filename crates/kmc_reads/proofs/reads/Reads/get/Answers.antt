use Rattle.std.proofs.Common.{rules, ◌≡◌, ◌<◌, ◌≤◌, ◌-◌, length, get_or, take, drop, [], ◌∷◌, sym, ap, ◌∙◌, vec_len, arith}
use Rattle.std.proofs.lemmas.List.{get_or_read}
use Rattle.kmc_reads.proofs.Rows.{rows_many, ends_order, row_at}
use Rattle.kmc_reads.proofs.reads.Reads.get.Goals as goal

pub start_of-start-requires : goal.start_of-start-requires
start_of-start-requires c =
    let inside = c.self.inside in
    omega (arith, c.requires, rows_many 0 inside.ends.items inside.bytes.items, ap length c.self.view_is, ap length c.deref.ensures.value)

pub index-end-requires : goal.index-end-requires
index-end-requires c =
    let inside = c.self.inside in
    let counted : vec_len inside.ends ≡ length inside.ends.items = search rules in
    omega (arith, counted, c.requires, rows_many 0 inside.ends.items inside.bytes.items, ap length c.self.view_is)

pub slice_bounds-result-count : goal.slice_bounds-result-count
slice_bounds-result-count c =
    let ends = c.self.inside.ends.items in let i = c.args.i in
    let inside : i < length ends = omega (arith, c.requires, rows_many 0 ends c.self.inside.bytes.items, ap length c.self.view_is) in
    let start : c.start_of-start.result ≡ get_or (0 ∷ ends) i 0 = c.start_of-start.ensures ∙ ap (λ t. get_or (0 ∷ t) i 0) c.deref.ensures.value in
    omega (
      arith,
      start,
      get_or_read ends i c.index-end.result.now inside c.index-end.ensures 0,
      (ends_order 0 ends (length c.self.inside.bytes.items) i c.self.invariant inside).1,
    )

pub slice_bounds-result-start : goal.slice_bounds-result-start
slice_bounds-result-start c =
    let ends = c.self.inside.ends.items in let i = c.args.i in
    let inside : i < length ends = omega (arith, c.requires, rows_many 0 ends c.self.inside.bytes.items, ap length c.self.view_is) in
    let start : c.start_of-start.result ≡ get_or (0 ∷ ends) i 0 = c.start_of-start.ensures ∙ ap (λ t. get_or (0 ∷ t) i 0) c.deref.ensures.value in
    let end = get_or_read ends i c.index-end.result.now inside c.index-end.ensures 0 in
    let order = ends_order 0 ends (length c.self.inside.bytes.items) i c.self.invariant inside in
    omega (arith, start, end, order.1, order.2, ap length c.deref-2.ensures.value)

pub slice_bounds-result-end : goal.slice_bounds-result-end
slice_bounds-result-end c =
    let ends = c.self.inside.ends.items in let i = c.args.i in
    let inside : i < length ends = omega (arith, c.requires, rows_many 0 ends c.self.inside.bytes.items, ap length c.self.view_is) in
    let end = get_or_read ends i c.index-end.result.now inside c.index-end.ensures 0 in
    let order = ends_order 0 ends (length c.self.inside.bytes.items) i c.self.invariant inside in
    let within : c.index-end.result.now ≤ length c.deref-2.result.now = omega (arith, end, order.2, ap length c.deref-2.ensures.value) in
    search (rules, within)

pub returns : goal.returns
returns c =
    let ends = c.self.inside.ends.items in let i = c.args.i in let bytes = c.self.inside.bytes.items in
    let inside : i < length ends = omega (arith, c.requires, rows_many 0 ends bytes, ap length c.self.view_is) in
    let start : c.start_of-start.result ≡ get_or (0 ∷ ends) i 0 = c.start_of-start.ensures ∙ ap (λ t. get_or (0 ∷ t) i 0) c.deref.ensures.value in
    let end = get_or_read ends i c.index-end.result.now inside c.index-end.ensures 0 in
    let from = get_or (0 ∷ ends) i 0 in
    let whole : from ≡ from - 0 = omega arith in
    (λ j. take (end j - start j) (drop (start j) (c.deref-2.ensures.value j))) ∙ ap (λ n. take (get_or ends i 0 - from) (drop n bytes)) whole
    ∙ sym (row_at 0 ends bytes (length bytes) i c.self.invariant inside) ∙ ap (λ t. get_or t i []) c.self.view_is
