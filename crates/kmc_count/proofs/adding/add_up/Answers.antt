use Rattle.std.proofs.Common.{◌≡◌, Result, Ok, Err, ℕ, ◌+◌, ◌^◌, List, [], ◌++◌, length, map, replicate, sym, ap, subst, ◌∙◌, arith}
use Rattle.std.proofs.lemmas.List.{length-replicate, with_items_is}
use Rattle.std.specs.Result.{OnOk}
use Rattle.kmc_base.specs.Weights.{items, worth, AreItems}
use Rattle.kmc_count.specs.Tables.{table_worth, IsTable, TakesIn}
use Rattle.kmc_count.proofs.Refused.{refused}
use Rattle.kmc_count.proofs.Tabled.{added_up, fresh_table}
use Rattle.kmc_count.proofs.adding.add_up.Goals as goal

-- what follows from two facts of a call that is answered
on_both : {T E P Q R : Type 0} (r : Result T E) → (P → Q → R) → OnOk r P → OnOk r Q → OnOk r R
on_both (Ok x) f p q = f p q
on_both (Err d) f p q = tt

pub returns-in_err-make_table : goal.returns-in_err-make_table
returns-in_err-make_table g c = refused _ c.from_residual.result c.from_residual.ensures.0

pub add_items-requires-clause-table : goal.add_items-requires-clause-table
add_items-requires-clause-table g c =
    subst (IsTable c.args.form.rule.k c.args.form.bits) (sym (c.as_mut_slice.ensures.value ∙ c.in_ok-make_table.ensures)) (fresh_table c.args.form.rule.k c.args.form.bits)

pub add_items-requires-clause-fit : goal.add_items-requires-clause-fit
add_items-requires-clause-fit g c = subst (λ ns. AreItems c.args.form.rule.k c.args.form.bits (map g.W.PackedKmer.number ns)) (sym c.deref.ensures.value) c.requires.fit

pub returns-in_err-add_items : goal.returns-in_err-add_items
returns-in_err-add_items g c = refused _ c.from_residual-in_err-add_items.result c.from_residual-in_err-add_items.ensures.0

pub returns-in_err-append : goal.returns-in_err-append
returns-in_err-append g c = refused _ c.from_residual-in_err-append.result c.from_residual-in_err-append.ensures.0

pub push_counters-requires-clause-table : goal.push_counters-requires-clause-table
push_counters-requires-clause-table g c =
    let taken = c.in_ok-add_items.ensures in
    let cs = c.add_items.new.table in
    let same : c.deref-2.result.now ≡ cs =
    c.deref-2.ensures.value ∙ with_items_is c.make_table.new.table cs
    (omega (arith, taken.table.wide, c.make_table.new.table.ok.0, ap length c.in_ok-make_table.ensures, length-replicate {A = ℕ} (4 ^ c.args.form.rule.k) 0)) in
    subst (IsTable c.args.form.rule.k c.args.form.bits) (sym same) taken.table

pub returns : goal.returns
returns g c =
    let num = g.W.PackedKmer.number in
    let k = c.args.form.rule.k in
    let f = c.args.form.bits in
    let all = map num c.args.items.now.items in
    let cs = c.add_items.new.table in
    let over = map num c.add_items.new.over.items in
    let taken : TakesIn k f (replicate (4 ^ k) 0) [] cs over all =
    subst (λ t. TakesIn k f t [] cs over all) (c.as_mut_slice.ensures.value ∙ c.in_ok-make_table.ensures)
    (subst (λ t. TakesIn k f c.as_mut_slice.result.now (map num t) cs over all) c.clear.ensures.items
    (subst (λ t. TakesIn k f c.as_mut_slice.result.now (map num c.clear.new.self.items) cs over (map num t)) c.deref.ensures.value c.in_ok-add_items.ensures)) in
    let same : c.deref-2.result.now ≡ cs =
    c.deref-2.ensures.value ∙ with_items_is c.make_table.new.table cs
    (omega (arith, taken.table.wide, c.make_table.new.table.ok.0, ap length c.in_ok-make_table.ensures, length-replicate {A = ℕ} (4 ^ k) 0)) in
    let start : c.append.new.self.items ≡ c.add_items.new.over.items =
    c.in_ok-append.ensures.items ∙ ap (λ (t : List _). t ++ c.add_items.new.over.items) c.clear-2.ensures.items in
    on_both c.push_counters.result
    (λ each fit. added_up k f cs over all (map num c.push_counters.new.out.items) taken
    (subst (λ t. (h : List ℕ → ℕ) → worth h (items k f (map num c.push_counters.new.out.items)) ≡ worth h (items k f (map num t)) + table_worth h k 0 cs) start
    (subst (λ t. (h : List ℕ → ℕ) → worth h (items k f (map num c.push_counters.new.out.items)) ≡ worth h (items k f (map num c.append.new.self.items))
    + table_worth h k 0 t) same each))
    (subst (λ t. AreItems k f (map num t) → AreItems k f (map num c.push_counters.new.out.items)) start fit))
    c.push_counters.ensures.each c.push_counters.ensures.fit
