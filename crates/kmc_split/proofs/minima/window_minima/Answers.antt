use Rattle.std.proofs.Common.{◌≡◌, ℕ, List, Vec, Global, length, map, slice_index, ◌∙◌, ap, arith}
use Rattle.std.proofs.lemmas.List.{with_items_is}
use Rattle.kmc_base.specs.Lemmas.Powers.{pow_some}
use Rattle.kmc_split.proofs.minima.window_minima.Goals as goal

pub of_packed-requires : goal.of_packed-requires
of_packed-requires g c = omega (arith, pow_some g.V.Mmer.most)

pub loop-width-preserved : goal.loop-width-preserved
loop-width-preserved g c =
    let f = g.V.Mmer.number in
    let at : ℕ → ℕ = slice_index (map f c.args.values.now.items) in
    let next = c.next_width-next.ensures in
    let kept = c.loop-width.invariant in
    let new_is : c.swap.new.x.items ≡ c.widen.new.out = ap (λ (v : Vec g.row.V.Denot Global). v.items) c.swap.ensures.x_after
    ∙ with_items_is c.loop-width.spare c.widen.new.out (omega (arith, c.loop-width.spare.ok.0, c.widen.auto.out, c.deref_mut.ensures.len)) in
    let old_is : c.swap.new.y.items ≡ c.loop-width.values.items = ap (λ (v : Vec g.row.V.Denot Global). v.items) c.swap.ensures.y_after in
    record {
      some = omega arith;
      most = next.most;
      count = omega arith;
      here = omega (arith, ap length new_is, c.widen.auto.out, c.deref_mut.ensures.len, c.loop-width.spare.ok.0, kept.there);
      there = omega (arith, ap length old_is, kept.here);
      each = λ j inside.
          ap (λ (l : List g.row.V.Denot). slice_index (map f l) j) new_is
          ∙ c.widen.ensures at j (omega (arith, c.whole_rows.ensures.least))
          (λ i from to. ap (λ (l : List g.row.V.Denot). slice_index (map f l) i) c.deref.ensures.value ∙ kept.each i (omega arith));
    }
