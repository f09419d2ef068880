use Rattle.std.proofs.Common.{◌≡◌, ℕ, ◌+◌, ◌^◌, ◌<◌, ◌≤◌, ◌++◌, ◌∷◌, [], length, map, get_or, sym, ap, subst, ◌∙◌, arith}
use Rattle.std.proofs.lemmas.List.{map_push}
use Rattle.std.proofs.Math.Nat.{pow-le-pow_right}
use Rattle.kmc_base.specs.Weights.{weighted}
use Rattle.kmc_count.proofs.Tabled.{HasPushed, all_pushed, counter_passed, counter_pushed}
use Rattle.kmc_count.proofs.adding.push_counters.Goals as goal
use Rattle.kmc_count.proofs.adding.push_counters.Goals.{then-count-gt0+in_ok-push, else-count-gt0}

-- so many words there are at most
few : (k : ℕ) → k ≤ 12 → 4 ^ k ≤ 4 ^ 12
few k most = pow-le-pow_right (omega arith) most

pub overflow_cast-place : goal.overflow_cast-place
overflow_cast-place g c = omega (arith, c.loop-place-test.true, c.requires.table.wide, few c.args.form.rule.k (omega (arith, c.requires.short)))

pub loop-place-preserved : goal.loop-place-preserved
loop-place-preserved g c =
    let num = g.W.PackedKmer.number in
    let k = c.args.form.rule.k in
    let f = c.args.form.bits in
    let cs = c.args.table.now in
    let start = map num c.args.out.now.items in
    let j = c.loop-place.place in
    let now = map num c.loop-place.out.items in
    let inside : j < length cs = c.loop-place-test.true in
    elim c.if-count-gt0.branch [
      | then-count-gt0+in_ok-push w ↦
          let count : w.from.result ≡ get_or cs j 0 = w.from.ensures in
          let some : 1 ≤ w.from.result = omega (arith, count, w.if-count-gt0.true) in
          let most : w.from.result ≤ 2 ^ f = omega (arith, count, c.requires.table.low j 0 inside) in
          let pushed : map num w.push.new.self.items ≡ now ++ weighted f w.from.result j ∷ [] =
          ap (map num) w.in_ok-push.ensures.items ∙ map_push num c.loop-place.out.items w.weighted.result
          ∙ ap (λ m. now ++ m ∷ []) (w.weighted.ensures ∙ ap (weighted f w.from.result) w.of_packed-word.ensures) in
          subst (λ out. HasPushed k f cs start (map num out.items) (j + 1)) (sym w.out-is)
          (subst (λ t. HasPushed k f cs start t (j + 1)) (sym pushed)
          (counter_pushed k f cs start now j w.from.result inside (omega (arith, inside, c.requires.table.wide)) count some most c.loop-place.invariant))
      | else-count-gt0 w ↦
          subst (λ out. HasPushed k f cs start (map num out.items) (j + 1)) (sym w.out-is)
          (counter_passed k f cs start now j inside (omega (arith, w.if-count-gt0.false)) c.loop-place.invariant)
    ]

pub returns-clause-each : goal.returns-clause-each
returns-clause-each g c =
    all_pushed c.args.form.rule.k c.args.form.bits c.args.table.now (map g.W.PackedKmer.number c.args.out.now.items) (map g.W.PackedKmer.number c.loop-place.out.items) c.loop-place.place
    (omega (arith, c.loop-place-test.false)) c.loop-place.invariant

pub returns-clause-fit : goal.returns-clause-fit
returns-clause-fit g c = c.loop-place.invariant.fit
