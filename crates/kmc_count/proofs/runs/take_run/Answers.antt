use Rattle.std.proofs.Common.{◌≡◌, ◌+◌, ◌-◌, ◌/◌, ◌^◌, ◌<◌, Bool, true, false, min, length, map, drop, get_or, sym, ap, ◌∙◌, arith, add-zero}
use Rattle.std.proofs.lemmas.List.{drop-map, get_or-drop, get_or-map, length-drop, length-map, take_rest}
use Rattle.kmc_count.specs.Runs.{BeginsWith}
use Rattle.kmc_count.proofs.Walk.{run_begins, run_goes_on, run_is}
use Rattle.kmc_count.proofs.runs.take_run.Goals as goal
use Rattle.kmc_count.proofs.runs.take_run.Goals.{then-loop-taken-test+else-is_same, else-loop-taken-test}

pub loop-taken-init : goal.loop-taken-init
loop-taken-init g c = record {
  inside = omega arith;
  run = λ k. run_begins k c.args.bits (map g.W.PackedKmer.number c.args.items.now) (g.W.PackedKmer.number c.args.word);
}

pub loop-taken-preserved : goal.loop-taken-preserved
loop-taken-preserved g c =
    let num = g.W.PackedKmer.number in
    let xs = c.args.items.now in
    let i = c.loop-taken.taken in
    let f = c.args.bits in
    let inside : i < length xs = c.loop-taken-test.true in
    let long : i < length (map num xs) = omega (arith, inside, length-map xs num) in
    let q = num c.index-items-taken-in-loop-taken.result in
    let at : q ≡ get_or (map num xs) i 0 = sym (get_or-map num xs i c.index-items-taken-in-loop-taken.result 0 inside
    ∙ ap num (sym c.index-items-taken-in-loop-taken.is)) in
    let first : num c.index-items-taken.result ≡ get_or (map num xs) i 0 = sym (get_or-map num xs i c.index-items-taken.result 0 inside
    ∙ ap num (sym c.index-items-taken.is)) in
    let word : q / 2 ^ f ≡ num c.args.word = ap (λ n. n / 2 ^ f) (at ∙ sym first) ∙ sym c.without_weight.ensures ∙ c.is_same.ensures.0 c.if-is_same.true in
    record {
      inside = omega (arith, inside);
      run = λ k. run_goes_on k f (map num xs) (num c.args.word) c.loop-taken.count i q _ long at word
          (c.saturating_add-count.ensures ∙ ap (λ t. min (c.loop-taken.count + t) (2 ^ 64 - 1)) c.times.ensures) (c.loop-taken.invariant.run k);
    }

-- a test has one answer
one_answer : (b : Bool) → b ≡ true → b ≡ false → ⊥
one_answer b is other = cc

pub returns : goal.returns
returns g c = λ k.
    let num = g.W.PackedKmer.number in
    let xs = c.args.items.now in
    let i = c.loop-taken.taken in
    let f = c.args.bits in
    let ns = map num xs in
    let p = num c.args.word in
    let rest = ap (map num) (take_rest xs i) ∙ sym (drop-map num i xs) in
    let other : BeginsWith f (drop i ns) p → ⊥ = λ b. elim c.loop-taken-test.branch [
      | then-loop-taken-test+else-is_same w ↦
          let inside : i < length xs = w.loop-taken-test.true in
          let first : num w.index-items-taken.result ≡ get_or ns i 0 = sym (get_or-map num xs i w.index-items-taken.result 0 inside
          ∙ ap num (sym w.index-items-taken.is)) in
          let head : get_or (drop i ns) 0 0 ≡ get_or ns i 0 = get_or-drop i ns 0 0 ∙ ap (λ j. get_or ns j 0) (add-zero i) in
          let word : num w.without_weight.result ≡ p = w.without_weight.ensures ∙ ap (λ n. n / 2 ^ f) (first ∙ sym head) ∙ b.1 in
          one_answer w.is_same.result (w.is_same.ensures.1 word) w.if-is_same.false
      | else-loop-taken-test w ↦ absurd (omega (arith, b.0, length-drop i ns, length-map xs num, w.loop-taken-test.false))
    ] in
    run_is k f ns p c.loop-taken.count i _ rest other (c.loop-taken.invariant.run k)
