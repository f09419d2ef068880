use Rattle.std.proofs.Common.{◌≡◌, List, [], ◌∷◌, ◌++◌, ℕ, ◌+◌, ◌-◌, length, map, drop, ap, ◌∙◌, sym, subst, arith, ◌<◌, Vec, Global, length-append}
use Rattle.std.specs.List.{All}
use Rattle.std.proofs.lemmas.List.Elements.{All-push}
use Rattle.kmc_base.specs.declared.segment.Segment.{Segment}
use Rattle.kmc_base.specs.Segments.{stretch}
use Rattle.kmc_base.specs.Stretches.{Stretch, stretches_from}
use Rattle.kmc_base.specs.Lemmas.Stretching.{base_added, stretch_ended, all_ended, joined, long_enough}
use Rattle.kmc_base.proofs.plain.stretch.segments.Goals as goal
use Rattle.kmc_base.proofs.plain.stretch.segments.Goals.{in-Some+in_ok-push, in_default+in_ok-close}

pub loop-b-preserved : goal.loop-b-preserved
loop-b-preserved c =
    let k = c.args.k in
    let read = c.args.read.now in
    let i = c.loop-b.b-index in
    let rest = stretches_from (i + 1) (drop (i + 1) read) in
    let done = map stretch c.loop-b.segments.items in
    let open_codes = c.loop-b.open.items in
    let items : Vec ℕ Global → List ℕ = λ v. v.items in
    let found : Vec Segment Global → List Stretch = λ v. map stretch v.items in
    elim c.match-code.branch [
      | in-Some+in_ok-push w ↦
          let more = ap items w.open-is ∙ w.in_ok-push.ensures.items in
          let small = subst (All (λ (x : ℕ). x < 4)) (sym more) (All-push
          (λ (x : ℕ). x < 4) open_codes w.in-Some.c c.loop-b.invariant.1 w.in-Some.ensures.small) in
          let count : length c.match-code.open.items ≡ length open_codes + 1 = ap length more ∙ length-append open_codes (w.in-Some.c ∷ []) in (
            omega (arith, c.loop-b.invariant.0),
            small,
            omega (arith, count, c.loop-b.invariant.2),
            ap (λ (t : List Stretch). t ++ long_enough k (joined (i + 1 - length c.match-code.open.items) c.match-code.open.items rest))
                (ap found w.segments-is)
                ∙ base_added k read i c.loop-b-test.true done _ open_codes c.match-code.open.items w.in-Some.c
                (sym w.in-Some.ensures.is) c.loop-b.invariant.2 more c.loop-b.invariant.3,
          )
      | in_default+in_ok-close w ↦
          let none = ap items (w.open-is ∙ w.replace-codes.ensures.after) ∙ w.new.ensures.items in
          let start = c.loop-b.place - w.len.result in
          let at : start ≡ i - length open_codes =
          omega (arith, w.len.ensures, w.replace-codes.result.ok.0, ap length (ap items w.replace-codes.ensures.value), c.loop-b.invariant.0) in
          let more = ap found w.segments-is ∙ w.in_ok-close.ensures ∙ (λ j. done ++ long_enough k
          (record { start = start; codes = items (w.replace-codes.ensures.value j) } ∷ [])) in
          let small = subst (All (λ (x : ℕ). x < 4)) (sym none) (λ j d h. absurd (omega arith)) in
          let count : length c.match-code.open.items ≡ 0 = ap length none in (
            omega (arith, c.loop-b.invariant.0),
            small,
            omega (arith, count),
            (λ j. found c.match-code.segments ++ long_enough k (joined (i + 1 - length (none j)) (none j) rest))
                ∙ stretch_ended k read i c.loop-b-test.true done _ _ open_codes start c.requires
                (sym w.in_default.ensures.is) c.loop-b.invariant.2 at more c.loop-b.invariant.3,
          )
    ]

pub returns : goal.returns
returns c =
    let start = c.loop-b.place - c.len-2.result in
    let at : start ≡ c.loop-b.b-index - length c.loop-b.open.items = omega (arith, c.len-2.ensures, c.loop-b.open.ok.0, c.loop-b.invariant.0) in
    all_ended c.args.k c.args.read.now c.loop-b.b-index
    (map stretch c.loop-b.segments.items) _ _ c.loop-b.open.items start c.requires c.loop-b-test.false at c.in_ok-close-2.ensures c.loop-b.invariant.3
