use Rattle.std.proofs.Common.{◌≡◌, ℕ, List, length, max, sym, ap, subst, arith}
use Rattle.std.proofs.lemmas.List.{with_items_is}
use Rattle.kmc_sum.specs.Lemmas.Causes.{handed_on}
use Rattle.kmc_sum.specs.Listed.{IsLength}
use Rattle.kmc_sum.specs.Sources.{Agrees}
use Rattle.kmc_join.specs.LookedUp.{IsLookedUp}
use Rattle.kmc_join.proofs.FirstFaults.{asked_agrees, found_agrees, since_first}
use Rattle.kmc_join.proofs.looking_up.looked_up.Goals as goal

pub returns-in_err-walk-clause-cause : goal.returns-in_err-walk-clause-cause
returns-in_err-walk-clause-cause g c =
    let start = g.D.Read.remaining c.args.dump.now.inner in
    let h = c.in-Ok-first_head.ensures in
    let found = c.in-Ok-first_head.first.1 in
    let k = c.max.result in
    let k_is : k ≡ max found 1 = c.max.ensures in
    let long : IsLength k = (omega (arith, k_is), omega (arith, k_is, h.length.1)) in
    let agrees : Agrees found k = subst (Agrees found) (sym k_is) (found_agrees found) in
    handed_on c.from_residual.result _ _ c.from_residual.ensures.1
    (since_first c.args.length start _ c.args.dump.now c.walk.new.dump k _ long h.kept _ (c.in_err-walk.ensures.cause start (h.ok k agrees)))

pub returns-clause-ok : goal.returns-clause-ok
returns-clause-ok g c =
    let start = g.D.Read.remaining c.args.dump.now.inner in
    let h = c.in-Ok-first_head.ensures in
    let found = c.in-Ok-first_head.first.1 in
    let k = c.max.result in
    let k_is : k ≡ max found 1 = c.max.ensures in
    let long : IsLength k = (omega (arith, k_is), omega (arith, k_is, h.length.1)) in
    let agrees : Agrees found k = subst (Agrees found) (sym k_is) (found_agrees found) in
    let asked : Agrees c.args.length k = subst (Agrees c.args.length) (sym k_is) (asked_agrees c.args.length found h.length.2) in
    let counts = c.in-Ok-vec.counts in
    let many : length c.walk.new.counts ≡ counts.len = omega (arith, c.walk.auto.counts, ap length c.as_mut_slice.ensures.value, counts.ok.0) in (
      k,
      long,
      asked,
      subst (λ (cs : List ℕ). IsLookedUp k start (g.D.Read.remaining c.walk.new.dump.inner) c.args.keys.now cs)
          (sym (with_items_is counts c.walk.new.counts many)) (c.in_ok-walk.ensures.ok start (h.ok k agrees)),
    )
