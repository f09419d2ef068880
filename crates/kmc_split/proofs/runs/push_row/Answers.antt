use Rattle.std.proofs.Common.{◌≡◌, ℕ, ◌+◌, ◌-◌, ◌≤◌, ◌++◌, ◌∷◌, [], List, sym, subst, refl, arith}
use Rattle.kmc_split.specs.declared.runs.Run.{Run}
use Rattle.kmc_split.specs.Cut.{AreRuns}
use Rattle.kmc_split.specs.Rows.{IsRow, MayFollow, Last}
use Rattle.kmc_split.proofs.RowEnds.{run_of_row, add_run, last_is}
use Rattle.kmc_split.proofs.runs.push_row.Goals as goal

-- the runs with one more of the row at their end
appended : (at : ℕ → ℕ) (start end place words signature : ℕ) (rs : List Run) → at start ≡ signature → IsRow at start end
    → start ≤ place → place + words ≤ end → 1 ≤ words → words ≤ 256 → AreRuns at 0 place rs → MayFollow signature rs
    → AreRuns at 0 (place + words) (rs ++ record { start = place; words = words; signature = signature } ∷ [])
appended at start end place words signature rs is row from to some most runs apart =
    let n : Run = record { start = place; words = words; signature = signature } in
    add_run at 0 place rs n runs apart (run_of_row at start end n row from to some most (sym is)) refl

pub loop-place-preserved : goal.loop-place-preserved
loop-place-preserved c =
    let place = c.loop-place.place in
    let signature = c.args.signature in
    let n : Run = record { start = place; words = 256; signature = signature } in
    let long = c.loop-place-test.true in
    record {
      from = omega arith;
      before = omega arith;
      runs = λ at row is runs apart. subst (AreRuns at 0 (place + 256)) (sym c.in_ok-push.ensures.items)
          (appended at c.args.start c.args.end place 256 signature c.loop-place.runs.items is row c.loop-place.invariant.from
          (omega arith) (omega arith) (omega arith) (c.loop-place.invariant.runs at row is runs apart) (c.loop-place.invariant.apart apart));
      apart = λ apart. subst (MayFollow signature) (sym c.in_ok-push.ensures.items)
          (last_is (λ (r : Run). r.signature ≡ signature → r.words ≡ 256) c.loop-place.runs.items n (λ e. refl));
    }

pub returns-clause-runs : goal.returns-clause-runs
returns-clause-runs c = λ at row is runs apart.
    let place = c.loop-place.place in
    let whole : place + (c.args.end - place) ≡ c.args.end = omega (arith, c.loop-place.invariant.before) in
    subst (AreRuns at 0 c.args.end) (sym c.in_ok-push-2.ensures.items)
    (subst (λ (e : ℕ). AreRuns at 0 e (c.loop-place.runs.items ++ record {
      start = place;
      words = c.args.end - place;
      signature = c.args.signature;
    } ∷ [])) whole
    (appended at c.args.start c.args.end place
    (c.args.end - place) c.args.signature c.loop-place.runs.items is row c.loop-place.invariant.from
    (omega (arith, c.loop-place.invariant.before)) (omega (arith, c.loop-place.invariant.before))
    (omega (arith, c.loop-place-test.false)) (c.loop-place.invariant.runs at row is runs apart) (c.loop-place.invariant.apart apart)))

pub returns-clause-last : goal.returns-clause-last
returns-clause-last c =
    let place = c.loop-place.place in
    subst (Last (λ (r : Run). r.signature ≡ c.args.signature)) (sym c.in_ok-push-2.ensures.items)
    (last_is (λ (r : Run). r.signature ≡ c.args.signature) c.loop-place.runs.items
    (record { start = place; words = c.args.end - place; signature = c.args.signature }) refl)
