use Rattle.std.proofs.Common.{◌≡◌, Result, Ok, Err, length, map, sym, subst, ◌∙◌, arith}
use Rattle.std.specs.Prelude.{OnErr}
use Rattle.std.proofs.lemmas.List.{length-map}
use Rattle.kmc_device.specs.Device.{Watched}
use Rattle.kmc_sum.specs.Sources.{AreReady}
use Rattle.kmc_sum.specs.Lemmas.Advances.{first_fits, first_inside}
use Rattle.kmc_sum.specs.Lemmas.Causes.{fault_since, handed_on}
use Rattle.kmc_join.proofs.TakenWords.{first_two, fronts_fewer, taken_one, taken_two, top_listed}
use Rattle.kmc_join.proofs.taking.take_word.Goals as goal
use Rattle.kmc_join.proofs.taking.take_word.Goals.{then-not-heads-via-then-not-heads, then-not-heads-via-else-not-heads+then-heads-packed}

on_err : {T E : Type 0} (r : Result T E) (P : Type 0) → P → OnErr r P
on_err (Ok x) P h = tt
on_err (Err d) P h = h

pub returns-then-not-heads-clause-taken : goal.returns-then-not-heads-clause-taken
returns-then-not-heads-clause-taken g c = λ starts lists abreast.
    let left = λ (r : Watched g.row.R.Denot). g.R.Read.remaining r.inner in
    let k = c.args.k in
    let n = length c.args.readers.now in
    let done = c.in_ok-advance.ensures in
    taken_one k n c.requires.two starts _ c.args.rooms.now c.args.heads.now lists c.requires.ready c.requires.tree c.requires.live
    (sym (length-map c.args.readers.now left)) abreast _ c.advance.new.rooms c.advance.new.heads
    (subst (λ m. AreReady k m c.advance.new.rooms c.advance.new.heads) c.advance.auto.readers done.ready) done.tree
    (done.sources starts lists abreast.sources) done.behind (λ alive e. elim c.then-not-heads.branch [
      | then-not-heads-via-then-not-heads w ↦ absurd (cc (w.if-not-heads.true, alive))
      | then-not-heads-via-else-not-heads+then-heads-packed w ↦ w.if-heads-packed.true e
    ])

pub offset_bounds-counts-heads-2 : goal.offset_bounds-counts-heads-2
offset_bounds-counts-heads-2 g c =
    let inside = first_two c.args.k (length c.advance.new.readers) c.advance.new.rooms c.advance.new.heads c.in_ok-advance.ensures.ready
    c.in_ok-advance.ensures.tree (c.advance.auto.readers ∙ c.requires.two) c.if-not-heads.false in
    omega (arith, inside)

pub bounds-counts-heads-2 : goal.bounds-counts-heads-2
bounds-counts-heads-2 g c =
    first_two c.args.k (length c.advance.new.readers) c.advance.new.rooms c.advance.new.heads c.in_ok-advance.ensures.ready
    c.in_ok-advance.ensures.tree (c.advance.auto.readers ∙ c.requires.two) c.if-not-heads.false

pub advance-requires-2-clause-inside : goal.advance-requires-2-clause-inside
advance-requires-2-clause-inside g c =
    first_inside c.args.k (length c.advance.new.readers) c.advance.new.rooms c.advance.new.heads c.in_ok-advance.ensures.ready
    c.in_ok-advance.ensures.tree (omega (arith, c.advance.auto.readers, c.requires.two))

pub returns-in_err-advance-2-clause-fault : goal.returns-in_err-advance-2-clause-fault
returns-in_err-advance-2-clause-fault g c =
    handed_on c.from_residual-in_err-advance-2.result _ _ c.from_residual-in_err-advance-2.ensures.1 (λ starts lists abreast.
    fault_since c.args.k starts _ _ _ _ _ _ c.in_ok-advance.ensures.kept
    (c.in_err-advance-2.ensures.fault starts _ (c.in_ok-advance.ensures.sources starts lists abreast.sources)))

pub returns-in_err-advance-2-clause-lost : goal.returns-in_err-advance-2-clause-lost
returns-in_err-advance-2-clause-lost g c = on_err c.from_residual-in_err-advance-2.result _ (λ starts lists abreast.
    let left = λ (r : Watched g.row.R.Denot). g.R.Read.remaining r.inner in
    let inside = top_listed c.args.k (length c.args.readers.now) c.args.rooms.now c.args.heads.now c.requires.ready c.requires.tree c.requires.two
    c.requires.live starts (map left c.args.readers.now) lists (sym (length-map c.args.readers.now left)) abreast.sources in
    fronts_fewer c.args.k starts _ c.args.heads.now lists inside
    (c.in_err-advance-2.ensures.lost starts _ (c.in_ok-advance.ensures.sources starts lists abreast.sources)))

pub returns-clause-fits : goal.returns-clause-fits
returns-clause-fits g c =
    first_fits c.args.k (length c.args.readers.now) c.args.rooms.now c.args.heads.now c.requires.ready c.requires.tree (omega (arith, c.requires.two))

pub returns-clause-taken : goal.returns-clause-taken
returns-clause-taken g c = λ starts lists abreast.
    let left = λ (r : Watched g.row.R.Denot). g.R.Read.remaining r.inner in
    let k = c.args.k in
    let n = length c.args.readers.now in
    let one = c.in_ok-advance.ensures in
    let two = c.in_ok-advance-2.ensures in
    let mid = one.sources starts lists abreast.sources in
    let first : length c.advance.new.readers ≡ n = c.advance.auto.readers in
    let second : length c.advance-2.new.readers ≡ n = c.advance-2.auto.readers ∙ first in
    taken_two k n c.requires.two starts _ c.args.rooms.now c.args.heads.now lists c.requires.ready c.requires.tree c.requires.live
    (sym (length-map c.args.readers.now left)) abreast _ c.advance.new.rooms c.advance.new.heads
    (subst (λ m. AreReady k m c.advance.new.rooms c.advance.new.heads) first one.ready) one.tree mid c.if-not-heads.false
    (sym (length-map c.advance.new.readers left ∙ first)) c.if-heads-packed.false _ c.advance-2.new.rooms c.advance-2.new.heads
    (subst (λ m. AreReady k m c.advance-2.new.rooms c.advance-2.new.heads) second two.ready) two.tree
    (sym (length-map c.advance-2.new.readers left ∙ second)) (two.sources starts _ mid)
    (λ j low high. two.behind j (omega (arith, low, first)) (omega (arith, high, first)))
