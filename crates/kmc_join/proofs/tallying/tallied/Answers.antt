use Rattle.std.proofs.Common.{◌≡◌, ℕ, List, ◌≤◌, ◌^◌, ◌-◌, length, map, subst, ◌∙◌, arith, refl, true}
use Rattle.std.proofs.lemmas.List.{length-map}
use Rattle.kmc_device.specs.Device.{Watched}
use Rattle.kmc_sum.specs.Heads.{head_at}
use Rattle.kmc_sum.specs.Sources.{AreReady, no_lists}
use Rattle.kmc_sum.specs.Lemmas.Advances.{first_inside}
use Rattle.kmc_sum.specs.Lemmas.Causes.{fault_since, handed_on}
use Rattle.kmc_sum.specs.Lemmas.Counted.{taken_more, too_many}
use Rattle.kmc_sum.specs.Lemmas.Taken.{gave_all, room_of}
use Rattle.std.specs.Ordering.{nat_cmp}
use Rattle.kmc_join.specs.Rows.{number_of}
use Rattle.kmc_join.specs.Tally.{seen}
use Rattle.kmc_join.proofs.Numbering.{no_tally, none_seen}
use Rattle.kmc_join.proofs.Tallies.{seen_more, tally_next, tally_start, whole_tally}
use Rattle.kmc_join.proofs.tallying.tallied.Goals as goal
use Rattle.kmc_join.proofs.tallying.tallied.Goals.{else-loop-step-test, then-loop-step-test+then-not-heads}

pub loop-step-init : goal.loop-step-init
loop-step-init g c =
    let left = λ (r : Watched g.row.R.Denot). g.R.Read.remaining r.inner in
    let none : (n : ℕ) → seen c.in-Ok.small.items c.new-tally.result n ≡ 0 =
    λ n. omega (arith, c.in-Ok.ensures n, none_seen nat_cmp c.new-tally.result c.new-tally.ensures.empty n) in
    record {
      many = refl;
      same = refl;
      ready = c.requires.ready;
      tree = c.requires.tree;
      sound = no_tally nat_cmp c.new-tally.result c.new-tally.ensures.empty;
      few = λ n. omega (arith, none n);
      so = λ starts are. tally_start c.args.k starts _ _ _ (seen c.in-Ok.small.items c.new-tally.result)
          (omega (arith, length-map c.args.readers.now left, are.nows_long, c.requires.one)) none are;
      taken = λ starts are. record { lists = no_lists starts; sources = are; many = omega arith };
    }

pub returns-in_err-advance-clause-cause : goal.returns-in_err-advance-clause-cause
returns-in_err-advance-clause-cause g c =
    let i = c.loop-step.invariant in
    handed_on c.from_residual.result _ _ c.from_residual.ensures.1 (λ starts are.
    let so = i.so starts are in
    (c.args.k, c.requires.long, fault_since c.args.k starts _ _ _ _ _ _ i.same (c.in_err-advance.ensures.fault starts so.lists so.sources)))

pub loop-step-preserved : goal.loop-step-preserved
loop-step-preserved g c =
    let i = c.loop-step.invariant in
    let k = c.args.k in
    let top = head_at c.loop-step.heads 1 in
    let left = λ (r : Watched g.row.R.Denot). g.R.Read.remaining r.inner in
    let n = length c.loop-step.readers in
    let some : 1 ≤ n = omega (arith, i.many, c.requires.one) in
    let inside = first_inside k n c.loop-step.rooms c.loop-step.heads i.ready i.tree some in
    let first : top.source ≡ 0 = omega (arith, inside, i.many, c.requires.one) in
    let live : top.live ≡ true = c.if-not-heads.false in
    let more = c.in-Ok-see_count.ensures in
    record {
      many = c.advance.auto.readers ∙ i.many;
      same = c.in_ok-advance.ensures.kept ∙ i.same;
      ready = c.in_ok-advance.ensures.ready;
      tree = c.in_ok-advance.ensures.tree;
      sound = more.sound;
      few = seen_more c.loop-step.small.items _ c.loop-step.tally _ top.count c.loop-step._step more i.few;
      so = λ starts are.
          let so = i.so starts are in
          tally_next k starts _ _ _ _ c.loop-step.heads _ _ _ so live first
          (omega (arith, inside, length-map c.loop-step.readers left, so.sources.nows_long, so.sources.lists_long)) more.counts
          (c.in_ok-advance.ensures.sources starts so.lists so.sources);
      taken = λ starts are.
          let taken = i.taken starts are in
          taken_more k starts _ _ _ _ _ _ _ taken (omega (arith, inside, length-map c.loop-step.readers left, taken.sources.nows_long))
          live (c.in_ok-advance.ensures.sources starts taken.lists taken.sources);
    }

pub returns-then-heads-offset48-clause-cause : goal.returns-then-heads-offset48-clause-cause
returns-then-heads-offset48-clause-cause g c = λ starts are.
    let i = c.loop-step.invariant in
    let so = i.so starts are in
    let taken = i.taken starts are in
    let left = λ (r : Watched g.row.R.Denot). g.R.Read.remaining r.inner in
    let long : length c.loop-step.readers ≡ length starts = omega (arith, length-map c.loop-step.readers left, so.sources.nows_long) in
    let most : 2 ^ 64 - 2 ≤ c.loop-step._step = elim c.loop-step-test.branch [
      | else-loop-step-test w ↦ omega (arith, w.loop-step-test.false)
      | then-loop-step-test+then-not-heads w ↦ absurd (cc (w.if-not-heads.true, c.if-heads-offset48.true))
    ] in (
      c.args.k,
      c.requires.long,
      too_many c.args.k starts _ c.loop-step.rooms c.loop-step.heads c.loop-step._step (i.ready.rooms_long ∙ long) most taken,
    )

pub returns-in-Ok-put_small-clause-whole : goal.returns-in-Ok-put_small-clause-whole
returns-in-Ok-put_small-clause-whole g c = λ starts are.
    let i = c.loop-step.invariant in
    let k = c.args.k in
    let so = i.so starts are in
    let left = λ (r : Watched g.row.R.Denot). g.R.Read.remaining r.inner in
    let nows = map left c.loop-step.readers in
    let long : length c.loop-step.readers ≡ length starts = omega (arith, length-map c.loop-step.readers left, so.sources.nows_long) in
    let one : length starts ≡ 1 = omega (arith, long, i.many, c.requires.one) in
    let some : 1 ≤ length starts = omega (arith, one) in
    let same = subst (λ (s : List ℕ). (n : ℕ) → number_of nat_cmp c.put_small.new.tally n ≡ seen s c.loop-step.tally n) c.as_slice.ensures.value
    c.in-Ok-put_small.ensures.counts in
    whole_tally k starts nows c.loop-step.rooms c.loop-step.heads _ _ c.requires.long one same so
    (gave_all k starts nows c.loop-step.rooms c.loop-step.heads so.lists so.sources
    (subst (λ m. AreReady k m c.loop-step.rooms c.loop-step.heads) long i.ready) i.tree some c.requires.long.1 c.if-heads-offset48.false
    (room_of c.loop-step.rooms (omega (arith, i.ready.rooms_long, i.many, c.requires.one))))
