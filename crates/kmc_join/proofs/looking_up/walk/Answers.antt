use Rattle.std.proofs.Common.{◌≡◌, ◌<◌, ◌^◌, ℕ, List, cond, length, refl, ap, subst, ◌∙◌, arith}
use Rattle.std.specs.Prelude.{slice_index}
use Rattle.kmc_count.specs.Occurrences.{same_word}
use Rattle.kmc_sum.specs.Heads.{rank}
use Rattle.kmc_join.specs.KeyCounts.{AreBelow, key_at}
use Rattle.kmc_join.proofs.NotedKeys.{below_next, head_live, noted_more, walk_fault}
use Rattle.kmc_join.proofs.looking_up.walk.Goals as goal

pub returns-in-Err-clause-cause : goal.returns-in-Err-clause-cause
returns-in-Err-clause-cause g c = λ start source.
    let i = c.loop-step.invariant in
    let head = c.loop-step.head in
    let so = i.so start source in
    let live = head_live head c.if-not-head.false in
    walk_fault c.args.k c.requires.long start _ _ _ _ c.in-Err.error.fault i.kept c.in-Err.ensures.read
    (λ line fault is. c.in-Err.ensures.fault line fault is start head so.taken live refl so.source)

pub loop-step-preserved : goal.loop-step-preserved
loop-step-preserved g c =
    let i = c.loop-step.invariant in
    let k = c.args.k in
    let keys = c.args.keys.now in
    let head = c.loop-step.head in
    let next = c.in-Ok.next in
    let live = head_live head c.if-not-head.false in
    let word = c.of_packed-word in
    let noted = c.note_count-below in
    let long : length noted.new.counts ≡ length keys = omega (arith, noted.auto.counts, c.loop-step.auto.counts, c.requires.each) in
    record {
      room = c.in-Ok.ensures.room;
      kept = c.in-Ok.ensures.kept ∙ i.kept;
      fits = c.in-Ok.ensures.behind.2;
      within = noted.ensures.within;
      below = λ more.
          let rises : rank next ≡ next.packed = ap (λ b. cond b next.packed (2 ^ 128)) more in
          below_next k keys noted.result head.packed next.packed i.fits c.in-Ok.ensures.behind.2 (omega (arith, rises, c.in-Ok.ensures.behind.1))
          (subst (AreBelow keys noted.result) word.ensures noted.ensures.below);
      so = λ start source.
          let so = i.so start source in
          noted_more k start _ _ head keys c.loop-step.counts c.loop-step._step so live _ _ next noted.new.counts long
          (subst (λ (w : List ℕ). (j : ℕ) → j < length keys → slice_index noted.new.counts j
          ≡ cond (same_word w (key_at keys j)) head.count (slice_index c.loop-step.counts j)) word.ensures noted.ensures.counts)
          (c.in-Ok.ensures.ok start head so.taken live refl so.source);
    }
