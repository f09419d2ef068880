use Rattle.std.proofs.Common.{◌≡◌, ◌<◌, ◌%◌, ◌+◌, ℕ, List, length, map, get_or, set, refl, sym, ap, subst, ◌∙◌, arith}
use Rattle.std.proofs.lemmas.List.{length-set, get_or-map}
use Rattle.std.specs.declared.vec.Vec.{Vec}
use Rattle.std.specs.declared.alloc.Global.{Global}
use Rattle.kmc_device.specs.Device.{Watched}
use Rattle.kmc_store.specs.Bins.{body_at}
use Rattle.kmc_slice_files.specs.Writes.{AreFramed, IsBinWritten}
use Rattle.kmc_slice_files.proofs.Framing.{none_framed, same_failures, writer_failed, writers_framed, writers_begun}
use Rattle.kmc_slice_files.proofs.round.write_round.Goals as goal

pub loop-b-init : goal.loop-b-init
loop-b-init g c = record {
  wide = refl;
  counted = c.requires.counts;
  same = refl;
  framed = none_framed _ _ _ _ c.args.counts.now (λ s inside. omega (arith, c.type_inv.counts s));
}

pub returns-in-Err-clause-failed : goal.returns-in-Err-clause-failed
returns-in-Err-clause-failed g c =
    writer_failed (λ (w : Watched g.row.W.Denot). g.W.Write.contents w.inner) c.loop-b.writers c.index-writers-s.result c.write_bin.new.writer
    (c.loop-b.b % length c.args.writers.now) (omega (arith, c.requires.some, c.loop-b.invariant.wide)) _ c.loop-b.invariant.same
    c.in-Err.ensures.failed

pub returns-in-Err-clause-begun : goal.returns-in-Err-clause-begun
returns-in-Err-clause-begun g c =
    writers_begun (λ (w : Watched g.row.W.Denot). g.W.Write.contents w.inner) c.loop-b.writers c.index-writers-s.result c.write_bin.new.writer
    (c.loop-b.b % length c.args.writers.now) (omega (arith, c.requires.some, c.loop-b.invariant.wide)) _ _ _ _ _ _ _ c.loop-b.invariant.framed
    c.loop-b-test.true refl c.loop-b.invariant.wide c.loop-b.invariant.counted c.in-Err.ensures.front

pub loop-b-preserved : goal.loop-b-preserved
loop-b-preserved g c =
    let inv = c.loop-b.invariant in
    let b = c.loop-b.b in
    let s = b % length c.args.writers.now in
    let hold = λ (w : Watched g.row.W.Denot). g.W.Write.contents w.inner in
    let inside : s < length c.loop-b.writers = omega (arith, c.requires.some, inv.wide) in
    let body : c.deref.result.now ≡ body_at (map (λ (v : Vec ℕ Global). v.items) c.args.bodies.now) b =
    c.deref.ensures.value ∙ ap (λ (v : Vec ℕ Global). v.items) c.index-bodies-b.is
    ∙ sym (get_or-map (λ (v : Vec ℕ Global). v.items) c.args.bodies.now b c.index-bodies-b.result _ c.loop-b-test.true) in
    record {
      wide = length-set c.loop-b.writers s c.write_bin.new.writer ∙ inv.wide;
      counted = length-set c.loop-b.counts s c.saturating_add.result ∙ inv.counted;
      same = same_failures hold c.loop-b.writers c.index-writers-s.result c.write_bin.new.writer s inside c.in-Ok.ensures.kept ∙ inv.same;
      framed =
          subst (λ x. AreFramed (length c.args.bodies.now) (length c.args.writers.now) (b + 1)
          (map (λ (v : Vec ℕ Global). v.items) c.args.bodies.now) (map hold c.args.writers.now)
          (map hold (set c.loop-b.writers s c.write_bin.new.writer)) c.args.counts.now (set c.loop-b.counts s x))
          (omega (arith, c.saturating_add.ensures))
          (writers_framed hold c.loop-b.writers c.index-writers-s.result c.write_bin.new.writer s inside _ _ _ _ _ _ _ inv.framed c.loop-b-test.true
          refl inv.wide inv.counted c.in-Ok.frames
          (subst (λ (l : List ℕ). IsBinWritten b l c.in-Ok.frames (hold (get_or c.loop-b.writers s c.index-writers-s.result))
          (hold c.write_bin.new.writer)) body c.in-Ok.ensures.ok));
    }
